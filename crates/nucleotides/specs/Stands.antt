-- Bytes that stand as a sequence of a DNA volume. proofs/Decodes.antt shows that decoding returns the codes of which they were written.
-- Assumes nothing.
use Rattle.std.specs.Prelude.{◌≡◌, List, ℕ, ◌+◌, ◌≤◌, ◌<◌, pos, length, take, drop}
use Rattle.volume.specs.Index.{stated_type, sequences}
use Rattle.volume.specs.Tables.{sequence_offset, ambiguity_offset}
use Rattle.volume.specs.Holds.{FieldsHold}

-- Sequence i stands from byte s of the sequence file on: so many two-bit bytes, and right behind them a table of so many.
pub record Stands (index sequence : List ℕ) (i s two_bit table : ℕ) (bytes : List ℕ) : Type 0 where
  -- no file is over 2,147,483,647 bytes
  pub index_size : length index ≤ 2147483647
  pub sequence_size : length sequence ≤ 2147483647
  -- the index has no refusal of 1 to 6, and type 0
  pub fields : FieldsHold index
  pub type : stated_type index ≡ pos 0
  pub number : i < sequences index
  -- S[i], A[i] and S[i+1]
  pub start : sequence_offset index i ≡ pos s
  pub range : ambiguity_offset index i ≡ pos (s + two_bit)
  pub next : sequence_offset index (i + 1) ≡ pos (s + two_bit + table)
  -- the bytes there
  pub inside : s + (two_bit + table) ≤ length sequence
  pub there : take (two_bit + table) (drop s sequence) ≡ bytes
