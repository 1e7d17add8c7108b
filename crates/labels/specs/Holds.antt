-- What document 01 asks of the label of a sequence, in plain statements. Crate demands shows that the label call answers 0 exactly where all of
-- them hold (proofs/Demand2Reads.antt).
-- Assumes nothing.
use Rattle.std.specs.Prelude.{List, ℕ, ◌+◌, ◌≤◌, ◌<◌, pos, length, ◌≤ℤ◌}
use Rattle.laws.specs.Signed.{to_nat}
use Rattle.headers.specs.Statement.{GoodRecord}
use Rattle.volume.specs.Index.{sequences}
use Rattle.volume.specs.Tables.{header_offset}
use Rattle.volume.specs.Holds.{FieldsHold}

-- Index, number, and the sequence's own header offsets.
pub record LabelOffsets (index header : List ℕ) (i : ℕ) : Type 0 where
  -- no file is over 2,147,483,647 bytes
  pub index_size : length index ≤ 2147483647
  pub header_size : length header ≤ 2147483647
  pub fields : FieldsHold index
  -- there is a sequence of that number
  pub number : i < sequences index
  -- 0 <= H[i] <= H[i+1] <= file length
  pub first : pos 0 ≤ℤ header_offset index i
  pub step : header_offset index i ≤ℤ header_offset index (i + 1)
  pub last : header_offset index (i + 1) ≤ℤ pos (length header)

pub record LabelHolds (index header : List ℕ) (i : ℕ) : Type 0 where
  pub offsets : LabelOffsets index header i
  -- a good record stands between them
  pub good : GoodRecord header (to_nat (header_offset index i)) (to_nat (header_offset index (i + 1)))
