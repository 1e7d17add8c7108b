-- What document 01 asks of one sequence and an output, rule by rule, in plain statements. proofs/Exact.antt shows that decoding
-- answers 0 exactly where all of them hold.
-- Assumes nothing.
use Rattle.std.specs.Prelude.{◌≡◌, List, ℕ, suc, ◌+◌, ◌*◌, ◌-◌, ◌≤◌, ◌<◌, pos, length, get_or, ◌≤ℤ◌, ◌<ℤ◌}
use Rattle.volume.specs.Index.{stated_type, sequences}
use Rattle.volume.specs.Tables.{sequence_offset, ambiguity_offset, sequence_start, protein_end, dna_end, protein_length, dna_length}
use Rattle.volume.specs.Holds.{FieldsHold}
use Rattle.sequence.specs.Corrections.{first_word, stated_words, correction_at, correction_end}
use Rattle.sequence.specs.Sequence.{range_end}

-- The range from a place up to an end has n entries of w bytes.
pub data HasEntries (sequence : List ℕ) (place end w n : ℕ) : Type 0 where
  -- it is empty
  empty : place ≡ end → n ≡ 0 → HasEntries sequence place end w n
  -- a word with its top bit clear, and then exactly as many words as it says, each an entry
  narrow : first_word sequence place < 2147483648 → place + 4 + 4 * stated_words sequence place ≡ end → w ≡ 4 → n ≡ stated_words sequence place
      → HasEntries sequence place end w n
  -- a word with its top bit set, and then exactly as many words as its low 31 bits say, an even count: two to an entry
  wide : 2147483648 ≤ first_word sequence place → place + 4 + 4 * stated_words sequence place ≡ end → w ≡ 8 → 2 * n ≡ stated_words sequence place
      → HasEntries sequence place end w n

-- The ambiguity range of a sequence of length l, from a place up to an end.
pub record RangeHolds (sequence : List ℕ) (place end l : ℕ) : Type 0 where
  pub width : ℕ
  pub count : ℕ
  pub entries : HasEntries sequence place end width count
  -- each entry starts at or after the end of the one before, and ends within L
  pub apart : (j : ℕ) → suc j < count
      → correction_end (correction_at sequence (place + 4) width j) ≤ (correction_at sequence (place + 4) width (suc j)).start
  pub within : (j : ℕ) → j < count → correction_end (correction_at sequence (place + 4) width j) ≤ l

-- A protein sequence.
pub record ProteinSequenceHolds (index sequence : List ℕ) (i room : ℕ) : Type 0 where
  -- 1 <= S[i] < S[i+1] <= file length
  pub first : pos 1 ≤ℤ sequence_offset index i
  pub step : sequence_offset index i <ℤ sequence_offset index (i + 1)
  pub last : sequence_offset index (i + 1) ≤ℤ pos (length sequence)
  -- NUL on both sides
  pub before : get_or sequence (sequence_start index i - 1) 0 ≡ 0
  pub behind : get_or sequence (protein_end index i) 0 ≡ 0
  -- no byte is above 27
  pub bytes : (k : ℕ) → k < protein_length index i → get_or sequence (sequence_start index i + k) 0 ≤ 27
  -- the output has room
  pub fits : protein_length index i ≤ room

-- A DNA sequence.
pub record DnaSequenceHolds (index sequence : List ℕ) (i room : ℕ) : Type 0 where
  -- 0 <= S[i] < A[i] <= S[i+1] <= file length
  pub first : pos 0 ≤ℤ sequence_offset index i
  pub above : sequence_offset index i <ℤ ambiguity_offset index i
  pub below : ambiguity_offset index i ≤ℤ sequence_offset index (i + 1)
  pub last : sequence_offset index (i + 1) ≤ℤ pos (length sequence)
  -- the ambiguity range
  pub range : RangeHolds sequence (dna_end index i) (range_end index i) (dna_length index sequence i)
  -- the output has room
  pub fits : dna_length index sequence i ≤ room

-- All that decoding sequence i into an output of so much room asks.
pub record SequenceHolds (index sequence : List ℕ) (i room : ℕ) : Type 0 where
  -- no file is over 2,147,483,647 bytes
  pub index_size : length index ≤ 2147483647
  pub sequence_size : length sequence ≤ 2147483647
  pub fields : FieldsHold index
  -- there is a sequence of that number
  pub number : i < sequences index
  pub protein : stated_type index ≡ pos 1 → ProteinSequenceHolds index sequence i room
  pub dna : stated_type index ≡ pos 0 → DnaSequenceHolds index sequence i room
