-- The offsets of a volume, and the rules of its tables, over the whole volume: all of 7 before 8, and 8 before 9.
-- Assumes nothing.
use Rattle.std.specs.Prelude.{◌≡◌, Bool, cond, ◌&&◌, List, [], ◌∷◌, ◌++◌, ℕ, ◌+◌, ◌*◌, ◌-◌, ◌%◌, ◌<◌, eqb, ltb, ℤ, pos, length, get_or}
use Rattle.std.specs.Int.Signed.{lt_z, le_z}
use Rattle.laws.specs.Places.{every, sum_to, largest_to}
use Rattle.laws.specs.Rules.{Rule, ask}
use Rattle.laws.specs.Signed.{to_nat, eq_z}
use Rattle.fields.specs.Number.{big, signed_at}
use Rattle.answers.specs.declared.Refusal.{Refusal}
use Rattle.answers.specs.declared.Refusal.TheVariants.{BadOffsets, BadSeparator, WrongTotals}
use Rattle.volume.specs.Index.{is_protein, sequences, residue_count, longest, header_table, sequence_table, ambiguity_table}

-- ---- offsets

-- Offset k of the table at a place, signed.
unfoldable pub offset_at : List ℕ → ℕ → ℕ → ℤ
offset_at index table k = signed_at big 4 index (table + 4 * k)

abbrev pub header_offset : List ℕ → ℕ → ℤ
header_offset index k = offset_at index (header_table index) k

-- S[k].
abbrev pub sequence_offset : List ℕ → ℕ → ℤ
sequence_offset index k = offset_at index (sequence_table index) k

-- A[k].
abbrev pub ambiguity_offset : List ℕ → ℕ → ℤ
ambiguity_offset index k = offset_at index (ambiguity_table index) k

-- ---- offsets (7)

-- Offset k + 1 of the table at a place is not below offset k; it is above it.
abbrev pub not_below : List ℕ → ℕ → ℕ → Bool
not_below index table k = le_z (offset_at index table k) (offset_at index table (k + 1))

abbrev pub above : List ℕ → ℕ → ℕ → Bool
above index table k = lt_z (offset_at index table k) (offset_at index table (k + 1))

-- The call of a test for each of n offsets and the one behind it answers what `test` has there.
abbrev pub StepsTell : (ℕ → ℤ) → (ℤ → ℤ → Bool → Type 0) → (ℕ → Bool) → ℕ → Type 0
StepsTell offset answers test n = (k : ℕ) (answer : Bool) → k < n → answers (offset k) (offset (k + 1)) answer → answer ≡ test k

-- S[k] < A[k] <= S[k+1], for the tables at two places.
abbrev pub ambiguity_between : List ℕ → ℕ → ℕ → ℕ → Bool
ambiguity_between index s a k = lt_z (offset_at index s k) (offset_at index a k) && le_z (offset_at index a k) (offset_at index s (k + 1))

-- Headers: first 0, never falling, last equal to the header file's length.
abbrev pub header_offset_rules : List ℕ → List ℕ → List (Rule Refusal)
header_offset_rules index header =
    ask (eq_z (header_offset index 0) (pos 0)) BadOffsets
    ∷ ask (every (not_below index (header_table index)) (sequences index)) BadOffsets
    ∷ ask (eq_z (header_offset index (sequences index)) (pos (length header))) BadOffsets
    ∷ []

-- Protein S: first 1, each at least one above the previous, last the file's length.
abbrev pub protein_offset_rules : List ℕ → List ℕ → List (Rule Refusal)
protein_offset_rules index sequence =
    ask (eq_z (sequence_offset index 0) (pos 1)) BadOffsets
    ∷ ask (every (above index (sequence_table index)) (sequences index)) BadOffsets
    ∷ ask (eq_z (sequence_offset index (sequences index)) (pos (length sequence))) BadOffsets
    ∷ []

-- The first offset of a nucleotide file.
abbrev pub first_nucleotide_offset : ℕ
first_nucleotide_offset = 0

-- DNA: S[0] is 0; S[i] < A[i] <= S[i+1]; S[N] and A[N] equal the file's length.
abbrev pub dna_offset_rules : List ℕ → List ℕ → List (Rule Refusal)
dna_offset_rules index sequence =
    ask (eq_z (sequence_offset index 0) (pos first_nucleotide_offset)) BadOffsets
    ∷ ask (every (ambiguity_between index (sequence_table index) (ambiguity_table index)) (sequences index)) BadOffsets
    ∷ ask (eq_z (sequence_offset index (sequences index)) (pos (length sequence))) BadOffsets
    ∷ ask (eq_z (ambiguity_offset index (sequences index)) (pos (length sequence))) BadOffsets
    ∷ []

abbrev pub sequence_offset_rules : List ℕ → List ℕ → List (Rule Refusal)
sequence_offset_rules index sequence = cond (is_protein index) (protein_offset_rules index sequence) (dna_offset_rules index sequence)

-- All rules of offsets.
abbrev pub offset_rules : List ℕ → List ℕ → List ℕ → List (Rule Refusal)
offset_rules index sequence header = header_offset_rules index header ++ sequence_offset_rules index sequence

-- ---- sequences: where one starts and ends, and its length

-- Protein sequence k is the bytes from S[k] up to, not including, S[k+1]-1; DNA sequence k is packed in those from S[k] up to A[k].
abbrev pub sequence_start : List ℕ → ℕ → ℕ
sequence_start index k = to_nat (sequence_offset index k)

abbrev pub protein_end : List ℕ → ℕ → ℕ
protein_end index k = to_nat (sequence_offset index (k + 1)) - 1

abbrev pub dna_end : List ℕ → ℕ → ℕ
dna_end index k = to_nat (ambiguity_offset index k)

unfoldable pub protein_length : List ℕ → ℕ → ℕ
protein_length index k = protein_end index k - sequence_start index k

-- The length of two-bit bytes from a start up to an end: 4 times the bytes before the last one, plus its low two bits.
abbrev pub two_bit_length : List ℕ → ℕ → ℕ → ℕ
two_bit_length sequence start end = 4 * (end - start - 1) + get_or sequence (end - 1) 0 % 4

unfoldable pub dna_length : List ℕ → List ℕ → ℕ → ℕ
dna_length index sequence k = two_bit_length sequence (sequence_start index k) (dna_end index k)

-- The length of each sequence, by the type.
abbrev pub sequence_length : List ℕ → List ℕ → ℕ → ℕ
sequence_length index sequence = cond (is_protein index) (protein_length index) (dna_length index sequence)

-- The length of a sequence by its number; 0 where there is no sequence of that number.
unfoldable pub length_of_number : List ℕ → List ℕ → ℕ → ℕ
length_of_number index sequence number = cond (ltb number (sequences index)) (sequence_length index sequence number) 0

-- ---- separators (8) and totals (9)

-- Protein: byte 0 and the byte before each later offset are NUL.
abbrev pub protein_separator_rules : List ℕ → List ℕ → List (Rule Refusal)
protein_separator_rules index sequence =
    ask (eqb (get_or sequence 0 0) 0) BadSeparator
    ∷ ask (every (λ k. eqb (get_or sequence (protein_end index k) 0) 0) (sequences index)) BadSeparator
    ∷ []

abbrev pub separator_rules : List ℕ → List ℕ → List (Rule Refusal)
separator_rules index sequence = cond (is_protein index) (protein_separator_rules index sequence) []

-- A sum is the residue count and a largest length is the longest.
abbrev pub stated_rules : List ℕ → ℕ → ℕ → List (Rule Refusal)
stated_rules index sum largest = ask (eqb sum (residue_count index)) WrongTotals ∷ ask (eqb largest (longest index)) WrongTotals ∷ []

-- The sum of lengths is the residue count and the largest is the longest, 0 for N = 0.
abbrev pub totals_of : List ℕ → (ℕ → ℕ) → List (Rule Refusal)
totals_of index length_of = stated_rules index (sum_to length_of (sequences index)) (largest_to length_of (sequences index))

abbrev pub total_rules : List ℕ → List ℕ → List (Rule Refusal)
total_rules index sequence = totals_of index (sequence_length index sequence)
