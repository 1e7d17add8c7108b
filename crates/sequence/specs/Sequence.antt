-- One sequence of a volume decoded: its rules in the order of document 01, its residues, and what the output holds.
-- Assumes nothing.
use Rattle.std.specs.Prelude.{Bool, cond, List, [], ◌∷◌, ◌++◌, ℕ, ◌+◌, ◌-◌, leb, ltb, eqb, pos, length, get_or, Result, Ok, Err}
use Rattle.std.specs.Int.Signed.{le_z, lt_z}
use Rattle.laws.specs.Places.{every, list_to}
use Rattle.laws.specs.Rules.{Rule, ask, verdict}
use Rattle.laws.specs.Signed.{to_nat}
use Rattle.laws.specs.Writing.{written_at}
use Rattle.answers.specs.Limits.{bytes_fit}
use Rattle.answers.specs.Numbers.{number_of}
use Rattle.answers.specs.declared.Refusal.{Refusal}
use Rattle.answers.specs.declared.Refusal.TheVariants.{TooLarge, NoSuchSequence, BadOffsets, BadSeparator, BadProteinByte, NoRoom}
use Rattle.residues.specs.Tables.{protein_code}
use Rattle.volume.specs.Index.{is_protein, sequences, read_rules}
use Rattle.volume.specs.Tables.{sequence_offset, ambiguity_offset, sequence_start, protein_end, dna_end, protein_length, dna_length, sequence_length}
use Rattle.sequence.specs.Bases.{two_bit_residues}
use Rattle.sequence.specs.Corrections.{range_rules, range_corrections, corrected}

-- ---- rules

-- There is a sequence of that number (10).
abbrev pub number_rules : List ℕ → ℕ → List (Rule Refusal)
number_rules index i = ask (ltb i (sequences index)) NoSuchSequence ∷ []

-- This sequence's own entries, protein: 1 <= S[i] < S[i+1] <= file length (7) and NUL on both sides (8).
abbrev pub protein_entry_rules : List ℕ → List ℕ → ℕ → List (Rule Refusal)
protein_entry_rules index sequence i =
    ask (le_z (pos 1) (sequence_offset index i)) BadOffsets
    ∷ ask (lt_z (sequence_offset index i) (sequence_offset index (i + 1))) BadOffsets
    ∷ ask (le_z (sequence_offset index (i + 1)) (pos (length sequence))) BadOffsets
    ∷ ask (eqb (get_or sequence (sequence_start index i - 1) 0) 0) BadSeparator
    ∷ ask (eqb (get_or sequence (protein_end index i) 0) 0) BadSeparator
    ∷ []

-- Byte k from a start on.
abbrev pub byte_from : List ℕ → ℕ → ℕ → ℕ
byte_from sequence start k = get_or sequence (start + k) 0

-- The largest protein byte.
abbrev pub most_protein_byte : ℕ
most_protein_byte = 27

-- No byte of l protein bytes from a start on is above it (11).
abbrev pub is_protein_byte : List ℕ → ℕ → ℕ → Bool
is_protein_byte sequence start k = leb (byte_from sequence start k) most_protein_byte

abbrev pub protein_byte_rules : List ℕ → ℕ → ℕ → List (Rule Refusal)
protein_byte_rules sequence start l = ask (every (is_protein_byte sequence start) l) BadProteinByte ∷ []

abbrev pub protein_rules : List ℕ → List ℕ → ℕ → List (Rule Refusal)
protein_rules index sequence i = protein_entry_rules index sequence i ++ protein_byte_rules sequence (sequence_start index i) (protein_length index i)

-- This sequence's own entries, DNA: 0 <= S[i] < A[i] <= S[i+1] <= file length (7).
abbrev pub dna_entry_rules : List ℕ → List ℕ → ℕ → List (Rule Refusal)
dna_entry_rules index sequence i =
    ask (le_z (pos 0) (sequence_offset index i)) BadOffsets
    ∷ ask (lt_z (sequence_offset index i) (ambiguity_offset index i)) BadOffsets
    ∷ ask (le_z (ambiguity_offset index i) (sequence_offset index (i + 1))) BadOffsets
    ∷ ask (le_z (sequence_offset index (i + 1)) (pos (length sequence))) BadOffsets
    ∷ []

-- The ambiguity range of sequence i, from A[i] up to S[i+1].
abbrev pub range_end : List ℕ → ℕ → ℕ
range_end index i = to_nat (sequence_offset index (i + 1))

abbrev pub dna_rules : List ℕ → List ℕ → ℕ → List (Rule Refusal)
dna_rules index sequence i =
    dna_entry_rules index sequence i ++ range_rules sequence (dna_end index i) (range_end index i) (dna_length index sequence i)

abbrev pub sequence_rules : List ℕ → List ℕ → ℕ → List (Rule Refusal)
sequence_rules index sequence i = cond (is_protein index) (protein_rules index sequence i) (dna_rules index sequence i)

-- The output has room for the residues (13).
abbrev pub room_rules : ℕ → ℕ → List (Rule Refusal)
room_rules l room = ask (leb l room) NoRoom ∷ []

-- The rules after those of the index.
abbrev pub own_rules : List ℕ → List ℕ → ℕ → ℕ → List (Rule Refusal)
own_rules index sequence i room = number_rules index i ++ (sequence_rules index sequence i ++ room_rules (sequence_length index sequence i) room)

-- All rules of decoding sequence i into an output of so much room: 22 for either file; 1 to 6 for the index; the rest.
unfoldable pub decode_rules : List ℕ → List ℕ → ℕ → ℕ → List (Rule Refusal)
decode_rules index sequence i room = ask (bytes_fit sequence) TooLarge ∷ (read_rules index ++ own_rules index sequence i room)

-- ---- residues

-- The residues of a protein: the code of each byte; a NUL inside is a gap.
abbrev pub protein_residues : List ℕ → ℕ → ℕ → List ℕ
protein_residues sequence start l = list_to (λ k. protein_code (byte_from sequence start k)) l

-- The residues of a DNA sequence: those of its two-bit bytes, with each correction painted over them.
abbrev pub dna_residues : List ℕ → ℕ → ℕ → ℕ → ℕ → List ℕ
dna_residues sequence start place end l = corrected (range_corrections sequence place end) (two_bit_residues sequence start l)

-- The residues of sequence i, by the type.
abbrev pub protein_decoded : List ℕ → List ℕ → ℕ → List ℕ
protein_decoded index sequence i = protein_residues sequence (sequence_start index i) (protein_length index i)

abbrev pub dna_decoded : List ℕ → List ℕ → ℕ → List ℕ
dna_decoded index sequence i =
    dna_residues sequence (sequence_start index i) (dna_end index i) (range_end index i) (dna_length index sequence i)

unfoldable pub residues_of : List ℕ → List ℕ → ℕ → List ℕ
residues_of index sequence i = cond (is_protein index) (protein_decoded index sequence i) (dna_decoded index sequence i)

-- ---- the answer

-- L, or the refusal.
unfoldable pub decode_answer : List ℕ → List ℕ → ℕ → ℕ → Result ℕ Refusal
decode_answer index sequence i room = verdict Err (Ok (sequence_length index sequence i)) (decode_rules index sequence i room)

-- The answer where the rules of the index hold.
abbrev pub own_answer : List ℕ → List ℕ → ℕ → ℕ → Result ℕ Refusal
own_answer index sequence i room = verdict Err (Ok (sequence_length index sequence i)) (own_rules index sequence i room)

-- What the output holds afterwards: on success the first L bytes are the codes and the rest is unchanged; on a refusal all is unchanged.
abbrev pub written_by : Result ℕ Refusal → List ℕ → List ℕ → List ℕ
written_by (Ok l) codes output = written_at 0 codes output
written_by (Err r) codes output = output

unfoldable pub decode_output : List ℕ → List ℕ → ℕ → List ℕ → List ℕ
decode_output index sequence i output =
    written_by (decode_answer index sequence i (length output)) (residues_of index sequence i) output

-- Document 01's number of an answer, and its values.
abbrev pub decode_number : Result ℕ Refusal → ℕ
decode_number (Ok l) = 0
decode_number (Err r) = number_of r

abbrev pub decode_values : Result ℕ Refusal → List ℕ
decode_values (Ok l) = l ∷ []
decode_values (Err r) = []
