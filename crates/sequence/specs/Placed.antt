-- One sequence by the places that its entries state, each 0 where the entry is negative: the rules of its entries over these places, and
-- what decoding answers and writes. proofs/Own.antt shows that they decide as the entries do.
-- Assumes nothing.
use Rattle.std.specs.Prelude.{List, [], ◌∷◌, ◌++◌, ℕ, ◌-◌, leb, ltb, eqb, length, get_or, Result, Ok, Err}
use Rattle.laws.specs.Rules.{Rule, ask, verdict}
use Rattle.answers.specs.declared.Refusal.{Refusal}
use Rattle.answers.specs.declared.Refusal.TheVariants.{BadOffsets, BadSeparator}
use Rattle.volume.specs.Tables.{sequence_start, protein_end, dna_end, two_bit_length}
use Rattle.sequence.specs.declared.Entry.{Entry}
use Rattle.sequence.specs.Corrections.{range_rules}
use Rattle.sequence.specs.Sequence.{range_end, protein_byte_rules, room_rules, protein_residues, dna_residues}

-- ---- protein: the bytes from S[i] up to the separator before S[i+1]

abbrev pub protein_entry : List ℕ → ℕ → Entry
protein_entry index i = record { start = sequence_start index i; end = protein_end index i; next = range_end index i }

-- The bytes lie inside the file, behind its first (7), with NUL on both sides (8).
abbrev pub protein_place_rules : List ℕ → Entry → List (Rule Refusal)
protein_place_rules sequence e =
    ask (leb 1 e.start) BadOffsets
    ∷ ask (leb e.start e.end) BadOffsets
    ∷ ask (ltb e.end (length sequence)) BadOffsets
    ∷ ask (eqb (get_or sequence (e.start - 1) 0) 0) BadSeparator
    ∷ ask (eqb (get_or sequence e.end 0) 0) BadSeparator
    ∷ []

abbrev pub placed_protein : Entry → ℕ
placed_protein e = e.end - e.start

abbrev pub placed_protein_answer : List ℕ → Entry → ℕ → Result ℕ Refusal
placed_protein_answer sequence e room =
    verdict Err (Ok (placed_protein e))
    (protein_place_rules sequence e ++ (protein_byte_rules sequence e.start (placed_protein e) ++ room_rules (placed_protein e) room))

abbrev pub placed_protein_residues : List ℕ → Entry → List ℕ
placed_protein_residues sequence e = protein_residues sequence e.start (placed_protein e)

-- ---- DNA: two-bit bytes from S[i] up to A[i], the ambiguity range from there up to S[i+1]

abbrev pub dna_entry : List ℕ → ℕ → Entry
dna_entry index i = record { start = sequence_start index i; end = dna_end index i; next = range_end index i }

-- There are bytes, and they and the range lie inside the file (7).
abbrev pub dna_place_rules : List ℕ → Entry → List (Rule Refusal)
dna_place_rules sequence e =
    ask (ltb e.start e.end) BadOffsets ∷ ask (leb e.end e.next) BadOffsets ∷ ask (leb e.next (length sequence)) BadOffsets ∷ []

abbrev pub placed_dna : List ℕ → Entry → ℕ
placed_dna sequence e = two_bit_length sequence e.start e.end

abbrev pub placed_dna_answer : List ℕ → Entry → ℕ → Result ℕ Refusal
placed_dna_answer sequence e room =
    verdict Err (Ok (placed_dna sequence e))
    (dna_place_rules sequence e ++ (range_rules sequence e.end e.next (placed_dna sequence e) ++ room_rules (placed_dna sequence e) room))

abbrev pub placed_dna_residues : List ℕ → Entry → List ℕ
placed_dna_residues sequence e = dna_residues sequence e.start e.end e.next (placed_dna sequence e)
