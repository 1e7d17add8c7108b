-- The letters of codes and values, and the tables that turn a volume's values into Easel codes.
-- proofs/Letters.antt shows of each table that a value's letter is its code's letter.
-- Assumes nothing.
use Rattle.std.specs.Prelude.{List, [], ◌∷◌, ℕ, ◌+◌, get_or}
use Prim.Native.String.{String, slice}

-- Document 01: the letters of the nucleic codes 0 to 15 and of the amino codes 0 to 27.
abbrev pub nucleic_letters : String
nucleic_letters = "ACGT-RYMKSWHBVDN"

abbrev pub amino_letters : String
amino_letters = "ACDEFGHIKLMNPQRSTVWY-BJZOUX*"

-- Source 001: the letters of the ambiguity values 0 to 15 and of the protein values 0 to 27. Its "V" at protein value 3 is a
-- misprint for C, as document 01's list has it.
abbrev pub ambiguity_letters : String
ambiguity_letters = "-ACMGRSVTWYHKDBN"

abbrev pub protein_letters : String
protein_letters = "-ABCDEFGHIKLMNPQRSTVWXYZU*OJ"

-- The letter at a place of such a list.
abbrev pub letter_at : String → ℕ → String
letter_at letters place = slice letters place (place + 1)

-- Document 01: what the ambiguity values 0 to 15 become.
abbrev pub ambiguity_codes : List ℕ
ambiguity_codes = 4 ∷ 0 ∷ 1 ∷ 7 ∷ 2 ∷ 5 ∷ 9 ∷ 13 ∷ 3 ∷ 10 ∷ 6 ∷ 11 ∷ 8 ∷ 14 ∷ 12 ∷ 15 ∷ []

-- Document 01: what the protein values 0 to 27 become.
abbrev pub protein_codes : List ℕ
protein_codes =
    20 ∷ 0 ∷ 21 ∷ 1 ∷ 2 ∷ 3 ∷ 4 ∷ 5 ∷ 6 ∷ 7 ∷ 8 ∷ 9 ∷ 10 ∷ 11 ∷ 12 ∷ 13 ∷ 14 ∷ 15 ∷ 16 ∷ 17 ∷ 18 ∷ 26 ∷ 19 ∷ 23 ∷ 25 ∷ 27 ∷ 24 ∷ 22 ∷ []

-- The ambiguity values that become the nucleic codes 0 to 15: the table above, read back.
abbrev pub ambiguity_values : List ℕ
ambiguity_values = 1 ∷ 2 ∷ 4 ∷ 8 ∷ 0 ∷ 5 ∷ 10 ∷ 3 ∷ 12 ∷ 6 ∷ 9 ∷ 11 ∷ 14 ∷ 7 ∷ 13 ∷ 15 ∷ []

-- The Easel code of an ambiguity value and of a protein value; 0 for a number that is no such value.
abbrev pub ambiguity_code : ℕ → ℕ
ambiguity_code v = get_or ambiguity_codes v 0

abbrev pub protein_code : ℕ → ℕ
protein_code v = get_or protein_codes v 0

-- The ambiguity value of a nucleic code; 0 for a number that is no such code.
abbrev pub ambiguity_value : ℕ → ℕ
ambiguity_value code = get_or ambiguity_values code 0
