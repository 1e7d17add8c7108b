-- The tables are right: the letter that source 001 gives a value is the letter that document 01 gives its code.
-- One test is computed over each whole table. Assumes nothing.
use mathlib.Core.Path.{◌≡◌, refl}
use mathlib.Core.Bool.{Bool, true}
use Prim.Native.Nat.{ℕ, ◌<◌}
use Prim.Native.String.{String}
use lib.Text.{eqt, eqt→eq}
use Rattle.laws.specs.Places.{every}
use Rattle.laws.proofs.Places.{every_at}
use Rattle.laws.proofs.Tests.{true_T}
use Rattle.residues.specs.Tables.{nucleic_letters, amino_letters, ambiguity_letters, protein_letters, letter_at, ambiguity_code, ambiguity_value, protein_code}

-- A value's letter, by 001, is its code's letter, by document 01.
abbrev same_letter : (values codes : String) → (ℕ → ℕ) → ℕ → Bool
same_letter values codes code v = eqt (letter_at codes (code v)) (letter_at values v)

same : (values codes : String) (code : ℕ → ℕ) (n : ℕ) → every (same_letter values codes code) n ≡ true
    → (v : ℕ) → v < n → letter_at codes (code v) ≡ letter_at values v
same values codes code n e v h =
    eqt→eq (letter_at codes (code v)) (letter_at values v) (true_T _ (every_at (same_letter values codes code) n v h e))

pub ambiguity_letters_lem : (v : ℕ) → v < 16 → letter_at nucleic_letters (ambiguity_code v) ≡ letter_at ambiguity_letters v
ambiguity_letters_lem = same ambiguity_letters nucleic_letters ambiguity_code 16 refl

pub protein_letters_lem : (v : ℕ) → v < 28 → letter_at amino_letters (protein_code v) ≡ letter_at protein_letters v
protein_letters_lem = same protein_letters amino_letters protein_code 28 refl

-- so is the table read back: a code's letter, by document 01, is its value's letter, by 001
pub value_letters : (code : ℕ) → code < 16 → letter_at ambiguity_letters (ambiguity_value code) ≡ letter_at nucleic_letters code
value_letters = same nucleic_letters ambiguity_letters ambiguity_value 16 refl
