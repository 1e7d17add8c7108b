-- Easel's alphabets and their residue codes (document 01, "One sequence" and "Packets").
-- Assumes nothing.
use Rattle.std.specs.Prelude.{Bool, cond, ◌&&◌, List, ℕ, leb, eqb}
use Rattle.laws.specs.Digits.{all_below}

-- The alphabets are 1 and 2, both nucleic, and 3, amino.
abbrev pub is_alphabet : ℕ → Bool
is_alphabet alphabet = leb 1 alphabet && leb alphabet 3

abbrev pub is_amino : ℕ → Bool
is_amino alphabet = eqb alphabet 3

-- Valid codes are below this: nucleic 0 to 15, amino 0 to 27.
abbrev pub code_limit : ℕ → ℕ
code_limit alphabet = cond (is_amino alphabet) 28 16

-- Every code of a sequence is valid in its alphabet.
abbrev pub valid_codes : ℕ → List ℕ → Bool
valid_codes alphabet codes = all_below (code_limit alphabet) codes
