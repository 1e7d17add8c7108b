-- Laws of the alphabets and of valid codes. Assumes nothing.
use mathlib.Core.Path.{◌≡◌, refl}
use mathlib.Core.Bool.{true}
use mathlib.Core.List.{List}
use Prim.Native.Nat.{ℕ, ◌<◌, ◌≤◌}
use lib.Dec.{eqb, lit≤, lit<}
use lib.ListN.{get_or-eq_default}
use Rattle.laws.proofs.Places.{every_at}
use Rattle.laws.specs.Digits.{all_below}
use Rattle.laws.proofs.Tests.{bool_cases}
use Rattle.laws.proofs.Digits.{below_weaken}
use borrow.Author.Tests.{ltb-true, ltb-false, eqb-true}
use lib.Dec.{ltb}
use Rattle.residues.specs.Alphabets.{is_amino, code_limit, valid_codes}
use Rattle.residues.specs.Tables.{ambiguity_code, ambiguity_value, ambiguity_values, protein_code}

-- no alphabet has more than the 28 amino codes
pub limit_most : (alphabet : ℕ) → code_limit alphabet ≤ 28
limit_most alphabet = bool_cases (is_amino alphabet) (λ e. rw e (lit≤ tt)) (λ e. rw e (lit≤ tt))

pub valid-below : (alphabet : ℕ) (codes : List ℕ) → valid_codes alphabet codes ≡ true → all_below 28 codes ≡ true
valid-below alphabet codes e = below_weaken (code_limit alphabet) 28 codes (limit_most alphabet) e

-- the tables hold valid codes
pub ambiguity_valid : (v : ℕ) → v < 16 → ambiguity_code v < 16
ambiguity_valid v h = ltb-true _ _ (every_at (λ k. ltb (ambiguity_code k) 16) 16 v h refl)

pub protein-valid : (v : ℕ) → v < 28 → protein_code v < 28
protein-valid v h = ltb-true _ _ (every_at (λ k. ltb (protein_code k) 28) 28 v h refl)

-- the value of a nucleic code is below 16, becomes that code, and no other does
pub value-valid : (code : ℕ) → ambiguity_value code < 16
value-valid code =
    bool_cases (ltb code 16) (λ e. ltb-true _ _ (every_at (λ k. ltb (ambiguity_value k) 16) 16 code (ltb-true code 16 e) refl))
    (λ e. rw (get_or-eq_default ambiguity_values 0 (ltb-false code 16 e)) (lit< tt))

pub code_of_value : (code : ℕ) → code < 16 → ambiguity_code (ambiguity_value code) ≡ code
code_of_value code h = eqb-true _ _ (every_at (λ k. eqb (ambiguity_code (ambiguity_value k)) k) 16 code h refl)

pub value_of_code : (v : ℕ) → v < 16 → ambiguity_value (ambiguity_code v) ≡ v
value_of_code v h = eqb-true _ _ (every_at (λ k. eqb (ambiguity_value (ambiguity_code k)) k) 16 v h refl)
