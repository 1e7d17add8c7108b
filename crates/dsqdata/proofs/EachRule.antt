-- Rules that are asked number by number, as a loop that counts up asks them. Assumes nothing.
use mathlib.Core.Path.{◌≡◌, refl, sym, ap, ◌∙◌}
use mathlib.Core.Logic.{⊎_elim}
use mathlib.Core.List.{List, [], ◌++◌, append_assoc, append-nil}
use Prim.Native.Nat.{ℕ, zero, suc, ◌+◌, ◌<◌}
use native.Mathlib.Omega.{arith}
use native.Mathlib.Numerals.{add-one}
use native.Mathlib.Nat.{eq-or-lt_of_le, le_of_suc-le-suc, not-suc-le-zero}
use Rattle.laws.specs.Rules.{Rule, verdict, AllHold}
use Rattle.laws.proofs.Rules.{verdict-passes, verdict-append, hold-append, hold-first, hold-second}
use Rattle.answers.specs.declared.Refusal.{Refusal}
use Rattle.std.specs.Prelude.{Result, Err}
use Rattle.answers.specs.Limits.{checked_by}
use Rattle.answers.proofs.Checks.{refused-first}
use Rattle.dsqdata.specs.Check.{rules_to}

module _ (f : ℕ → List (Rule Refusal)) where
  -- one number more
  pub rules_more : (k : ℕ) → AllHold (rules_to f k) → AllHold (f k) → AllHold (rules_to f (k + 1))
  rules_more k h g = rw add-one (hold-append (rules_to f k) (f k) h g)

  -- the rules from a number on
  rules_from : (n k : ℕ) → k < n → (rest : List (Rule Refusal)) × (rules_to f n ≡ rules_to f k ++ (f k ++ rest))
  rules_from zero k l = absurd (not-suc-le-zero l)
  rules_from (suc n) k l =
      ⊎_elim (λ e. ([], rw e (ap (λ (l : List (Rule Refusal)). rules_to f n ++ l) (sym (append-nil (f n))))))
      (λ m. let p = rules_from n k m in (p.0 ++ f n, rw p.1 (simp append_assoc)))
      (eq-or-lt_of_le (le_of_suc-le-suc l))

  -- the first number whose rules refuse decides
  pub rules_refused : (n k : ℕ) (c : Result Unit Refusal) (r : Refusal) → k < n → AllHold (rules_to f k) → c ≡ checked_by (f k) → c ≡ Err r
      → {B : Type 0} (told : Refusal → B) (fine : B) → verdict told fine (rules_to f n) ≡ told r
  rules_refused n k c r l h e g told fine =
      let p = rules_from n k l in
      ap (verdict told fine) p.1
      ∙ verdict-append told fine (rules_to f k) (f k ++ p.0)
      ∙ verdict-passes told (verdict told fine (f k ++ p.0)) (rules_to f k) h
      ∙ refused-first (f k) p.0 c r e g told fine

  -- what holds of all numbers holds of each, and back
  pub rules_at : (n k : ℕ) → k < n → AllHold (rules_to f n) → AllHold (f k)
  rules_at zero k l h = absurd (not-suc-le-zero l)
  rules_at (suc n) k l h =
      ⊎_elim (λ e. rw e (hold-second (rules_to f n) (f n) h)) (λ m. rules_at n k m (hold-first (rules_to f n) (f n) h)) (eq-or-lt_of_le (le_of_suc-le-suc l))

  pub rules_all : (n : ℕ) → ((k : ℕ) → k < n → AllHold (f k)) → AllHold (rules_to f n)
  rules_all zero h = tt
  rules_all (suc n) h = hold-append (rules_to f n) (f n) (rules_all n (λ k l. h k (omega arith))) (h n (omega arith))

-- rules that are the same number by number
pub rules_same : (f g : ℕ → List (Rule Refusal)) (n : ℕ) → ((k : ℕ) → k < n → f k ≡ g k) → rules_to f n ≡ rules_to g n
rules_same f g zero h = refl
rules_same f g (suc n) h = rw (rules_same f g n (λ k l. h k (omega arith)), h n (omega arith))
