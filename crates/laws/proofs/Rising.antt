-- Signed numbers that rise from one that is not negative. Assumes nothing.
use mathlib.Core.Path.{◌≡◌, sym, ap, subst, ◌∙◌}
use mathlib.Core.Bool.{true}
use Prim.Native.Nat.{ℕ, zero, suc, ◌+◌, ◌-◌, ◌≤◌, ◌<◌}
use native.Mathlib.Numerals.{add-one}
use native.Mathlib.Omega.{arith}
use borrow.Author.Tests.{ltb-true}
use lib.IntN.{ℤ, pos}
use lib.Signed.{lt_z, non_neg}
use Rattle.laws.specs.Signed.{to_nat}
use Rattle.laws.proofs.Sizes.{lt_sizes, sized_natural}

-- a signed number above one that is not negative
pub above_natural : (a b : ℤ) → non_neg a ≡ true → lt_z a b ≡ true → (non_neg b ≡ true) × (to_nat a < to_nat b)
above_natural a b n t =
    let h : to_nat a < to_nat b = ltb-true (to_nat a) (to_nat b) (sym (lt_sizes a b n) ∙ t) in
    (sized_natural b (omega arith), h)

module _ (z : ℕ → ℤ) (n : ℕ) (first : non_neg (z 0) ≡ true)
    (step : (i : ℕ) → i < n → non_neg (z i) ≡ true → (non_neg (z (i + 1)) ≡ true) × (to_nat (z i) < to_nat (z (i + 1)))) where
  -- none is negative
  pub natural : (i : ℕ) → i ≤ n → non_neg (z i) ≡ true
  natural zero h = first
  natural (suc i) h = subst (λ (k : ℕ). non_neg (z k) ≡ true) (add-one i) (step i (omega arith) (natural i (omega arith))).0

  -- each is at least as far above an earlier one as its place
  pub rises : (i k : ℕ) → i + k ≤ n → to_nat (z i) + k ≤ to_nat (z (i + k))
  rises i zero h = let e : i + 0 ≡ i = omega arith in rw e (omega arith)
  rises i (suc k) h =
      let e : i + suc k ≡ i + k + 1 = omega arith in
      let a = rises i k (omega arith) in
      let b = (step (i + k) (omega arith) (natural (i + k) (omega arith))).1 in
      rw e (omega arith)

  -- none lies past the last
  pub within : (m i : ℕ) → z n ≡ pos m → i < n → to_nat (z (i + 1)) ≤ m
  within m i last l =
      let a : to_nat (z n) ≡ m = ap to_nat last in
      let b = rises (i + 1) (n - (i + 1)) (omega arith) in
      let e : i + 1 + (n - (i + 1)) ≡ n = omega arith in
      let c : to_nat (z (i + 1)) + (n - (i + 1)) ≤ to_nat (z n) = subst (λ (k : ℕ). to_nat (z (i + 1)) + (n - (i + 1)) ≤ to_nat (z k)) e b in
      omega arith
