-- Signed numbers: tests, the sizes they state, and the bits in which the machine holds them. Assumes nothing.
use mathlib.Core.Path.{◌≡◌, refl, sym, ap, ◌∙◌}
use mathlib.Core.Bool.{true, false}
use Prim.Native.Nat.{ℕ, ◌^◌, ◌<◌}
use native.Mathlib.Omega.{arith}
use lib.Dec.{T, eqb}
use lib.IntN.{ℤ, pos, negsuc, nat_abs}
use lib.Signed.{lt_z, le_z, non_neg, mag, ◌≤ℤ◌, ◌<ℤ◌}
use borrow.Author.Tests.{le-leb, lt-leb, lt-ltb, le-ltb, leb-true, leb-false, ltb-true, ltb-false, eqb-true, eq-eqb}
use mir.Syntax.{Width, w64}
use mir.Val.{Fits, SFits, to_z, of_z, hbits}
use mir.ValLaws.{to_z-of_z}
use Rattle.laws.specs.Signed.{to_nat, eq_z}
use Rattle.laws.proofs.Tests.{never, true_T, T_true}

-- ---- the order, as the tests decide it

pub le_test : (a b : ℤ) → le_z a b ≡ true → a ≤ℤ b
le_test a b e = record { le = true_T (le_z a b) e }

pub test_le : (a b : ℤ) → a ≤ℤ b → le_z a b ≡ true
test_le a b h = T_true (le_z a b) h.le

pub lt_test : (a b : ℤ) → lt_z a b ≡ true → a <ℤ b
lt_test a b e = record { lt = true_T (lt_z a b) e }

pub test_lt : (a b : ℤ) → a <ℤ b → lt_z a b ≡ true
test_lt a b h = T_true (lt_z a b) h.lt

pub eq_test : (a b : ℤ) → eq_z a b ≡ true → a ≡ b
eq_test (pos a) (pos b) e = ap pos (eqb-true a b e)
eq_test (pos a) (negsuc b) e = never e
eq_test (negsuc a) (pos b) e = never e
eq_test (negsuc a) (negsuc b) e = ap negsuc (eqb-true a b e)

same : (a : ℤ) → eq_z a a ≡ true
same (pos a) = eq-eqb a a refl
same (negsuc a) = eq-eqb a a refl

pub test_eq : (a b : ℤ) → a ≡ b → eq_z a b ≡ true
test_eq a b e = rw e (same b)

-- one order's test fails where the other's passes
pub not_lt : (a b : ℤ) → le_z b a ≡ true → lt_z a b ≡ false
not_lt (pos a) (pos b) e = le-ltb a b (leb-true b a e)
not_lt (pos a) (negsuc b) e = refl
not_lt (negsuc a) (pos b) e = never e
not_lt (negsuc a) (negsuc b) e = le-ltb b a (leb-true a b e)

pub not_le : (a b : ℤ) → lt_z b a ≡ true → le_z a b ≡ false
not_le (pos a) (pos b) e = lt-leb a b (ltb-true b a e)
not_le (pos a) (negsuc b) e = refl
not_le (negsuc a) (pos b) e = never e
not_le (negsuc a) (negsuc b) e = lt-leb b a (ltb-true a b e)

pub lt_of_not : (a b : ℤ) → le_z b a ≡ false → lt_z a b ≡ true
lt_of_not (pos a) (pos b) e = lt-ltb a b (leb-false b a e)
lt_of_not (pos a) (negsuc b) e = never (sym e)
lt_of_not (negsuc a) (pos b) e = refl
lt_of_not (negsuc a) (negsuc b) e = lt-ltb b a (leb-false a b e)

pub le_of_not : (a b : ℤ) → lt_z b a ≡ false → le_z a b ≡ true
le_of_not (pos a) (pos b) e = le-leb a b (ltb-false b a e)
le_of_not (pos a) (negsuc b) e = never (sym e)
le_of_not (negsuc a) (pos b) e = refl
le_of_not (negsuc a) (negsuc b) e = le-leb b a (ltb-false a b e)

-- a test of the machine's numbers x and y, for the numbers a and b that they are
module _ {x y a b : ℤ} (p : x ≡ a) (q : y ≡ b) where
  pub falls : lt_z y x ≡ true → le_z a b ≡ false
  falls t = not_le a b (rw (p, q) at t)

  pub never_falls : lt_z y x ≡ false → le_z a b ≡ true
  never_falls t = le_of_not a b (rw (p, q) at t)

  pub not-above : le_z y x ≡ true → lt_z a b ≡ false
  not-above t = not_lt a b (rw (p, q) at t)

  pub above : le_z y x ≡ false → lt_z a b ≡ true
  above t = lt_of_not a b (rw (p, q) at t)

-- ---- numbers that are not negative

-- what is at least 0 is the size that it states
pub states_itself : (z : ℤ) → non_neg z ≡ true → z ≡ pos (to_nat z)
states_itself (pos n) e = refl
states_itself (negsuc n) e = never e

pub at_least_zero : (z : ℤ) → le_z (pos 0) z ≡ non_neg z
at_least_zero (pos n) = le-leb 0 n (omega arith)
at_least_zero (negsuc n) = refl

pub to_nat_negative : (z : ℤ) → lt_z z (pos 0) ≡ true → 0 ≡ to_nat z
to_nat_negative (pos n) e = absurd (let l = ltb-true n 0 e in let z : ⊥ = omega arith in z)
to_nat_negative (negsuc n) e = refl

pub to_nat_natural : (z : ℤ) → lt_z z (pos 0) ≡ false → nat_abs z ≡ to_nat z
to_nat_natural (pos n) e = refl
to_nat_natural (negsuc n) e = never (sym e)

pub to_nat-below : (m : ℕ) (z : ℤ) → mag z < m → to_nat z < m
to_nat-below m (pos n) h = h
to_nat-below m (negsuc n) h = omega arith

pub eq_z_negative : (z : ℤ) (n : ℕ) → lt_z z (pos 0) ≡ true → false ≡ eq_z z (pos n)
eq_z_negative (pos m) n e = absurd (let l = ltb-true m 0 e in let z : ⊥ = omega arith in z)
eq_z_negative (negsuc m) n e = refl

pub eq_z_natural : (z : ℤ) (n : ℕ) → lt_z z (pos 0) ≡ false → eqb (nat_abs z) n ≡ eq_z z (pos n)
eq_z_natural (pos m) n e = refl
eq_z_natural (negsuc m) n e = never (sym e)

size_cast : (z : ℤ) → mag z < 9223372036854775808 → lt_z z (pos 0) ≡ false → T (non_neg z) × Fits w64 (nat_abs z)
size_cast (pos n) h e = (tt, record { fits = omega arith })
size_cast (negsuc n) h e = never (sym e)

-- ---- the machine's numbers: a signed number is its bits, read again

-- a signed result, at every width
pub again : (w : Width) (z e : ℤ) → mag z < 2 ^ hbits w → z ≡ e → to_z w (of_z w z) ≡ e
again w z e h p = to_z-of_z w z (record { sfits = h }) ∙ p

module _ (w : Width) (z : ℤ) (f : SFits w z) where
  pub bits_negative : lt_z (to_z w (of_z w z)) (pos 0) ≡ true → 0 ≡ to_nat z
  bits_negative t = to_nat_negative z (rw (to_z-of_z w z f) at t)

  pub bits_natural : lt_z (to_z w (of_z w z)) (pos 0) ≡ false → nat_abs (to_z w (of_z w z)) ≡ to_nat z
  bits_natural t = rw (to_z-of_z w z f) (to_nat_natural z (rw (to_z-of_z w z f) at t))

  pub bits_not_size : (n : ℕ) → lt_z (to_z w (of_z w z)) (pos 0) ≡ true → false ≡ eq_z z (pos n)
  bits_not_size n t = eq_z_negative z n (rw (to_z-of_z w z f) at t)

  pub bits_size : (n : ℕ) → lt_z (to_z w (of_z w z)) (pos 0) ≡ false → eqb (nat_abs (to_z w (of_z w z))) n ≡ eq_z z (pos n)
  bits_size n t = rw (to_z-of_z w z f) (eq_z_natural z n (rw (to_z-of_z w z f) at t))

  -- what is not negative may be taken as a size
  pub bits_cast : mag z < 9223372036854775808 → lt_z (to_z w (of_z w z)) (pos 0) ≡ false
      → T (non_neg (to_z w (of_z w z))) × Fits w64 (nat_abs (to_z w (of_z w z)))
  bits_cast h t = rw (to_z-of_z w z f) (size_cast z h (rw (to_z-of_z w z f) at t))
