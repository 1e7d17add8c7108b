-- Signed numbers compare as the sizes that they state, where they are not negative. Assumes nothing.
use mathlib.Core.Path.{◌≡◌, refl, sym}
use mathlib.Core.Bool.{true}
use Prim.Native.Nat.{ℕ, ◌<◌}
use native.Mathlib.Omega.{arith}
use borrow.Author.Tests.{le-leb, lt-leb, le-ltb}
use lib.Dec.{leb, ltb}
use lib.IntN.{ℤ, pos, negsuc}
use lib.Signed.{lt_z, le_z, non_neg}
use Rattle.laws.specs.Signed.{to_nat}
use Rattle.laws.proofs.Tests.{never}

pub lt_sizes : (a b : ℤ) → non_neg a ≡ true → lt_z a b ≡ ltb (to_nat a) (to_nat b)
lt_sizes (pos a) (pos b) e = refl
lt_sizes (pos a) (negsuc b) e = sym (le-ltb a 0 (omega arith))
lt_sizes (negsuc a) b e = never e

pub le_sizes : (a b : ℤ) → 0 < to_nat a → le_z a b ≡ leb (to_nat a) (to_nat b)
le_sizes (pos a) (pos b) h = refl
le_sizes (pos a) (negsuc b) h = sym (lt-leb a 0 h)
le_sizes (negsuc a) b h = absurd (let z : ⊥ = omega arith in z)

pub at_most_size : (z : ℤ) (n : ℕ) → le_z z (pos n) ≡ leb (to_nat z) n
at_most_size (pos m) n = refl
at_most_size (negsuc m) n = sym (le-leb 0 n (omega arith))

pub at_least_size : (n : ℕ) (z : ℤ) → 0 < n → le_z (pos n) z ≡ leb n (to_nat z)
at_least_size n (pos m) h = refl
at_least_size n (negsuc m) h = sym (lt-leb n 0 h)

pub sized_natural : (z : ℤ) → 0 < to_nat z → non_neg z ≡ true
sized_natural (pos n) h = refl
sized_natural (negsuc n) h = absurd (let z : ⊥ = omega arith in z)
