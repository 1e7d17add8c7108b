-- Tests and choices. Assumes nothing.
use mathlib.Core.Path.{◌≡◌, refl}
use mathlib.Core.Bool.{Bool, true, false, cond, ◌&&◌}
use Prim.Native.Nat.{ℕ}
use native.Mathlib.Omega.{arith}
use lib.Dec.{T}

-- No test both passes and fails.
pub never {ℓ} : {A : Type ℓ} → false ≡ true → A
never e = absurd (let z : ◌≡◌ {A = ℕ} 0 1 = cc in omega arith)

-- By what a test says.
pub bool_cases {ℓ} : {X : Type ℓ} (b : Bool) → (b ≡ true → X) → (b ≡ false → X) → X
bool_cases true f g = f refl
bool_cases false f g = g refl

-- A test that passes, as the type that the library computes of it, and back.
pub true_T : (b : Bool) → b ≡ true → T b
true_T true e = tt
true_T false e = never e

pub T_true : (b : Bool) → T b → b ≡ true
T_true true t = refl
T_true false t = absurd t

-- Two tests in a row, taken apart.
pub both_pass : (a b : Bool) → (a && b) ≡ true → (a ≡ true) × (b ≡ true)
both_pass true b e = (refl, e)
both_pass false b e = never e

-- A choice that is not its second has passed its test.
pub cond_passed : {A : Type 0} (b : Bool) {x y z : A} → (y ≡ z → ⊥) → cond b x y ≡ z → (b ≡ true) × (x ≡ z)
cond_passed true n e = (refl, e)
cond_passed false n e = absurd (n e)

-- A choice that is not its first has failed its test.
pub cond_failed : {A : Type 0} (b : Bool) {x y z : A} → (x ≡ z → ⊥) → cond b x y ≡ z → (b ≡ false) × (y ≡ z)
cond_failed true n e = absurd (n e)
cond_failed false n e = (refl, e)
