-- Orders of signed numbers, one by the other. Assumes nothing.
use mathlib.Core.Path.{◌≡◌, sym, ap, ◌∙◌}
use mathlib.Core.Bool.{Bool, true, false, not}
use Prim.Native.Nat.{ℕ}
use lib.IntN.{ℤ, pos, negsuc}
use lib.Dec.{ltb, leb}
use lib.Signed.{lt_z, le_z}
use borrow.Author.Tests.{ltb-true, ltb-false, le-leb, lt-leb}
use Rattle.laws.proofs.Tests.{bool_cases}

nat_not : (a b : ℕ) → leb b a ≡ not (ltb a b)
nat_not a b = bool_cases (ltb a b) (λ e. rw e (lt-leb b a (ltb-true a b e))) (λ e. rw e (le-leb b a (ltb-false a b e)))

-- at most is not above
pub le_not : (a b : ℤ) (v : Bool) → lt_z a b ≡ v → le_z b a ≡ not v
le_not (pos a) (pos b) v h = nat_not a b ∙ ap not h
le_not (pos a) (negsuc b) v h = ap not h
le_not (negsuc a) (pos b) v h = ap not h
le_not (negsuc a) (negsuc b) v h = nat_not b a ∙ ap not h

-- not at most is above
pub lt_not : (a b : ℤ) (v : Bool) → le_z b a ≡ v → lt_z a b ≡ not v
lt_not a b v h = bool_cases (lt_z a b) (λ e. e ∙ ap not (sym (le_not a b true e) ∙ h)) (λ e. e ∙ ap not (sym (le_not a b false e) ∙ h))
