-- Every kind has a name of its own. Assumes nothing.
use mathlib.Core.Path.{◌≡◌, refl, sym, ap, ◌∙◌}
use mathlib.Core.Bool.{Bool, true, false, cond, ◌&&◌}
use mathlib.Core.List.{List, [], ◌∷◌}
use Prim.Native.Nat.{ℕ, suc, ◌-◌, ◌≤◌, ◌<◌}
use native.Mathlib.Omega.{arith}
use borrow.Author.Tests.{eqb-true}
use lib.ListN.{get_or}
use lib.Dec.{eqb}
use Rattle.laws.proofs.Places.{every_at}
use Rattle.kinds.specs.Names.{names, kind_name}

-- the same bytes
abbrev same : List ℕ → List ℕ → Bool
same [] [] = true
same [] (y ∷ ys) = false
same (x ∷ xs) [] = false
same (x ∷ xs) (y ∷ ys) = eqb x y && same xs ys

-- the place of a name in a list of names
abbrev place_of : List ℕ → List (List ℕ) → ℕ
place_of name [] = 0
place_of name (x ∷ xs) = cond (same x name) 0 (suc (place_of name xs))

-- each of the twenty is found at its own place
found : (k : ℕ) → k < 20 → place_of (get_or names k []) names ≡ k
found k h = eqb-true _ _ (every_at (λ i. eqb (place_of (get_or names i []) names) i) 20 k h refl)

-- two kinds with the same name are the same kind
pub named_once : (a b : ℕ) → 160 ≤ a → a ≤ 179 → 160 ≤ b → b ≤ 179 → kind_name a ≡ kind_name b → a ≡ b
named_once a b al ah bl bh e =
    let q : a - 160 ≡ b - 160 =
    sym (found (a - 160) (omega arith)) ∙ ap (λ (name : List ℕ). place_of name names) e ∙ found (b - 160) (omega arith) in
    omega arith
