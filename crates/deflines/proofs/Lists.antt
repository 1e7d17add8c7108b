-- Number k of a list, and what holds of each of a list. Assumes nothing.
use mathlib.Core.Path.{◌≡◌, refl}
use mathlib.Core.List.{List, [], ◌∷◌, ◌++◌, map, flat_map}
use Prim.Native.Nat.{ℕ, zero, suc}
use Rattle.deflines.specs.Numbered.{numbered}

-- what is made of number k afterwards can be made of it at once
pub numbered_then : {X Y Z : Type 0} (h : Y → Z) (found : X → Y) (left : ℕ → Y) (xs : List X) (k : ℕ)
    → h (numbered xs k found left) ≡ numbered xs k (λ x. h (found x)) (λ j. h (left j))
numbered_then h found left [] k = refl
numbered_then h found left (x ∷ xs) zero = refl
numbered_then h found left (x ∷ xs) (suc k) = numbered_then h found left xs k

pub numbered-map : {X Y Z : Type 0} (g : X → Y) (found : Y → Z) (left : ℕ → Z) (xs : List X) (k : ℕ)
    → numbered (map g xs) k found left ≡ numbered xs k (λ x. found (g x)) left
numbered-map g found left [] k = refl
numbered-map g found left (x ∷ xs) zero = refl
numbered-map g found left (x ∷ xs) (suc k) = numbered-map g found left xs k

abbrev pub Each : {X : Type 0} → (X → Type 0) → List X → Type 0
Each P [] = Unit {0}
Each P (x ∷ xs) = P x × Each P xs

module _ {X : Type 0} (P : X → Type 0) where
  each_append : (xs ys : List X) → Each P xs → Each P ys → Each P (xs ++ ys)
  each_append [] ys a b = b
  each_append (x ∷ xs) ys a b = (a.0, each_append xs ys a.1 b)

  pub each_flat : (f : ℕ → List X) (ps : List ℕ) → ((p : ℕ) → Each P (f p)) → Each P (flat_map f ps)
  unfolding flat_map
  each_flat f [] h = tt
  each_flat f (p ∷ ps) h = each_append (f p) (flat_map f ps) (h p) (each_flat f ps h)

  -- what holds of each holds of number k
  pub each_number : {Y : Type 0} (Q : Y → Type 0) (found : X → Y) (left : ℕ → Y) → ((x : X) → P x → Q (found x)) → ((j : ℕ) → Q (left j))
      → (xs : List X) (k : ℕ) → Each P xs → Q (numbered xs k found left)
  each_number Q found left f g [] k h = g k
  each_number Q found left f g (x ∷ xs) zero h = f x h.0
  each_number Q found left f g (x ∷ xs) (suc k) h = each_number Q found left f g xs k h.1
