-- Parts of a slice. Assumes nothing.
use mathlib.Core.Path.{◌≡◌, sym, ap, ◌∙◌}
use mathlib.Core.List.{List, ◌++◌}
use Prim.Native.Nat.{ℕ, ◌+◌, ◌-◌, ◌≤◌, ◌<◌}
use native.Mathlib.Omega.{arith}
use lib.ListN.{length, get_or, take, drop, length-drop, take-append-drop}
use lib.Seq.{slice, take_all, take-take, get_or-take, get_or-drop, drop_at, take-add, length-take-le}

-- the part of a slice from a place on
pub part_rest : (xs : List ℕ) (at : ℕ) → take (length xs - at) (drop at xs) ≡ drop at xs
part_rest xs at = take_all (length xs - at) (drop at xs) (omega (arith, length-drop at xs))

-- what stands at a place of a part
pub slice_at : (from to : ℕ) (xs : List ℕ) (i d : ℕ) → from + i < to → get_or (slice from to xs) i d ≡ get_or xs (from + i) d
slice_at from to xs i d h = get_or-drop from (take to xs) i d ∙ get_or-take to xs (from + i) d h

-- the part from one place up to another, as a slice of a slice reads it
pub slice_part : (from to : ℕ) (xs : List ℕ) → from ≤ to → from ≤ length xs → take (to - from) (drop from xs) ≡ slice from to xs
slice_part from to xs h l =
    let e : from + (to - from) ≡ to = omega arith in
    sym (drop_at (take from xs) (take (to - from) (drop from xs)) from (length-take-le from xs l))
    ∙ (ap (drop from) (sym (take-add from (to - from) xs)) ∙ ap (λ (n : ℕ). drop from (take n xs)) e)

-- the front of a list up to a place is that up to an earlier one and the part between
pub front-slice : (a b : ℕ) (xs : List ℕ) → a ≤ b → take b xs ≡ take a xs ++ slice a b xs
front-slice a b xs h = sym (take-append-drop a (take b xs)) ∙ ap (λ (l : List ℕ). l ++ slice a b xs) (take-take a b xs h)

-- lists that begin alike have the same parts there
pub slice_front : (a b c : ℕ) (xs ys : List ℕ) → b ≤ c → take c xs ≡ take c ys → slice a b xs ≡ slice a b ys
slice_front a b c xs ys h e = ap (drop a) (sym (take-take b c xs h) ∙ ap (take b) e ∙ take-take b c ys h)
