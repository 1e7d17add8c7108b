-- The body of valid sequences of one alphabet is made well formed by the ends of their runs. Assumes nothing.
use mathlib.Core.Path.{◌≡◌, refl, sym, ap, ◌∙◌}
use mathlib.Core.Bool.{true}
use mathlib.Core.List.{List, [], ◌∷◌, ◌++◌}
use Prim.Native.Nat.{ℕ, zero, suc, ◌+◌, ◌≤◌, ◌<◌}
use native.Mathlib.Omega.{arith}
use lib.ListN.{length, take, drop, length-append, length-drop}
use lib.Dec.{lt→ltb}
use lib.Seq.{slice, take_at, drop_at, take-add, drop-drop, length-take-le}
use lib.Signed.{◌<ℤ◌, lt_z_yes}
use Rattle.packets.specs.Packing.{run}
use Rattle.packets.specs.Runs.{well_formed}
use Rattle.packets.specs.Ends.{last_place, between, MakesAfter, Makes}
use Rattle.packets.proofs.Packing.{run-some}
use Rattle.packets.proofs.Round.{run-formed}
use Rattle.packets.proofs.Ends.{after_last}
use Rattle.runs.specs.Bodies.{Item, body, AllValidIn, run_ends_from, run_ends}

rises : (k n : ℕ) → k < n → last_place k <ℤ last_place n
rises k zero h = absurd (let z : ⊥ = omega arith in z)
rises zero (suc n) h = lt_z_yes tt
rises (suc k) (suc n) h = let g : k < n = omega arith in lt_z_yes (lt→ltb k n g)

middle : (k n : ℕ) (ps R t : List ℕ) → k ≤ length ps → length R ≡ n → drop k ps ≡ R ++ t → slice k (k + n) ps ≡ R
middle k n ps R t h l e =
    ap (λ (x : List ℕ). drop k x) (take-add k n ps) ∙ (drop_at (take k ps) (take n (drop k ps)) k (length-take-le k ps h) ∙
    (ap (λ (x : List ℕ). take n x) e ∙ take_at R t n l))

makes_from : (a : ℕ) (ps : List ℕ) (k : ℕ) (items : List Item) → AllValidIn a items → k ≤ length ps → drop k ps ≡ body items
    → MakesAfter a ps (last_place k) (run_ends_from k items)
makes_from a ps k [] v h e =
    let n : k ≡ length ps = omega (arith, length-drop k ps, ap length e) in
    ap last_place n
makes_from a ps k (s ∷ items) v h e =
    let R = run s.alphabet s.codes in
    let some = run-some s.alphabet s.codes in
    let n = length R in
    let there : between ps (last_place k) (last_place (k + n)) ≡ R =
    rw (after_last k, after_last (k + n)) (middle k n ps R (body items) h refl e) in
    let len : k + n ≤ length ps = omega (arith, length-drop k ps, ap length e, length-append R (body items)) in
    let next : drop (k + n) ps ≡ body items = sym (drop-drop n k ps) ∙ (ap (λ (x : List ℕ). drop n x) e ∙ drop_at R (body items) n refl) in
    let formed : well_formed a R ≡ true = rw v.0 (run-formed a s.codes v.1) in
    (rises k (k + n) (omega arith), (rw there formed), makes_from a ps (k + n) items v.2 len next)

-- The ends of its runs make the body of valid sequences of one alphabet well formed.
pub body_made : (a : ℕ) (items : List Item) → AllValidIn a items → Makes a (body items) (run_ends items)
body_made a items v = makes_from a (body items) 0 items v (omega arith) refl
