-- An array made by a call at each of its places. Assumes nothing.
use mathlib.Core.Path.{◌≡◌, sym, ◌∙◌}
use mathlib.Core.List.{List}
use Prim.Native.Nat.{ℕ, zero, suc, ◌+◌, ◌≤◌, ◌<◌}
use native.Mathlib.Omega.{arith}
use borrow.Author.Tests.{eqb-true, eqb-false}
use lib.Dec.{eqb}
use lib.ListN.{get_or}
use Rattle.std.specs.Fn.{Called, Mut}
use Rattle.std.specs.Array.{IsFromFnResult, IsFromFnResultFrom}
use Rattle.std.proofs.lemmas.List.{ext_get_or}
use Rattle.laws.specs.Places.{list_to}
use Rattle.laws.proofs.Places.{length-list_to, list_to_at}
use Rattle.laws.proofs.Tests.{bool_cases}

-- a call in a state of S gives what R asks at its place, and leaves a state of S
module _ {F B : Type 0} (g : Mut F (ℕ × Unit {0}) B) (S : F → Type 0) (R : ℕ → B → Type 0) (n : ℕ)
    (gives : (p q : F) (i : ℕ) (y : B) → i < n → S p → Called g p (i, tt) y q → S q × R i y) where
  made_at : (d : B) (m i : ℕ) (p : F) (ys : List B) → i + m ≤ n → S p → IsFromFnResultFrom g p ys i m → (k : ℕ) → i ≤ k → k < i + m → R k (get_or ys k d)
  made_at d zero i p ys h s r k low high = absurd (let z : ⊥ = omega arith in z)
  made_at d (suc m) i p ys h s (q, y, here, called, rest) k low high =
      let e = gives p q i y (omega arith) s called in
      bool_cases (eqb k i)
      (λ t. let a : k ≡ i = eqb-true k i t in rw (a, here.1 d) e.1)
      (λ t. let a = eqb-false k i t in made_at d m (i + 1) q ys (omega arith) e.0 rest k (let z : i + 1 ≤ k = omega arith in z) (omega arith))

  pub made_each : (d : B) (p : F) (ys : List B) → S p → IsFromFnResult g p ys n → (k : ℕ) → k < n → R k (get_or ys k d)
  made_each d p ys s r k h = made_at d n 0 p ys (omega arith) s r.each k (omega arith) (omega arith)

-- a call gives f of its place
pub made_list : {F : Type 0} (g : Mut F (ℕ × Unit {0}) ℕ) (S : F → Type 0) (f : ℕ → ℕ) (n : ℕ)
    → ((p q : F) (i y : ℕ) → i < n → S p → Called g p (i, tt) y q → S q × (y ≡ f i)) → (p : F) (ys : List ℕ) → S p → IsFromFnResult g p ys n → ys ≡ list_to f n
made_list g S f n gives p ys s r =
    ext_get_or 0 ys (list_to f n) (r.long ∙ sym (length-list_to f n))
    (λ k h.
    let i : k < n = omega (arith, r.long) in
    made_each g S (λ k y. y ≡ f k) n gives 0 p ys s r k i ∙ sym (list_to_at f n k 0 i))
