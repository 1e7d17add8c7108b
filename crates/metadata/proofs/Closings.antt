-- Texts that a NUL closes. Assumes nothing.
use mathlib.Core.Path.{◌≡◌}
use mathlib.Core.Bool.{Bool, true, false, not, cond}
use mathlib.Core.List.{List}
use Prim.Native.Nat.{ℕ, zero, suc, ◌+◌, ◌-◌, ◌≤◌, ◌<◌}
use native.Mathlib.Omega.{arith}
use native.Mathlib.Numerals.{add-one}
use lib.Dec.{eqb}
use lib.ListN.{get_or}
use borrow.Author.Tests.{eq-eqb, not-true}
use Rattle.std.specs.Prelude.{None, Some}
use Rattle.std.proofs.lemmas.Option.{none-some}
use Rattle.laws.proofs.Tests.{both_pass}
use Rattle.metadata.specs.Record.{text_byte, stays_in, closing}

module _ (w : Bool) (s : List ℕ) (p to : ℕ) where
  more : p < to → to - p ≡ suc (to - (p + 1))
  more h = omega arith

  pub closing_here : p < to → get_or s p 0 ≡ 0 → Some p ≡ closing w s (to - p) p
  closing_here h e = rw (more h, eq-eqb _ _ e)

  pub closing-next : p < to → stays_in w (get_or s p 0) ≡ true → closing w s (to - (p + 1)) (p + 1) ≡ closing w s (to - p) p
  closing-next h f =
      let g = both_pass (not (eqb (get_or s p 0) 0)) (text_byte w (get_or s p 0)) f in
      rw (more h, not-true (eqb (get_or s p 0) 0) g.0, g.1, add-one p)

-- the NUL stands within
within_by : (w : Bool) (s : List ℕ) (n p q : ℕ) (b c : Bool) → (closing w s n (suc p) ≡ Some q → (suc p ≤ q) × (q < suc p + n))
    → cond b (Some p) (cond c (closing w s n (suc p)) None) ≡ Some q → (p ≤ q) × (q < p + suc n)
within_by w s n p q true c f h = let e : p ≡ q = cc in (omega arith, omega arith)
within_by w s n p q false true f h = let r = f h in (omega arith, omega arith)
within_by w s n p q false false f h = absurd (none-some _ h)

within-left : (w : Bool) (s : List ℕ) (n p q : ℕ) → closing w s n p ≡ Some q → (p ≤ q) × (q < p + n)
within-left w s zero p q h = absurd (none-some _ h)
within-left w s (suc n) p q h = within_by w s n p q (eqb (get_or s p 0) 0) (text_byte w (get_or s p 0)) (within-left w s n (suc p) q) h

pub within : (w : Bool) (s : List ℕ) (to p q : ℕ) → closing w s (to - p) p ≡ Some q → (p ≤ q) × (q < to)
within w s to p q h = let r = within-left w s (to - p) p q h in (r.0, omega arith)
