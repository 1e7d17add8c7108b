-- A check that answers what no refusal is has passed. Assumes nothing.
use mathlib.Core.Path.{◌≡◌, refl}
use mathlib.Core.Bool.{Bool, true, false, cond}
use mathlib.Core.List.{List, [], ◌∷◌}
use Rattle.laws.specs.Rules.{Rule, verdict, AllHold}

module _ {R A : Type 0} (refused : R → A) (passed x : A) (no : (r : R) → refused r ≡ x → ⊥) where
  -- every rule holds, and the answer is that of a check that passes
  pub passes_with : (rs : List (Rule R)) → verdict refused passed rs ≡ x → AllHold rs × (passed ≡ x)
  passes_with [] e = (tt, e)
  passes_with (r ∷ rs) e = go r.holds refl e (passes_with rs)
    where
      go : (b : Bool) → r.holds ≡ b → cond b (verdict refused passed rs) (refused r.refusal) ≡ x
          → (verdict refused passed rs ≡ x → AllHold rs × (passed ≡ x)) → ((r.holds ≡ true) × AllHold rs) × (passed ≡ x)
      go true h f k = let p = k f in ((h, p.0), p.1)
      go false h f k = absurd (no r.refusal f)
