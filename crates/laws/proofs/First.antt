-- The first broken rule decides, and no other. Assumes nothing.
use mathlib.Core.Path.{◌≡◌, refl, sym, ap, ◌∙◌}
use mathlib.Core.Bool.{Bool, true, false, cond}
use mathlib.Core.Logic.{◌↔◌}
use mathlib.Core.List.{List, [], ◌∷◌}
use Rattle.laws.specs.Rules.{Rule, verdict, AllHold, FirstBroken}
use Rattle.laws.proofs.Rules.{verdict-passes, passes-all, verdict-append}

module _ {R A : Type 0} (refused : R → A) (passed : A) (apart : (r : R) → refused r ≡ passed → ⊥) (same : (r s : R) → refused r ≡ refused s → r ≡ s) where
  refused-first : (rules : List (Rule R)) (r : R) → verdict refused passed rules ≡ refused r → FirstBroken rules r
  refused-first [] r e = absurd (apart r (sym e))
  refused-first (q ∷ rules) r e = go q.holds refl e (refused-first rules r)
    where
      go : (b : Bool) → q.holds ≡ b → cond b (verdict refused passed rules) (refused q.refusal) ≡ refused r
          → (verdict refused passed rules ≡ refused r → FirstBroken rules r) → FirstBroken (q ∷ rules) r
      go true h f k =
          let x = k f in
          record {
            before = q ∷ x.before;
            broken = x.broken;
            after = x.after;
            whole = ap (λ (l : List (Rule R)). q ∷ l) x.whole;
            hold = (h, x.hold);
            fails = x.fails;
            cause = x.cause;
          }
      go false h f k = record { before = []; broken = q; after = rules; whole = refl; hold = tt; fails = h; cause = same q.refusal r f }

  first-refused : (rules : List (Rule R)) (r : R) → FirstBroken rules r → verdict refused passed rules ≡ refused r
  first-refused rules r x =
      ap (verdict refused passed) x.whole
      ∙ verdict-append refused passed x.before (x.broken ∷ x.after)
      ∙ verdict-passes refused (verdict refused passed (x.broken ∷ x.after)) x.before x.hold
      ∙ rw x.fails (ap refused x.cause)

  -- A check refuses with r exactly where the first broken rule has the refusal r.
  pub verdict-refuses : (rules : List (Rule R)) (r : R) → (verdict refused passed rules ≡ refused r) ↔ FirstBroken rules r
  verdict-refuses rules r = (refused-first rules r, first-refused rules r)

  -- It passes exactly where every rule holds.
  pub verdict-holds : (rules : List (Rule R)) → (verdict refused passed rules ≡ passed) ↔ AllHold rules
  verdict-holds rules = (passes-all refused passed rules apart, verdict-passes refused passed rules)

-- What is made of a check's answer where a refusal is handed on: a check over the same rules.
pub verdict_handed : {R A B : Type 0} (refused : R → A) (told : R → B) (f : A → B) → ((r : R) → f (refused r) ≡ told r) → (passed : A) (rules : List (Rule R))
    → f (verdict refused passed rules) ≡ verdict told (f passed) rules
verdict_handed refused told f h passed [] = refl
verdict_handed {R} {A} {B} refused told f h passed (q ∷ rules) = go q.holds (verdict_handed refused told f h passed rules)
  where
    go : (b : Bool) → f (verdict refused passed rules) ≡ verdict told (f passed) rules
        → f (cond b (verdict refused passed rules) (refused q.refusal)) ≡ cond b (verdict told (f passed) rules) (told q.refusal)
    go true e = e
    go false e = h q.refusal

-- What a check answers where it passes counts only where every rule holds.
pub verdict-same : {R A : Type 0} (refused : R → A) (x y : A) (rules : List (Rule R)) → (AllHold rules → x ≡ y) → verdict refused x rules
    ≡ verdict refused y rules
verdict-same refused x y [] h = h tt
verdict-same {R} {A} refused x y (q ∷ rules) h = go q.holds refl (verdict-same refused x y rules)
  where
    go : (b : Bool) → q.holds ≡ b → ((AllHold rules → x ≡ y) → verdict refused x rules ≡ verdict refused y rules)
        → cond b (verdict refused x rules) (refused q.refusal) ≡ cond b (verdict refused y rules) (refused q.refusal)
    go true e k = k (λ a. h (e, a))
    go false e k = refl
