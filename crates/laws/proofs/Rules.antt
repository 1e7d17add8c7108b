-- Laws of a check that is a list of rules. Assumes nothing.
use mathlib.Core.Path.{◌≡◌, refl, ◌∙◌}
use mathlib.Core.Bool.{Bool, true, false, cond}
use mathlib.Core.List.{List, [], ◌∷◌, ◌++◌}
use Rattle.laws.specs.Rules.{Rule, ask, verdict, AllHold}
use Rattle.laws.proofs.Passing.{passes_with}

module _ {R A : Type 0} (refused : R → A) where
  -- Where every rule holds the check passes.
  pub verdict-passes : (passed : A) (rs : List (Rule R)) → AllHold rs → verdict refused passed rs ≡ passed
  verdict-passes passed [] h = refl
  verdict-passes passed (r ∷ rs) h = rw h.0 (verdict-passes passed rs h.1)

  -- Where the check answers what is no refusal, every rule holds.
  pub not-refused : (passed x : A) (rs : List (Rule R)) → ((r : R) → refused r ≡ x → ⊥) → verdict refused passed rs ≡ x → AllHold rs
  not-refused passed x rs n e = (passes_with refused passed x n rs e).0

  -- Where the check passes every rule holds.
  pub passes-all : (passed : A) (rs : List (Rule R)) → ((r : R) → refused r ≡ passed → ⊥) → verdict refused passed rs ≡ passed → AllHold rs
  passes-all passed rs n e = not-refused passed passed rs n e

  -- The rules of a second list are asked where those of the first all hold.
  pub verdict-append : (passed : A) (qs rs : List (Rule R)) → verdict refused passed (qs ++ rs) ≡ verdict refused (verdict refused passed rs) qs
  verdict-append passed [] rs = refl
  verdict-append passed (q ∷ qs) rs = rw (verdict-append passed qs rs)

  -- A check answers the same refusal whatever it would answer where it passes.
  pub refused_any : (passed : A) (rs : List (Rule R)) (r : R) → ((s : R) → refused s ≡ refused r → s ≡ r) → (passed ≡ refused r → ⊥)
      → verdict refused passed rs ≡ refused r → {B : Type 0} (told : R → B) (fine : B) → verdict told fine rs ≡ told r
  refused_any passed [] r i n e told fine = absurd (n e)
  refused_any passed (q ∷ rs) r i n e told fine = go q.holds e (λ f. refused_any passed rs r i n f told fine)
    where
      go : (b : Bool) → cond b (verdict refused passed rs) (refused q.refusal) ≡ refused r
          → (verdict refused passed rs ≡ refused r → verdict told fine rs ≡ told r) → cond b (verdict told fine rs) (told q.refusal) ≡ told r
      go true f k = k f
      go false f k = rw (i q.refusal f)

-- All rules of two lists hold where those of each do, and back.
pub hold-append : {R : Type 0} (qs rs : List (Rule R)) → AllHold qs → AllHold rs → AllHold (qs ++ rs)
hold-append [] rs h k = k
hold-append (q ∷ qs) rs h k = (h.0, hold-append qs rs h.1 k)

pub hold-first : {R : Type 0} (qs rs : List (Rule R)) → AllHold (qs ++ rs) → AllHold qs
hold-first [] rs h = tt
hold-first (q ∷ qs) rs h = (h.0, hold-first qs rs h.1)

pub hold-second : {R : Type 0} (qs rs : List (Rule R)) → AllHold (qs ++ rs) → AllHold rs
hold-second [] rs h = h
hold-second (q ∷ qs) rs h = hold-second qs rs h.1

-- A rule asked last: it decides only where all rules before it hold.
module _ {R A : Type 0} (refused : R → A) (passed : A) (rs : List (Rule R)) (b : Bool) (last : R) where
  pub last-holds : b ≡ true → verdict refused passed (rs ++ (ask b last ∷ [])) ≡ verdict refused passed rs
  last-holds h = verdict-append refused passed rs (ask b last ∷ []) ∙ rw h

  pub last-broken : (x : A) → ((r : R) → refused r ≡ x → ⊥) → b ≡ false → verdict refused passed rs ≡ x
      → verdict refused passed (rs ++ (ask b last ∷ [])) ≡ refused last
  last-broken x n h e =
      verdict-append refused passed rs (ask b last ∷ [])
      ∙ (verdict-passes refused (verdict refused passed (ask b last ∷ [])) rs (not-refused refused passed x rs n e) ∙ rw h)

  pub last_unasked : (r : R) → ((s : R) → refused s ≡ refused r → s ≡ r) → (passed ≡ refused r → ⊥) → verdict refused passed rs ≡ refused r
      → verdict refused passed (rs ++ (ask b last ∷ [])) ≡ refused r
  last_unasked r i n e =
      verdict-append refused passed rs (ask b last ∷ [])
      ∙ refused_any refused passed rs r i n e refused (verdict refused passed (ask b last ∷ []))
