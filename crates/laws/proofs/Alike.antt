-- Checks that answer alike, part by part. Assumes nothing.
use mathlib.Core.Path.{◌≡◌, refl, sym, ap, ◌∙◌}
use mathlib.Core.Bool.{Bool, true, false, cond}
use mathlib.Core.List.{List, [], ◌∷◌, ◌++◌, append_assoc, append-nil}
use Rattle.laws.specs.Rules.{Rule, verdict, AllHold}
use Rattle.laws.proofs.Rules.{hold-append}
use Rattle.laws.proofs.Tests.{bool_cases}

-- an answer told by another name
pub told_by : {R A B : Type 0} (h : A → B) (refused : R → A) (passed : A) (rules : List (Rule R))
    → h (verdict refused passed rules) ≡ verdict (λ r. h (refused r)) (h passed) rules
told_by h refused passed [] = refl
told_by h refused passed (r ∷ rules) = by r.holds (told_by h refused passed rules)
  where
    by : (b : Bool) → h (verdict refused passed rules) ≡ verdict (λ r. h (refused r)) (h passed) rules
        → h (cond b (verdict refused passed rules) (refused r.refusal)) ≡ cond b (verdict (λ r. h (refused r)) (h passed) rules) (h (refused r.refusal))
    by true e = e
    by false e = refl

module _ {R A : Type 0} (refused : R → A) (passed : A) where
  -- Rules that answer like others, whatever is asked after both, as long as that answers alike once the first hold.
  abbrev pub Alike : List (Rule R) → List (Rule R) → Type 0
  Alike rules others = (more rest : List (Rule R)) → (AllHold rules → verdict refused passed more ≡ verdict refused passed rest)
      → verdict refused passed (rules ++ more) ≡ verdict refused passed (others ++ rest)

  itself : (rules : List (Rule R)) → Alike rules rules
  itself [] more rest f = f tt
  itself (r ∷ rules) more rest f =
      bool_cases r.holds (λ e. rw e (itself rules more rest (λ h. f (e, h)))) (λ e. rw e)

  pub alike_same : (rules others : List (Rule R)) → rules ≡ others → Alike rules others
  alike_same rules others e = rw (← e) (itself rules)

  pub alike_join : (rules others more rest : List (Rule R)) → Alike rules others → (AllHold rules → Alike more rest) → Alike (rules ++ more) (others ++ rest)
  alike_join rules others more rest a b xs ys f =
      rw (append_assoc rules more xs, append_assoc others rest ys)
      (a (more ++ xs) (rest ++ ys) (λ h. b h xs ys (λ g. f (hold-append rules more h g))))

  -- such rules have one answer
  pub alike_verdict : (rules others : List (Rule R)) → Alike rules others → verdict refused passed rules ≡ verdict refused passed others
  alike_verdict rules others a =
      ap (verdict refused passed) (sym (append-nil rules)) ∙ a [] [] (λ h. refl) ∙ ap (verdict refused passed) (append-nil others)
