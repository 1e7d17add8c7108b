-- A call whose answer is a check's, and after it the room of the results range: for any type of answers. Assumes nothing.
use mathlib.Core.Path.{◌≡◌, sym, ap, ◌∙◌}
use mathlib.Core.Bool.{true, false}
use mathlib.Core.List.{List, [], ◌∷◌, ◌++◌}
use Prim.Native.Nat.{ℕ}
use lib.ListN.{length}
use Rattle.laws.specs.Rules.{Rule, ask, verdict}
use Rattle.laws.proofs.Rules.{last-holds, last-broken, last_unasked}
use Rattle.answers.specs.Numbers.{number_of}
use Rattle.answers.specs.declared.Refusal.{Refusal}
use Rattle.answers.specs.declared.Refusal.TheVariants.{NoRoom}
use Rattle.console.specs.Results.{room_for, results_put}
use Rattle.console.proofs.Values.{put_nothing}

-- Answers of type A: refusals with their numbers and no values, told apart.
pub record Answers (A : Type 0) (refused : Refusal → A) (number : A → ℕ) (values : A → List ℕ) : Type 0 where
  pub numbered : (r : Refusal) → number (refused r) ≡ number_of r
  pub valueless : (r : Refusal) → values (refused r) ≡ []
  pub apart : (r s : Refusal) → refused s ≡ refused r → s ≡ r

module _ {A : Type 0} (refused : Refusal → A) (number : A → ℕ) (values : A → List ℕ) (k : Answers A refused number values)
    (passed : A) (rules : List (Rule Refusal)) (count : ℕ) (results : List ℕ) where
  -- the answer with the room of the results asked last
  abbrev answer : A
  answer = verdict refused passed (rules ++ (ask (room_for count (length results)) NoRoom ∷ []))

  all-refused : (r : Refusal) (n : ℕ) → n ≡ number_of r → answer ≡ refused r → (n ≡ number answer) × (results ≡ results_put (values answer) results)
  all-refused r n e h = (
    e ∙ (sym (k.numbered r) ∙ ap number (sym h)),
    sym (put_nothing results) ∙ ap (λ (l : List ℕ). results_put l results) (sym (k.valueless r) ∙ ap values (sym h)),
  )

  -- a refusal of the check comes first
  pub told_refused : (r : Refusal) (n : ℕ) → n ≡ number_of r → (passed ≡ refused r → ⊥) → verdict refused passed rules ≡ refused r
      → (n ≡ number answer) × (results ≡ results_put (values answer) results)
  told_refused r n e d h =
      all-refused r n e (last_unasked refused passed rules (room_for count (length results)) NoRoom r (k.apart r) d h)

  -- without room what passed is refused for that
  pub told_short : (x : A) (n : ℕ) → n ≡ number_of NoRoom → ((r : Refusal) → refused r ≡ x → ⊥) → room_for count (length results) ≡ false
      → verdict refused passed rules ≡ x
      → (n ≡ number answer) × (results ≡ results_put (values answer) results)
  told_short x n e d room h =
      all-refused NoRoom n e (last-broken refused passed rules (room_for count (length results)) NoRoom x d room h)

  -- with room it is the answer of the check, and its values
  pub told_passed : (x : A) (told : List ℕ) → room_for count (length results) ≡ true → verdict refused passed rules ≡ x → number x ≡ 0
      → told ≡ results_put (values x) results → (0 ≡ number answer) × (told ≡ results_put (values answer) results)
  told_passed x told room h z e =
      let g : answer ≡ x = last-holds refused passed rules (room_for count (length results)) NoRoom room ∙ h in
      (sym z ∙ ap number (sym g), e ∙ ap (λ (y : A). results_put (values y) results) (sym g))
