-- The record walker: a step's parts, and a walk of steps from no title given until none is left. Assumes nothing.
use mathlib.Core.Path.{◌≡◌, refl, sym, ap, ◌∙◌}
use mathlib.Core.List.{List, [], ◌∷◌}
use Prim.Native.Nat.{ℕ, zero, suc, ◌+◌, ◌≤◌}
use native.Mathlib.Omega.{arith}
use native.Mathlib.Numerals.{add-one}
use borrow.Author.Tests.{ltb-true, ltb-false}
use lib.Dec.{ltb}
use lib.ListN.{length, take, drop}
use Rattle.laws.proofs.Tests.{bool_cases}
use Rattle.answers.specs.declared.Refusal.{Refusal}
use Rattle.answers.specs.declared.Refusal.TheVariants.{NoSuchSequence}
use Rattle.std.specs.Prelude.{Ok, Err}
use Rattle.std.specs.declared.ops.ControlFlow.TheVariants.{Break, Continue}
use Rattle.elements.specs.declared.Span.{Span}
use Rattle.headers.specs.Record.{check_record}
use Rattle.deflines.specs.Fields.{titles_of}
use Rattle.deflines.specs.Numbered.{item_from}
use Rattle.deflines.specs.Calls.{title_given, title_of}
use Rattle.deflines.proofs.Calls.{title_passed}
use Rattle.deflines.proofs.Count.{title_found, title-left}
use Rattle.labels.specs.declared.Step.{Step}
use Rattle.labels.specs.Walker.{place, step_of, step_then, walked}

-- a step, by the title call's answer
pub step-title : (header : List ℕ) (start end given : ℕ) (t : Span) → title_of header start end given ≡ Ok t
    → ◌≡◌ {A = Step} (record { answer = Ok t; after = place start end (given + 1) }) (step_of header start end given)
unfolding step_of
step-title header start end given t e = rw e

pub step-refused : (header : List ℕ) (start end given : ℕ) (r : Refusal) → title_of header start end given ≡ Err r
    → ◌≡◌ {A = Step} (record { answer = Err r; after = place start end given }) (step_of header start end given)
unfolding step_of
step-refused header start end given r e = rw e

drop_past : (ts : List Span) (g : ℕ) → length ts ≤ g → drop g ts ≡ []
drop_past [] zero h = refl
drop_past [] (suc g) h = refl
drop_past (t ∷ ts) zero h = absurd (omega arith)
drop_past (t ∷ ts) (suc g) h = drop_past ts g (omega arith)

-- a record that passed: its titles one after the other, then 10 from the same place
module _ (header : List ℕ) (start end : ℕ) (passed : check_record header start end ≡ Ok tt) where
  abbrev titles : List Span
  titles = titles_of (take end header) start

  gives : (g : ℕ) (t : Span) → item_from titles g ≡ Break t → title_of header start end g ≡ Ok t
  gives g t e = sym (title_passed header start end g (Ok t) passed (sym (ap title_given e)))

  refuses : (g j : ℕ) → item_from titles g ≡ Continue j → title_of header start end g ≡ Err NoSuchSequence
  refuses g j e = sym (title_passed header start end g (Err NoSuchSequence) passed (sym (ap title_given e)))

  -- where no title is left the step is 10, and the place stays
  pub step-ends : (g : ℕ) → length titles ≤ g → step_of header start end g ≡ record { answer = Err NoSuchSequence; after = place start end g }
  step-ends g h = let l = title-left titles g h in sym (step-refused header start end g NoSuchSequence (refuses g l.0 l.1))

  one-step : (n g : ℕ) (s : Step) → step_of header start end g ≡ s
      → walked (suc n) header (place start end g) ≡ step_then s.answer (walked n header s.after)
  unfolding walked
  one-step n g s e = ap (λ (x : Step). step_then x.answer (walked n header x.after)) e

  no_step : (g : ℕ) → walked 0 header (place start end g) ≡ []
  unfolding walked
  no_step g = refl

  walk_from : (n g : ℕ) → length titles ≤ n + g → walked n header (place start end g) ≡ drop g titles
  walk_from zero g h = no_step g ∙ sym (drop_past titles g (omega arith))
  walk_from (suc n) g h =
      bool_cases (ltb g (length titles))
      (λ b.
      let f = title_found titles g (ltb-true g (length titles) b) in
      one-step n g _ (sym (step-title header start end g f.0 (gives g f.0 f.1)))
      ∙ ap (λ (l : List Span). f.0 ∷ l) (walk_from n (g + 1) (omega arith) ∙ ap (λ (k : ℕ). drop k titles) (add-one g))
      ∙ sym f.2)
      (λ b. let l : length titles ≤ g = ltb-false g (length titles) b in one-step n g _ (step-ends g l) ∙ sym (drop_past titles g l))

  -- stepping from no title given until 10 gives exactly the record's titles, in order
  pub walk_all : (n : ℕ) → length titles ≤ n → walked n header (place start end 0) ≡ titles
  walk_all n h = walk_from n 0 (omega arith)
