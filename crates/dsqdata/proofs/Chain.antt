-- A check in parts, one after another: the whole answer by what each part answered. Assumes nothing.
use mathlib.Core.Path.{◌≡◌, sym, ap, ◌∙◌}
use mathlib.Core.List.{List, [], ◌++◌, append-nil}
use Rattle.std.specs.Prelude.{Option, None, Result, Ok, Err}
use Rattle.std.specs.Option.{ok_or}
use Rattle.std.specs.Result.{IsErrAnd}
use Rattle.std.proofs.lemmas.Result.{err_from_is_err_and}
use Rattle.laws.specs.Rules.{Rule, verdict, AllHold}
use Rattle.laws.proofs.Passing.{passes_with}
use Rattle.laws.proofs.Rules.{verdict-passes}
use Rattle.laws.proofs.Verdicts.{refused_then, hold_then}
use Rattle.answers.specs.declared.Refusal.{Refusal}
use Rattle.answers.proofs.Checks.{err-not_ok, err_cause}

-- what a `?` hands on
pub handed_on : {A : Type 0} {r : Refusal} (result : Result A Refusal) → IsErrAnd result (λ s. s ≡ r) → result ≡ Err r
handed_on result e = let p = err_from_is_err_and result e in p.1 ∙ ap Err p.2

-- the refusal that stands for nothing found
pub none_refused : {A : Type 0} (found : Option A) (r s : Refusal) → found ≡ None → ◌≡◌ {A = Result A Refusal} (Err r) (ok_or found s) → r ≡ s
none_refused found r s e f = err_cause s r (rw e at f)

-- all rules of a part that passed hold, and it answers what was found
pub held : {A : Type 0} (rules : List (Rule Refusal)) (x y : A) → Ok y ≡ verdict Err (Ok x) rules → AllHold rules
held rules x y e = (passes_with Err (Ok x) (Ok y) (λ r. err-not_ok r y) rules (sym e)).0

pub found : {A : Type 0} (rules : List (Rule Refusal)) (x y : A) → Ok y ≡ verdict Err (Ok x) rules → y ≡ x
found rules x y e = let p = (passes_with Err (Ok x) (Ok y) (λ r. err-not_ok r y) rules (sym e)).1 in cc

module _ {A B : Type 0} (told : Refusal → B) (fine : B) (rules : List (Rule Refusal)) where
  -- a part that refused decides, and behind one that passed what is asked after it
  pub err_then : (more : List (Rule Refusal)) (x : A) (r : Refusal) → ◌≡◌ {A = Result A Refusal} (Err r) (verdict Err (Ok x) rules) → verdict told fine (rules ++ more) ≡ told r
  err_then more x r e = refused_then Err (Ok x) rules more r (err_cause r) (λ n. err-not_ok r x (sym n)) (sym e) told fine

  pub ok_then : (more : List (Rule Refusal)) (x y : A) → Ok y ≡ verdict Err (Ok x) rules → verdict told fine (rules ++ more) ≡ verdict told fine more
  ok_then more x y e = hold_then told fine rules more (held rules x y e)

  -- the last part
  pub err_alone : (x : A) (r : Refusal) → ◌≡◌ {A = Result A Refusal} (Err r) (verdict Err (Ok x) rules) → verdict told fine rules ≡ told r
  err_alone x r e = sym (ap (verdict told fine) (append-nil rules)) ∙ err_then [] x r e

  pub ok_alone : (x y : A) → Ok y ≡ verdict Err (Ok x) rules → verdict told fine rules ≡ fine
  ok_alone x y e = verdict-passes told fine rules (held rules x y e)

-- what answers a check in parts
pub ruleset parts = (err_then, ok_then, err_alone, ok_alone)
