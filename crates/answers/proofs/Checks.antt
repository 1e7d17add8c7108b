-- From the answer of a part of a check to that of the whole. Assumes nothing.
use mathlib.Core.Path.{◌≡◌, sym, ◌∙◌}
use mathlib.Core.List.{List, ◌++◌}
use Prim.Native.Nat.{ℕ}
use native.Mathlib.Omega.{arith}
use Rattle.laws.specs.Rules.{Rule, verdict, AllHold}
use Rattle.laws.proofs.Rules.{verdict-passes, passes-all, verdict-append, refused_any}
use Rattle.answers.specs.declared.Refusal.{Refusal}
use Rattle.std.specs.Prelude.{Result, Ok, Err}
use Rattle.answers.specs.Limits.{checked_by}

-- an error is no value
pub err-not_ok : {A E : Type 0} (r : E) (x : A) → ◌≡◌ {A = Result A E} (Err r) (Ok x) → ⊥
err-not_ok r x e = let z : ◌≡◌ {A = ℕ} 0 1 = cc in omega arith

-- an error's own cause
pub err_cause : {A E : Type 0} (r s : E) → ◌≡◌ {A = Result A E} (Err s) (Err r) → s ≡ r
err_cause r s e = cc

-- a part that passed: all its rules hold
pub all_hold : (rules : List (Rule Refusal)) (c : Result Unit Refusal) → c ≡ checked_by rules → c ≡ Ok tt → AllHold rules
all_hold rules c e p = passes-all Err (Ok tt) rules (λ r. err-not_ok r tt) (sym e ∙ p)

-- all rules of a list hold: a part passes
pub holds_passed : (rules : List (Rule Refusal)) → AllHold rules → checked_by rules ≡ Ok tt
holds_passed rules h = verdict-passes Err (Ok tt) rules h

-- a part that refused decides for the whole, whatever is asked after it
pub refused-first : (rules more : List (Rule Refusal)) (c : Result Unit Refusal) (r : Refusal) → c ≡ checked_by rules → c ≡ Err r
    → {B : Type 0} (told : Refusal → B) (fine : B) → verdict told fine (rules ++ more) ≡ told r
refused-first rules more c r e p told fine =
    verdict-append told fine rules more
    ∙ refused_any Err (Ok tt) rules r (err_cause r) (λ n. err-not_ok r tt (sym n)) (sym e ∙ p) told (verdict told fine more)

-- after a part that passed what is asked after it decides
pub passed_first : (rules more : List (Rule Refusal)) (c : Result Unit Refusal) → c ≡ checked_by rules → c ≡ Ok tt
    → {B : Type 0} (told : Refusal → B) (fine : B) → verdict told fine (rules ++ more) ≡ verdict told fine more
passed_first rules more c e p told fine =
    verdict-append told fine rules more ∙ verdict-passes told (verdict told fine more) rules (all_hold rules c e p)
