-- From the answer of a check to the answer of a call that asks the same rules and returns values. Assumes nothing.
use mathlib.Core.Path.{◌≡◌, sym, ◌∙◌}
use mathlib.Core.List.{List, []}
use Rattle.laws.specs.Rules.{Rule, verdict}
use Rattle.laws.proofs.Rules.{verdict-append}
use Rattle.answers.specs.declared.Refusal.{Refusal}
use Rattle.std.specs.Prelude.{Result, Ok, Err}
use Rattle.answers.specs.Limits.{checked_by}
use Rattle.answers.proofs.Checks.{refused-first, passed_first}

module _ (rules : List (Rule Refusal)) (c : Result Unit Refusal) (e : c ≡ checked_by rules) {B : Type 0} (told : Refusal → B) (fine : B) where
  -- the check refused
  pub refused-alone : (r : Refusal) → c ≡ Err r → verdict told fine rules ≡ told r
  refused-alone r p = sym (verdict-append told fine rules []) ∙ refused-first rules [] c r e p told fine

  -- the check passed
  pub passed_alone : c ≡ Ok tt → verdict told fine rules ≡ fine
  passed_alone p = sym (verdict-append told fine rules []) ∙ passed_first rules [] c e p told fine
