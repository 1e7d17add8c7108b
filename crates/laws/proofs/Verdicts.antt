-- A check in two parts. Assumes nothing.
use mathlib.Core.Path.{◌≡◌, ◌∙◌}
use mathlib.Core.List.{List, ◌++◌}
use Rattle.laws.specs.Rules.{Rule, verdict, AllHold}
use Rattle.laws.proofs.Rules.{verdict-passes, verdict-append, refused_any}

-- A part of a check that refused decides for the whole, and after one whose rules all hold what is asked after it decides.
pub refused_then : {R A : Type 0} (refused : R → A) (passed : A) (rules more : List (Rule R)) (r : R)
    → ((s : R) → refused s ≡ refused r → s ≡ r) → (passed ≡ refused r → ⊥) → verdict refused passed rules ≡ refused r
    → {B : Type 0} (told : R → B) (fine : B) → verdict told fine (rules ++ more) ≡ told r
refused_then refused passed rules more r i n e told fine =
    verdict-append told fine rules more ∙ refused_any refused passed rules r i n e told (verdict told fine more)

pub hold_then : {R B : Type 0} (told : R → B) (fine : B) (rules more : List (Rule R)) → AllHold rules
    → verdict told fine (rules ++ more) ≡ verdict told fine more
hold_then told fine rules more h = verdict-append told fine rules more ∙ verdict-passes told (verdict told fine more) rules h
