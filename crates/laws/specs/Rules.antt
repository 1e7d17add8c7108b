-- A check is a list of rules, in the order in which document 01 asks them; the first broken rule decides.
-- R is the type of the refusals, A that of the answers.
-- Assumes nothing.
use Rattle.std.specs.Prelude.{◌≡◌, Bool, true, false, cond, List, [], ◌∷◌, ◌++◌}

-- A rule: the test that passes where it holds, and the refusal where it is broken.
pub record Rule (R : Type 0) : Type 0 where
  pub holds : Bool
  pub refusal : R

abbrev pub ask : {R : Type 0} → Bool → R → Rule R
ask test refusal = record { holds = test; refusal = refusal }

-- The answer of a check: `passed` where every rule holds, else the first broken rule's refusal, as `refused` tells it.
abbrev pub verdict : {R A : Type 0} → (R → A) → A → List (Rule R) → A
verdict refused passed [] = passed
verdict refused passed (r ∷ rs) = cond r.holds (verdict refused passed rs) (refused r.refusal)

-- Every rule of the list holds.
abbrev pub AllHold : {R : Type 0} → List (Rule R) → Type 0
AllHold [] = Unit
AllHold (r ∷ rs) = (r.holds ≡ true) × AllHold rs

-- A rule that fails with the refusal r, and every rule before it holds.
pub record FirstBroken {R : Type 0} (rules : List (Rule R)) (r : R) : Type 0 where
  pub before : List (Rule R)
  pub broken : Rule R
  pub after : List (Rule R)
  pub whole : rules ≡ before ++ (broken ∷ after)
  pub hold : AllHold before
  pub fails : broken.holds ≡ false
  pub cause : broken.refusal ≡ r
