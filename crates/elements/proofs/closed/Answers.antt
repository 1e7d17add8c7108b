-- `elements::closed`: a choice ends behind its 00 00. Assumes nothing.
use native.Mathlib.Omega.{arith}
use mathlib.Core.Path.{sym, ◌∙◌}
use Rattle.elements.proofs.Reading.{closes-within}
use Rattle.elements.proofs.closed.Goals as goal

pub overflow_add-result : goal.overflow_add-result
overflow_add-result c = omega (arith, closes-within _ _ (sym c.closes_at.ensures ∙ c.if-closes_at.true))
