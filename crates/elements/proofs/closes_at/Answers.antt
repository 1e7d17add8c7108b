-- `elements::closes_at`: the tests are those of the definition. Assumes nothing.
use Rattle.std.proofs.Common.{rules}
use Rattle.elements.specs.Reading.{closes}
use Rattle.elements.proofs.closes_at.Goals as goal

pub returns-then-s-at : goal.returns-then-s-at
unfolding closes
returns-then-s-at c = search rules

pub returns-then-s-at-eq0 : goal.returns-then-s-at-eq0
unfolding closes
returns-then-s-at-eq0 c = search rules

pub returns-else-s-at-eq0 : goal.returns-else-s-at-eq0
unfolding closes
returns-else-s-at-eq0 c = search rules
