-- `elements::opens_at`: the place is tested before the byte, as in the definition. Assumes nothing.
use Rattle.std.proofs.Common.{rules}
use Rattle.elements.specs.Reading.{opens}
use Rattle.elements.proofs.opens_at.Goals as goal

pub returns-then-at-s : goal.returns-then-at-s
unfolding opens
returns-then-at-s c = search rules

pub returns-else-at-s : goal.returns-else-at-s
unfolding opens
returns-else-at-s c = search rules
