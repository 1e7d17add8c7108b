-- `elements::integer_allowed`: the length is tested first. Assumes nothing.
use Rattle.std.proofs.Common.{rules}
use Rattle.elements.specs.Parts.{integer_allowed}
use Rattle.elements.proofs.integer_allowed.Goals as goal

pub returns-then-contains : goal.returns-then-contains
unfolding integer_allowed
returns-then-contains c = search rules

pub returns-else-contains : goal.returns-else-contains
unfolding integer_allowed
returns-else-contains c = search rules
