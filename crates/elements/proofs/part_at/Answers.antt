-- `elements::part_at`: the test of the bytes left is the definition's test of the end. Assumes nothing.
use Rattle.std.proofs.Common.{rules}
use Rattle.elements.specs.Parts.{part_at}
use Rattle.elements.proofs.part_at.Goals as goal

pub returns-then-s-at : goal.returns-then-s-at
unfolding part_at
returns-then-s-at c = search rules

pub returns : goal.returns
unfolding part_at
returns c = search rules
