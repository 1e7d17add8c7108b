-- `elements::too_deep`: the byte is the one that the definition tests. Assumes nothing.
use Rattle.std.proofs.Common.{rules}
use Rattle.elements.specs.Reading.{too_deep}
use Rattle.elements.proofs.too_deep.Goals as goal

pub returns-then-begins_element : goal.returns-then-begins_element
unfolding too_deep
returns-then-begins_element c = search rules

pub returns : goal.returns
unfolding too_deep
returns c = search rules
