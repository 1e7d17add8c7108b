-- `elements::text_part`: the tests are those of the definition, in its order. Assumes nothing.
use Rattle.std.proofs.Common.{rules}
use Rattle.elements.specs.Parts.{text_part}
use Rattle.elements.proofs.text_part.Goals as goal

pub returns-then-s-at : goal.returns-then-s-at
unfolding text_part
returns-then-s-at c = search rules

pub returns-in-0-to-127 : goal.returns-in-0-to-127
unfolding text_part
returns-in-0-to-127 c = search rules

pub returns-in-129-to-132 : goal.returns-in-129-to-132
unfolding text_part
returns-in-129-to-132 c = search rules

pub returns-in_default : goal.returns-in_default
unfolding text_part
returns-in_default c = search rules

pub returns-in_default-2 : goal.returns-in_default-2
unfolding text_part
returns-in_default-2 c = search rules
