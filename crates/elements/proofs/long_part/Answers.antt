-- `elements::long_part`: the length lies within the slice, and the text after it is one part. Assumes nothing.
use Rattle.std.proofs.Common.{rules}
use Rattle.elements.specs.Parts.{long_part}
use Rattle.elements.proofs.long_part.Goals as goal

pub returns-then-s-at : goal.returns-then-s-at
unfolding long_part
returns-then-s-at c = search rules

pub returns : goal.returns
unfolding long_part
returns c = search rules
