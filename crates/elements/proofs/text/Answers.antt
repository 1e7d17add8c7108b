-- `elements::text`: a byte 1A stands within the slice, and the text's length behind it. Assumes nothing.
use Rattle.std.proofs.Common.{rules}
use Rattle.elements.specs.Parts.{text_at}
use Rattle.elements.proofs.text.Goals as goal

pub returns-then-byte-ne26 : goal.returns-then-byte-ne26
unfolding text_at
returns-then-byte-ne26 c = search rules

pub returns : goal.returns
unfolding text_at
returns c = search rules
