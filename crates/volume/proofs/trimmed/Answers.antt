-- `volume::trimmed`: the text ends behind its last byte that is no NUL. Assumes nothing.
use Rattle.std.proofs.Common.{rules, length, sym}
use Rattle.volume.proofs.Facts.{trim_none, trim_last}
use Rattle.volume.proofs.trimmed.Goals as goal

pub returns-in-Some : goal.returns-in-Some
returns-in-Some c =
    let text = c.args.text.now in
    sym (trim_last text c.in-Some.last (length text) (search rules) (search rules) (search rules))

pub returns-in-None : goal.returns-in-None
returns-in-None c =
    let text = c.args.text.now in
    sym (trim_none text (length text) (search rules))
