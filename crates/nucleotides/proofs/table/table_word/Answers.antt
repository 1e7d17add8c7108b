-- `nucleotides::table::table_word`: by the width. Assumes nothing.
use Rattle.nucleotides.proofs.Entries.{word_wide, word_narrow}
use Rattle.nucleotides.specs.Pieces.{bytes_of}
use mathlib.Core.Path.{ap}
use Rattle.nucleotides.proofs.table.table_word.Goals as goal

pub returns-in-Narrow : goal.returns-in-Narrow
returns-in-Narrow c = word_narrow (bytes_of c.args.width) c.args.n (ap bytes_of c.in-Narrow.is)

pub returns-in-Wide : goal.returns-in-Wide
returns-in-Wide c = word_wide (bytes_of c.args.width) c.args.n (ap bytes_of c.in-Wide.is)
