-- `nucleotides::table::entry_of`: the fields shifted into place. Assumes nothing.
use mathlib.Core.Path.{◌∙◌}
use Rattle.nucleotides.specs.Pieces.{bytes_of}
use Rattle.nucleotides.proofs.Entries.{width_either, entry_told}
use Rattle.nucleotides.proofs.table.entry_of.Goals as goal

pub returns-clause-value : goal.returns-clause-value
returns-clause-value c =
    let a = c.args in
    let h = c.requires in
    let value = c.from-value.ensures ∙ c.ambiguity_value.ensures in
    rw c.bytes-w.ensures (entry_told (bytes_of a.width) a.code a.start a.length c.from-value.result (width_either a.width) value h.0 h.1 h.2).0
