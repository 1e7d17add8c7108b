-- `sequence::table::pair`: each entry holds the codes of its byte. Assumes nothing.
use Rattle.sequence.proofs.BaseTable.{pair_codes}
use Rattle.sequence.proofs.table.pair.Goals as goal

pub returns : goal.returns
returns c =
    let a = c.args in
    let f = c.ranges in
    pair_codes a.table.now a.first a.second c.two_entries.result c.requires f.first.fits f.second.fits
    (rw (c.from.ensures, c.from-2.ensures) at c.two_entries.ensures)
