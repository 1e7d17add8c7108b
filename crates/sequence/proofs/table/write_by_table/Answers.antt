-- `sequence::table::write_by_table`: the test of the table is computed over all its entries. Assumes nothing.
use mathlib.Core.Path.{refl}
use Rattle.laws.specs.Digits.{digits}
use Rattle.sequence.proofs.BaseTable.{table-holds}
use Rattle.sequence.proofs.table.write_by_table.Goals as goal

pub write_eights-requires : goal.write_eights-requires
unfolding digits
write_eights-requires c =
    let pre = c.requires in
    (pre.0, pre.1, table-holds _ refl)
