-- `dsqdata::found_at`: the rules say that no part ends before its start. Assumes nothing.
use Rattle.std.proofs.Common.{arith}
use Rattle.dsqdata.specs.Ends.{metadata_table, packet_table}
use Rattle.dsqdata.proofs.Parts.{part_rises}
use Rattle.dsqdata.proofs.found_at.Goals as goal

pub overflow_sub-result : goal.overflow_sub-result
overflow_sub-result c =
    let a = c.args in
    let e = c.metadata-metadata.ensures in
    omega (arith, part_rises a.order a.index.now metadata_table a.k c.requires.all_hold.0, rw (e.0, e.1, e.2) at c.start-start.ensures.value, rw (e.0, e.1, e.2) at c.start.ensures.value)

pub overflow_sub-result-2 : goal.overflow_sub-result-2
overflow_sub-result-2 c =
    let a = c.args in
    let e = c.packets-packets.ensures in
    omega (arith, part_rises a.order a.index.now packet_table a.k c.requires.all_hold.1, rw (e.0, e.1, e.2) at c.start-run.ensures.value, rw (e.0, e.1, e.2) at c.start-2.ensures.value)
