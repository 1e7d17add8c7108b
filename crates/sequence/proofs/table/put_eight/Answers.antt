-- `sequence::table::put_eight`: the bases of the pairs passed are written, and the rest of the output is as it was. Assumes nothing.
use Prim.Native.Nat.{◌+◌, ◌*◌}
use native.Mathlib.Omega.{arith}
use Rattle.sequence.proofs.BaseTable.{residues_stored}
use Rattle.sequence.proofs.table.put_eight.Goals as goal

pub loop-i-preserved : goal.loop-i-preserved
loop-i-preserved c =
    let a = c.args in
    let l = c.loop-i in
    residues_stored a.bytes.now a.at (4 * a.at) (2 * l.i) (8 * l.i) 8 (8 * (l.i + 1)) (4 * (a.at + 2 * l.i)) a.out.now l.out _ l.invariant
    c.put_pair.ensures (omega arith) (omega arith) (omega arith) (omega arith) (omega (arith, c.requires.1))
