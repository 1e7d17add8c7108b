-- `sequence::table::put_pair`: the eight bytes of the number are the residues of two bytes. Assumes nothing.
use mathlib.Core.Path.{◌∙◌}
use native.Mathlib.Omega.{arith}
use Prim.Native.Nat.{◌*◌}
use Rattle.sequence.proofs.BaseTable.{pair_from, part_stored}
use Rattle.sequence.proofs.table.put_pair.Goals as goal

pub returns : goal.returns
returns c =
    let a = c.args in
    let two = c.pair-two in
    part_stored 8 (4 * a.at) two.result a.out.now _ _ (omega (arith, c.requires.1)) (two.ensures ∙ pair_from a.bytes.now a.at)
    c.put.ensures
