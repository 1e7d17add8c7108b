-- `sequence::table::put_eight`: the bases of the pairs passed are written, and the rest of the output is as it was. Assumes nothing.
use mathlib.Core.Path.{◌≡◌}
use Prim.Native.Nat.{◌*◌}
use Rattle.laws.specs.Writing.{written_at}
use Rattle.sequence.specs.Bases.{two_bit_residues}
use Rattle.sequence.proofs.table.put_eight.Given as goal

abbrev pub invariant-loop-i : goal.invariant-loop-i
invariant-loop-i l = l.out ≡ written_at (4 * l.at) (two_bit_residues l.bytes l.at (8 * l.i)) l.initial.out
