-- `sequence::table::write_eights`: each eight bytes are written behind those before; the last eight over some of them. Assumes nothing.
use mathlib.Core.Path.{◌≡◌}
use Prim.Native.Nat.{◌*◌}
use Rattle.laws.specs.Writing.{written_at}
use Rattle.sequence.specs.Bases.{two_bit_residues}
use Rattle.sequence.proofs.table.write_eights.Given as goal

abbrev pub invariant-loop-block : goal.invariant-loop-block
invariant-loop-block l = l.out ≡ written_at 0 (two_bit_residues l.bytes 0 (32 * l.block)) l.initial.out
