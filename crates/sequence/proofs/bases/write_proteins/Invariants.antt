-- `sequence::bases::write_proteins`: each sixteen are written behind those before; the last sixteen over some of them. Assumes nothing.
use mathlib.Core.Path.{◌≡◌}
use Prim.Native.Nat.{◌*◌}
use Rattle.laws.specs.Writing.{written_at}
use Rattle.sequence.specs.Sequence.{protein_residues}
use Rattle.sequence.proofs.bases.write_proteins.Given as goal

abbrev pub invariant-loop-block : goal.invariant-loop-block
invariant-loop-block l = l.out ≡ written_at 0 (protein_residues l.bytes 0 (16 * l.block)) l.initial.out
