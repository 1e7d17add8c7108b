-- `sequence::bases::write_few`: the codes of the bytes passed are written, and the rest of the output is as it was. Assumes nothing.
use mathlib.Core.Path.{◌≡◌}
use Rattle.laws.specs.Writing.{written_at}
use Rattle.sequence.specs.Sequence.{protein_residues}
use Rattle.sequence.proofs.bases.write_few.Given as goal

abbrev pub invariant-loop-k : goal.invariant-loop-k
invariant-loop-k l = l.out ≡ written_at 0 (protein_residues l.bytes 0 l.k) l.initial.out
