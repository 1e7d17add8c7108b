-- `sequence::bases::sixteen_codes`: the codes of the bytes passed stand in front. Assumes nothing.
use mathlib.Core.Path.{◌≡◌}
use lib.ListN.{length}
use Rattle.laws.specs.Writing.{written_at}
use Rattle.sequence.specs.Sequence.{protein_residues}
use Rattle.sequence.proofs.bases.sixteen_codes.Given as goal

abbrev pub invariant-loop-i : goal.invariant-loop-i
invariant-loop-i l = (length l.codes ≡ 16) × (l.codes ≡ written_at 0 (protein_residues l.block 0 l.i) l.codes)
