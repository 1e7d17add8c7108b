-- `sequence::bases::write_by_products`: the bases of the bytes passed are written, and the rest of the output is as it was. Assumes nothing.
use mathlib.Core.Path.{◌≡◌}
use Prim.Native.Nat.{◌*◌}
use Rattle.laws.specs.Writing.{written_at}
use Rattle.sequence.specs.Bases.{two_bit_residues}
use Rattle.sequence.proofs.bases.write_by_products.Given as goal

abbrev pub invariant-loop-m : goal.invariant-loop-m
invariant-loop-m l = l.out ≡ written_at 0 (two_bit_residues l.bytes 0 (4 * l.m)) l.initial.out
