-- `sequence::bases::write_bases`: behind the whole bytes, the residues passed of the last byte are written, and the rest of the output is as it was.
-- Assumes nothing.
use mathlib.Core.Path.{◌≡◌}
use mathlib.Core.List.{List}
use Prim.Native.Nat.{ℕ, ◌*◌}
use lib.ListN.{length}
use Rattle.laws.specs.Writing.{written_at}
use Rattle.sequence.specs.Bases.{two_bit_residues}
use Rattle.sequence.proofs.bases.write_bases.Given as goal

abbrev pub invariant-loop-k : goal.invariant-loop-k
invariant-loop-k l =
    (length l.out ≡ length l.initial.out)
    × ((old : List ℕ) → length old ≡ length l.initial.out → l.initial.out ≡ written_at 0 (two_bit_residues l.bytes 0 (4 * l.whole)) old
    → l.out ≡ written_at 0 (two_bit_residues l.bytes 0 l.k) old)
