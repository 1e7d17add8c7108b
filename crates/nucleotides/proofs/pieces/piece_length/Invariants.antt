-- `nucleotides::pieces::piece_length`: the codes passed are one code; where the loop ends, the piece does. Assumes nothing.
use Prim.Native.Nat.{◌+◌, ◌≤◌}
use lib.ListN.{length}
use Rattle.nucleotides.proofs.Stretches.{Alike}
use Rattle.nucleotides.proofs.pieces.piece_length.Given as goal

abbrev pub invariant-loop-n : goal.invariant-loop-n
invariant-loop-n l = (l.at + l.n ≤ length l.codes) × Alike l.codes l.at l.n
