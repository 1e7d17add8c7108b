-- `nucleotides::pieces::count_pieces`: the scan goes on past a code or past a piece. Assumes nothing.
use Prim.Native.Nat.{◌-◌, ◌≤◌}
use Rattle.nucleotides.specs.Scan.{Met}
use Rattle.nucleotides.specs.Pieces.{limit_of}
use Rattle.nucleotides.proofs.pieces.count_pieces.Given as goal

abbrev pub invariant-loop-k : goal.invariant-loop-k
invariant-loop-k l = (l.n ≤ l.k) × Met (limit_of l.width) l.codes l.from l.n l.k

abbrev pub decreases-loop-k : goal.decreases-loop-k
decreases-loop-k l = l.end - l.k
