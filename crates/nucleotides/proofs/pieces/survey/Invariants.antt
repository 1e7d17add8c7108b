-- `nucleotides::pieces::survey`: block by block, the largest code and the pieces so far. Assumes nothing.
use mathlib.Core.Path.{◌≡◌}
use Prim.Native.Nat.{◌-◌, ◌≤◌}
use lib.ListN.{length}
use Rattle.laws.specs.Places.{largest_to}
use Rattle.nucleotides.specs.Scan.{code_at, Met}
use Rattle.nucleotides.specs.Pieces.{limit_of}
use Rattle.nucleotides.proofs.pieces.survey.Given as goal

abbrev pub invariant-loop-start : goal.invariant-loop-start
invariant-loop-start l =
    (l.start ≤ length l.codes)
    × (l.start ≤ l.next)
    × (l.top ≡ largest_to (code_at l.codes) l.start)
    × Met (limit_of l.width) l.codes 0 l.pieces l.next

abbrev pub decreases-loop-start : goal.decreases-loop-start
decreases-loop-start l = length l.codes - l.start
