-- `runs::count_run`: the packets counted so far, and those of the codes still to read. Assumes nothing.
use mathlib.Core.Path.{◌≡◌}
use Prim.Native.Nat.{◌≤◌, ◌+◌}
use lib.ListN.{length}
use Rattle.packets.specs.Packing.{run}
use Rattle.runs.proofs.count_run.Given as goal

abbrev pub invariant-loop-rest : goal.invariant-loop-rest
invariant-loop-rest l = (l.count + length l.rest ≤ length l.codes) × (length (run l.alphabet l.codes) ≡ l.count + length (run l.alphabet l.rest))

abbrev pub decreases-loop-rest : goal.decreases-loop-rest
decreases-loop-rest l = length l.rest
