-- `byte_runs::packing::write_inner`: the packets written so far, and the run of the codes still to read. Assumes nothing.
use Prim.Native.Nat.{◌≤◌, ◌-◌, ◌+◌, ◌*◌, ◌/◌}
use lib.ListN.{length}
use Rattle.byte_runs.specs.Packed.{RunBegun}
use Rattle.byte_runs.proofs.packing.write_inner.Given as goal

abbrev pub invariant-loop-at : goal.invariant-loop-at
invariant-loop-at l = RunBegun l.codes l.initial.out l.count l.at l.out × (l.row ≤ 16)

abbrev pub decreases-loop-at : goal.decreases-loop-at
decreases-loop-at l = 2 * (length l.codes - l.at) + l.row / 16
