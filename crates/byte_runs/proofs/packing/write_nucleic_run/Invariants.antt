-- `byte_runs::packing::write_nucleic_run`: what is left, written behind what is written, is what was left before. Assumes nothing.
use mathlib.Core.Path.{◌≡◌}
use Prim.Native.Nat.{◌≤◌, ◌-◌, ◌+◌, ◌*◌, ◌/◌}
use lib.ListN.{length, drop}
use Rattle.laws.specs.Writing.{written_at}
use Rattle.packets.specs.Packing.{run}
use Rattle.packets.specs.Bytes.{bytes_of}
use Rattle.byte_runs.proofs.packing.write_nucleic_run.Given as goal

abbrev pub invariant-loop-count : goal.invariant-loop-count
invariant-loop-count l = (l.at ≤ length l.codes - 1) × (l.count + length (run 1 (drop l.at l.codes)) ≡ l.initial.count + length (run 1
    (drop l.initial.at l.codes))) × (length l.out ≡ length l.initial.out)
    × (l.count + length (run 1 (drop l.at l.codes)) ≤ length l.out / 4)
    × (written_at (4 * l.count) (bytes_of (run 1 (drop l.at l.codes))) l.out ≡ written_at (4 * l.initial.count) (bytes_of (run 1 (drop l.initial.at l.codes))) l.initial.out)

abbrev pub decreases-loop-count : goal.decreases-loop-count
decreases-loop-count l = length l.codes - l.at
