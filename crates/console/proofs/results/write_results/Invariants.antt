-- `console::results::write_results`: the values passed so far stand at the range's start. Assumes nothing.
use mathlib.Core.Path.{◌≡◌}
use Prim.Native.Nat.{◌≤◌, ◌-◌}
use lib.ListN.{length, take}
use Rattle.laws.specs.Writing.{written_at}
use Rattle.console.specs.Results.{result_bytes}
use Rattle.console.proofs.results.write_results.Given as goal

abbrev pub invariant-loop-k : goal.invariant-loop-k
invariant-loop-k l = (l.k ≤ length l.values) × (length l.results ≡ length l.initial.results) ×
    (l.results ≡ written_at 0 (result_bytes (take l.k l.values)) l.initial.results)

abbrev pub decreases-loop-k : goal.decreases-loop-k
decreases-loop-k l = length l.values - l.k
