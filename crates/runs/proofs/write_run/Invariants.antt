-- `runs::write_run`: the packets written so far, and the run of the codes still to read. Assumes nothing.
use mathlib.Core.Path.{◌≡◌}
use mathlib.Core.Bool.{true}
use Prim.Native.Nat.{◌≤◌, ◌+◌}
use lib.ListN.{length, drop}
use lib.Seq.{paste}
use Rattle.residues.specs.Alphabets.{valid_codes}
use Rattle.packets.specs.Packing.{run}
use Rattle.runs.proofs.write_run.Given as goal

abbrev pub invariant-loop-rest : goal.invariant-loop-rest
invariant-loop-rest l = (l.count + length l.rest ≤ length l.codes)
    × (length l.buffer ≡ length l.initial.buffer)
    × (l.buffer ≡ paste l.initial.buffer 0 (run l.alphabet l.codes) l.count)
    × (drop l.count (run l.alphabet l.codes) ≡ run l.alphabet l.rest)
    × (valid_codes l.alphabet l.rest ≡ true)

abbrev pub decreases-loop-rest : goal.decreases-loop-rest
decreases-loop-rest l = length l.rest
