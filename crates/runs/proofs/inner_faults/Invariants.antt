-- `runs::inner_faults`: 0 so far where each packet so far may stand there. Assumes nothing.
use mathlib.Core.Path.{◌≡◌}
use lib.Dec.{eqb}
use Rattle.packets.specs.Reading.{inner_to}
use Rattle.runs.proofs.inner_faults.Given as goal

abbrev pub invariant-loop-packet : goal.invariant-loop-packet
invariant-loop-packet l = eqb l.faults 0 ≡ inner_to l.alphabet l.source l.packet-index
