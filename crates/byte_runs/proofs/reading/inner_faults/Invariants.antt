-- `byte_runs::reading::inner_faults`: 0 so far where each packet so far may stand there. Assumes nothing.
use mathlib.Core.Path.{◌≡◌}
use lib.Dec.{eqb}
use Rattle.packets.specs.Bytes.{packets_by}
use Rattle.packets.specs.Reading.{inner_to}
use Rattle.byte_runs.proofs.reading.inner_faults.Given as goal

abbrev pub invariant-loop-i : goal.invariant-loop-i
invariant-loop-i l = eqb l.faults 0 ≡ inner_to l.alphabet (packets_by l.order l.bytes) l.i
