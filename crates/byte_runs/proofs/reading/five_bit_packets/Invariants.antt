-- `byte_runs::reading::five_bit_packets`: bit 30 of the packets so far, added up. Assumes nothing.
use mathlib.Core.Path.{◌≡◌}
use Rattle.packets.specs.Bytes.{packets_by}
use Rattle.packets.specs.Reading.{five_bit_to}
use Rattle.byte_runs.proofs.reading.five_bit_packets.Given as goal

abbrev pub invariant-loop-i : goal.invariant-loop-i
invariant-loop-i l = l.fives ≡ five_bit_to (packets_by l.order l.bytes) l.i
