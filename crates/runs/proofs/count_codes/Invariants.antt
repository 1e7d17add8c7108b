-- `runs::count_codes`: the codes of the packets so far. Assumes nothing.
use mathlib.Core.Path.{◌≡◌}
use Rattle.packets.specs.Reading.{codes_to}
use Rattle.runs.proofs.count_codes.Given as goal

abbrev pub invariant-loop-packet : goal.invariant-loop-packet
invariant-loop-packet l = l.total ≡ codes_to l.source l.packet-index
