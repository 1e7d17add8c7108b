-- `runs::write_residues`: the codes written so far, and the residues of the last packet. Assumes nothing.
use mathlib.Core.Path.{◌≡◌}
use Prim.Native.Nat.{◌+◌}
use lib.ListN.{length, drop}
use Rattle.laws.specs.Writing.{Begun}
use Rattle.packets.specs.Runs.{unpacked}
use Rattle.packets.specs.Decoded.{codes_from}
use Rattle.runs.proofs.write_residues.Given as goal

abbrev pub invariant-loop-packet : goal.invariant-loop-packet
invariant-loop-packet l = (l.at ≡ 0 + length (codes_from l.source 0 l.packet-index))
    × Begun 0 (codes_from l.source 0 l.packet-index) (0 + length (unpacked (drop 0 l.source))) l.initial.out l.out
