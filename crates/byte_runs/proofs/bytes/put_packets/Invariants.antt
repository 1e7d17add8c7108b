-- `byte_runs::bytes::put_packets`: the packets written so far. Assumes nothing.
use mathlib.Core.Path.{◌≡◌}
use lib.ListN.{take}
use Rattle.laws.specs.Writing.{written_at}
use Rattle.packets.specs.Bytes.{bytes_of}
use Rattle.byte_runs.proofs.bytes.put_packets.Given as goal

abbrev pub invariant-loop-i : goal.invariant-loop-i
invariant-loop-i g l = l.out ≡ written_at 0 (bytes_of (take l.i l.packets)) l.initial.out
