-- `byte_runs::packing::write_twos`: the packets written so far, all of plain codes. Assumes nothing.
use mathlib.Core.Path.{◌≡◌}
use mathlib.Core.Bool.{true}
use Prim.Native.Nat.{◌<◌, ◌-◌, ◌*◌}
use lib.ListN.{length}
use Rattle.laws.specs.Writing.{written_at}
use Rattle.packets.specs.Bytes.{bytes_of}
use Rattle.byte_runs.specs.Packed.{twos, plain_parts}
use Rattle.byte_runs.proofs.packing.write_twos.Given as goal

abbrev pub invariant-loop-packets : goal.invariant-loop-packets
invariant-loop-packets l = record {
  more : 15 * l.n < length l.codes;
  plain : plain_parts l.codes l.n ≡ true;
  bytes : l.out ≡ written_at 0 (bytes_of (twos l.codes l.n)) l.initial.out;
}

abbrev pub decreases-loop-packets : goal.decreases-loop-packets
decreases-loop-packets l = length l.codes - 15 * l.n
