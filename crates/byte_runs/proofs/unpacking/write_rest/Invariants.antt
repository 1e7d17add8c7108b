-- `byte_runs::unpacking::write_rest`: the codes written so far, and the residues of the last packet. Assumes nothing.
use mathlib.Core.Path.{◌≡◌}
use Prim.Native.Nat.{◌+◌, ◌-◌}
use lib.ListN.{length, drop}
use Rattle.laws.specs.Writing.{Begun}
use Rattle.packets.specs.Runs.{unpacked}
use Rattle.packets.specs.Bytes.{packets_of}
use Rattle.packets.specs.Decoded.{codes_from}
use Rattle.byte_runs.proofs.unpacking.write_rest.Given as goal

abbrev pub invariant-loop-i : goal.invariant-loop-i
invariant-loop-i l = record {
  behind : l.at ≡ l.place + length (codes_from (packets_of l.bytes) l.from (l.i - l.from));
  codes :
      Begun l.place (codes_from (packets_of l.bytes) l.from (l.i - l.from)) (l.place + length (unpacked (drop l.from (packets_of l.bytes)))) l.initial.out l.out;
}
