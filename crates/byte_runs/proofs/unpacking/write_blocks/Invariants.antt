-- `byte_runs::unpacking::write_blocks`: the codes of the blocks so far. Assumes nothing.
use mathlib.Core.Path.{◌≡◌}
use Prim.Native.Nat.{◌*◌}
use lib.ListN.{length}
use Rattle.laws.specs.Writing.{Begun}
use Rattle.packets.specs.Runs.{unpacked}
use Rattle.packets.specs.Bytes.{packets_of}
use Rattle.packets.specs.Decoded.{codes_from}
use Rattle.byte_runs.proofs.unpacking.write_blocks.Given as goal

abbrev pub invariant-loop-i : goal.invariant-loop-i
invariant-loop-i l = record {
  count : l.at ≡ length (codes_from (packets_of l.bytes) 0 (16 * l.i));
  codes : Begun 0 (codes_from (packets_of l.bytes) 0 (16 * l.i)) (length (unpacked (packets_of l.bytes))) l.initial.out l.out;
}
