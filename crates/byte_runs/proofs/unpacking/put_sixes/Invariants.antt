-- `byte_runs::unpacking::put_sixes`: sixteen packets taken apart, and then written one behind another. Assumes nothing.
use mathlib.Core.Path.{◌≡◌}
use Prim.Native.Nat.{◌+◌}
use lib.ListN.{length}
use Rattle.laws.specs.Writing.{Begun}
use Rattle.packets.specs.Bytes.{packets_of}
use Rattle.packets.specs.Decoded.{codes_from}
use Rattle.byte_runs.proofs.Blocks.{InTwo}
use Rattle.byte_runs.proofs.unpacking.put_sixes.Given as goal

abbrev pub invariant-loop-i : goal.invariant-loop-i
invariant-loop-i l = record {
  fours : length l.fours ≡ 16;
  twos : length l.twos ≡ 16;
  codes : InTwo (packets_of l.block) l.i l.fours l.twos;
}

abbrev pub invariant-loop-j : goal.invariant-loop-j
invariant-loop-j l = Begun l.at (codes_from (packets_of l.block) 0 l.j) (l.at + 96) l.initial.out l.out
