-- `byte_runs::unpacking::put_mixed`: the codes of the packets so far. Assumes nothing.
use mathlib.Core.Path.{◌≡◌}
use Prim.Native.Nat.{◌+◌}
use lib.ListN.{length}
use Rattle.laws.specs.Writing.{Begun}
use Rattle.packets.specs.Decoded.{codes_from}
use Rattle.byte_runs.proofs.unpacking.put_mixed.Given as goal

abbrev pub invariant-loop-j : goal.invariant-loop-j
invariant-loop-j l = record {
  behind : l.at ≡ l.place + length (codes_from l.packets 0 l.j);
  codes : Begun l.place (codes_from l.packets 0 l.j) (l.place + length (codes_from l.packets 0 16) + 10) l.initial.out l.out;
}
