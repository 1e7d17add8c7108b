-- `byte_runs::unpacking::put_bases`: the codes of the packets so far. Assumes nothing.
use Prim.Native.Nat.{◌+◌}
use Rattle.laws.specs.Writing.{Begun}
use Rattle.packets.specs.Decoded.{codes_from}
use Rattle.byte_runs.proofs.unpacking.put_bases.Given as goal

abbrev pub invariant-loop-j : goal.invariant-loop-j
invariant-loop-j l = Begun l.at (codes_from l.packets 0 l.j) (l.at + 241) l.initial.out l.out
