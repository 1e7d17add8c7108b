-- `packets::put_first`: the codes written so far. Assumes nothing.
use mathlib.Core.Path.{◌≡◌}
use lib.Seq.{paste}
use Rattle.laws.specs.Digits.{digits}
use Rattle.packets.proofs.put_first.Given as goal

abbrev pub invariant-loop-i : goal.invariant-loop-i
invariant-loop-i l = l.out ≡ paste l.initial.out l.at (digits 5 6 l.packet) l.i
