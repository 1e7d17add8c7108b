-- `elements::number`: the invariant says that the bytes left, read after the number so far, give the whole number. Assumes nothing.
use Prim.Native.Nat.{◌*◌, ◌^◌, ◌<◌}
use mathlib.Core.Path.{◌≡◌}
use lib.ListN.{drop}
use Rattle.laws.specs.Digits.{value}
use Rattle.elements.proofs.number.Given as goal

abbrev pub invariant-loop-b : goal.invariant-loop-b
invariant-loop-b l = (l.x < 2 ^ (8 * l.b-index)) × (value 8 l.x (drop l.b-index l.bytes) ≡ value 8 0 l.bytes)
