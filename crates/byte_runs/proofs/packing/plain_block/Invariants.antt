-- `byte_runs::packing::plain_block`: whether the codes so far are below 4. Assumes nothing.
use mathlib.Core.Path.{◌≡◌}
use lib.Dec.{ltb}
use Rattle.packets.specs.Packing.{plain}
use Rattle.byte_runs.proofs.packing.plain_block.Given as goal

abbrev pub invariant-loop-code : goal.invariant-loop-code
invariant-loop-code l = ltb l.any 4 ≡ plain l.code-index l.codes
