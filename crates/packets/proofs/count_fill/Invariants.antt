-- `packets::count_fill`: so many of the codes passed are 31. Assumes nothing.
use mathlib.Core.Path.{◌≡◌}
use lib.ListN.{take}
use Rattle.std.specs.Prelude.{◌==◌, count_by}
use Rattle.packets.proofs.count_fill.Given as goal

abbrev pub invariant-loop-code : goal.invariant-loop-code
invariant-loop-code l = l.count ≡ count_by (λ c. c == 31) (take l.code-index l.codes)
