-- `residues::largest_code`: the largest of the codes read so far. Assumes nothing.
use Rattle.std.proofs.Common.{◌≡◌, get_or}
use Rattle.laws.specs.Places.{largest_to}
use Rattle.residues.proofs.largest_code.Given as goal

abbrev pub invariant-loop-code : goal.invariant-loop-code
invariant-loop-code l = l.most ≡ largest_to (λ k. get_or l.codes k 0) l.code-index
