-- `nucleotides::pieces::ambiguous_in`: the sum of what each place adds. Assumes nothing.
use mathlib.Core.Path.{◌≡◌}
use Prim.Native.Nat.{◌≤◌}
use Rattle.laws.specs.Places.{sum_to}
use Rattle.nucleotides.specs.Scan.{code_at, ambiguous}
use Rattle.nucleotides.proofs.pieces.ambiguous_in.Given as goal

abbrev pub invariant-loop-code : goal.invariant-loop-code
invariant-loop-code l = (l.count ≤ l.code-index) × (l.count ≡ sum_to (λ i. ambiguous (code_at l.codes i)) l.code-index)
