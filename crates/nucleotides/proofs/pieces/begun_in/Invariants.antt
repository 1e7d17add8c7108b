-- `nucleotides::pieces::begun_in`: the sum of what each place adds. Assumes nothing.
use mathlib.Core.Path.{◌≡◌}
use Prim.Native.Nat.{◌+◌, ◌≤◌}
use Rattle.laws.specs.Places.{sum_to}
use Rattle.nucleotides.specs.Scan.{code_at, begun}
use Rattle.nucleotides.proofs.pieces.begun_in.Given as goal

abbrev pub invariant-loop-i : goal.invariant-loop-i
invariant-loop-i l = (l.count ≤ l.i) × (l.count ≡ sum_to (λ i. begun (code_at l.codes i) (code_at l.codes (i + 1))) l.i)
