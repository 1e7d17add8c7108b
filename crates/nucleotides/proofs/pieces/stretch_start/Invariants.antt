-- `nucleotides::pieces::stretch_start`: the places passed have one code; where the loop ends, the stretch begins. Assumes nothing.
use mathlib.Core.Path.{◌≡◌}
use Prim.Native.Nat.{ℕ, ◌+◌, ◌≤◌}
use Rattle.nucleotides.specs.Scan.{code_at}
use Rattle.nucleotides.proofs.pieces.stretch_start.Given as goal

abbrev pub invariant-loop-s : goal.invariant-loop-s
invariant-loop-s l = (l.code ≡ code_at l.codes l.at) × ((i : ℕ) → l.s ≤ i + 1 → i ≤ l.at → code_at l.codes i ≡ code_at l.codes l.at)
