-- `nucleotides::pieces::ambiguous_in`: the sum of what each place adds. Assumes nothing.
use mathlib.Core.Path.{ap, ◌∙◌}
use Prim.Native.Nat.{ℕ, ◌+◌}
use native.Mathlib.Omega.{arith}
use Rattle.laws.proofs.Places.{sum_more}
use Rattle.nucleotides.specs.Scan.{code_at, ambiguous}
use Rattle.nucleotides.proofs.Starts.{ambiguous-most}
use Rattle.nucleotides.proofs.pieces.ambiguous_in.Goals as goal

pub overflow_add-count : goal.overflow_add-count
overflow_add-count c =
    let codes = c.args.codes.now in
    let l = c.loop-code in
    let most = ambiguous-most (code_at codes l.code-index) in
    record { fits = omega (arith, l.invariant, c.requires, most, c.is_ambiguous-count.ensures) }

pub loop-code-preserved : goal.loop-code-preserved
loop-code-preserved c =
    let codes = c.args.codes.now in
    let l = c.loop-code in
    let most = ambiguous-most (code_at codes l.code-index) in (
      omega (arith, l.invariant, most, c.is_ambiguous-count.ensures),
      ap (λ (x : ℕ). x + c.is_ambiguous-count.result) l.invariant.1 ∙ sum_more (λ i. ambiguous (code_at codes i)) l.code-index _ c.is_ambiguous-count.ensures,
    )
