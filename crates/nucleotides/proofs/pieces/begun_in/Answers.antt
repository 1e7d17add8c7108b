-- `nucleotides::pieces::begun_in`: the sum of what each place adds. Assumes nothing.
use mathlib.Core.Path.{◌≡◌, ap, ◌∙◌}
use Prim.Native.Nat.{ℕ, ◌+◌, ◌-◌, ◌<◌}
use native.Mathlib.Nat.{add_comm}
use native.Mathlib.Omega.{arith}
use lib.ListN.{length, take, drop, get_or}
use mathlib.Core.List.{List}
use Rattle.std.proofs.lemmas.List.{get_or-take}
use Rattle.std.proofs.lemmas.Grind.{get_or_after_one}
use Rattle.laws.proofs.Places.{sum_more}
use Rattle.nucleotides.specs.Scan.{code_at, begun}
use Rattle.nucleotides.proofs.Starts.{begun-most}
use Rattle.nucleotides.proofs.pieces.begun_in.Goals as goal

-- the codes behind the first, one by one
behind_at : (codes : List ℕ) (i : ℕ) → i < length codes - 1 → get_or (take (length codes - 1) (drop 1 codes)) i 0 ≡ code_at codes (i + 1)
behind_at codes i h = get_or-take (length codes - 1) (drop 1 codes) i 0 h ∙ get_or_after_one codes i 0 ∙ ap (code_at codes) (add_comm 1 i)

pub overflow_add-count : goal.overflow_add-count
overflow_add-count c =
    let codes = c.args.codes.now in
    let l = c.loop-i in
    let most = begun-most (code_at codes l.i) (code_at codes (l.i + 1)) in
    let one = c.is_begun-count.ensures ∙ ap (begun (code_at codes l.i)) (behind_at codes l.i (omega arith)) in
    record { fits = omega (arith, l.invariant, c.requires, most, one) }

pub loop-i-preserved : goal.loop-i-preserved
loop-i-preserved c =
    let codes = c.args.codes.now in
    let l = c.loop-i in
    let most = begun-most (code_at codes l.i) (code_at codes (l.i + 1)) in
    let one = c.is_begun-count.ensures ∙ ap (begun (code_at codes l.i)) (behind_at codes l.i (omega arith)) in (
      omega (arith, l.invariant, most, one),
      ap (λ (x : ℕ). x + c.is_begun-count.result) l.invariant.1 ∙ sum_more (λ i. begun (code_at codes i) (code_at codes (i + 1))) l.i _ one,
    )
