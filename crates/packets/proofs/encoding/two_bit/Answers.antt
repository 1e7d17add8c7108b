-- `packets::encoding::two_bit`: four numbers of four codes, of which two share one. Assumes nothing.
use mathlib.Core.Path.{ap, ◌∙◌}
use Prim.Native.Nat.{ℕ, ◌*◌, ◌/◌, ◌%◌}
use Rattle.packets.proofs.Bases.{bases-sum}
use Rattle.packets.proofs.encoding.two_bit.Goals as goal

pub returns-clause-value : goal.returns-clause-value
returns-clause-value c =
    let moved : ℕ → ℕ = λ n. n * 0x40100401 / 16777216 % 256 in
    bases-sum c.args.next.now c.requires c.four_bases.result c.four_bases-2.result c.four_bases-3.result c.four_bases-4.result
    (c.four_bases.ensures.value ∙ ap moved c.four_at.ensures.value) (c.four_bases-2.ensures.value ∙ ap moved c.four_at-2.ensures.value)
    (c.four_bases-3.ensures.value ∙ ap moved c.four_at-3.ensures.value) (c.four_bases-4.ensures.value ∙ ap moved c.four_at-4.ensures.value)
