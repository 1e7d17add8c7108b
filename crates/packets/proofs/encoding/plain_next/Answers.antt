-- `packets::encoding::plain_next`: a mask over four numbers of four codes. Assumes nothing.
use mathlib.Core.Path.{sym}
use Rattle.std.proofs.Common.{rules}
use Rattle.packets.proofs.Packing.{plain-short}
use Rattle.packets.proofs.Bases.{plain_fours}
use Rattle.packets.proofs.encoding.plain_next.Goals as goal

pub returns-then-next-lt15 : goal.returns-then-next-lt15
returns-then-next-lt15 c = sym (plain-short 15 c.args.next.now c.if-next-lt15.true)

pub returns : goal.returns
returns c =
    plain_fours c.args.next.now
    (λ k. search rules) c.four_at.result
    c.four_at-2.result c.four_at-3.result c.four_at-4.result c.if-next-lt15.false
    c.four_at.ensures.value c.four_at-2.ensures.value c.four_at-3.ensures.value
    c.four_at-4.ensures.value
