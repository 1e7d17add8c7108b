-- `elements::number`: the invariant says that the bytes left, read after the number so far, give the whole number. Assumes nothing.
use mathlib.Core.Path.{sym, ◌∙◌}
use native.Mathlib.Omega.{arith}
use Rattle.laws.proofs.Digits.{more-digits}
use Rattle.elements.proofs.Parts.{room, value-next, value-last}
use Rattle.elements.proofs.number.Goals as goal

pub overflow_mul-x : goal.overflow_mul-x
overflow_mul-x c = omega (arith, room _ _ (omega arith) c.loop-b.invariant.0)

pub loop-b-preserved : goal.loop-b-preserved
loop-b-preserved c =
    let l = c.loop-b in (
      more-digits 8 l.b-index l.invariant.0 (omega (arith, c.from.ensures, (c.type_inv.bytes l.b-index).fits)),
      value-next c.args.bytes.now l.b-index l.x c.from.result c.loop-b-test.true c.from.ensures ∙ l.invariant.1,
    )

pub returns : goal.returns
returns c = let l = c.loop-b in sym (value-last c.args.bytes.now l.b-index l.x c.loop-b-test.false) ∙ l.invariant.1
