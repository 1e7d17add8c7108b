-- `metadata::closing_at`: what closes the text from `p` on closes it from the start on. Assumes nothing.
use Rattle.std.proofs.Common.{sym, ◌∙◌, arith, ◌≡◌, true}
use Rattle.fields.proofs.Laws.{past_end}
use Rattle.metadata.proofs.Closings.{closing_here, closing-next}
use Rattle.metadata.proofs.closing_at.Goals as goal

pub loop-p-preserved : goal.loop-p-preserved
loop-p-preserved c =
    let a = c.args in
    let l = c.loop-p in
    (omega arith, closing-next true a.file.now l.p a.to (omega (arith, c.min-end.ensures)) (sym c.stays_in_name.ensures ∙ c.if-not-stays_in_name.false) ∙ l.invariant.1)

pub returns-then-behind-to-clause-value : goal.returns-then-behind-to-clause-value
returns-then-behind-to-clause-value c =
    let a = c.args in
    let l = c.loop-p in
    let p = c.max-behind.result in
    let e = past_end a.file.now p (omega arith) in
    let n : l.p ≡ p = omega arith in
    closing_here true a.file.now p a.to c.if-behind-to.true (sym e) ∙ rw n at l.invariant.1
