-- `sequence::corrections::correct`: the corrections passed are written over the output. Assumes nothing.
use mathlib.Core.Path.{◌∙◌}
use Rattle.sequence.specs.Tabled.{width_bytes}
use Rattle.sequence.proofs.Corrected.{corrected-next}
use Rattle.sequence.proofs.corrections.correct.Goals as goal

pub loop-j-preserved : goal.loop-j-preserved
loop-j-preserved c =
    let a = c.args in
    let l = c.loop-j in
    let x = c.correction_at-c in
    let y = c.ambiguity_code in
    c.paint.ensures
    ∙ corrected-next a.sequence.now a.entries.start (width_bytes a.entries.width) l.j a.out.now l.out x.result y.result l.invariant x.ensures.value y.ensures
