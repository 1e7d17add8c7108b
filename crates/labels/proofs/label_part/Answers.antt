-- `labels::label_part`: a label's part lies within its file. Assumes nothing.
use native.Mathlib.Omega.{arith}
use mathlib.Core.Path.{sym, ap, ◌∙◌}
use Rattle.std.specs.Prelude.{Ok}
use Rattle.labels.proofs.Labels.{label_within}
use Rattle.labels.proofs.label_part.Goals as goal

pub overflow_add-result : goal.overflow_add-result
overflow_add-result c =
    let i = c.in-Ok-InHeader in omega (arith, label_within _ _ _ _ (sym c.find_label.ensures ∙ i.is ∙ ap Ok i.field-0-is))

pub slice_bounds-result-end : goal.slice_bounds-result-end
slice_bounds-result-end c =
    let i = c.in-Ok-InHeader in omega (arith, label_within _ _ _ _ (sym c.find_label.ensures ∙ i.is ∙ ap Ok i.field-0-is))

pub overflow_add-result-in-Ok-InIndex : goal.overflow_add-result-in-Ok-InIndex
overflow_add-result-in-Ok-InIndex c =
    let i = c.in-Ok-InIndex in omega (arith, label_within _ _ _ _ (sym c.find_label.ensures ∙ i.is ∙ ap Ok i.field-0-is))

pub slice_bounds-result-end-in-Ok-InIndex : goal.slice_bounds-result-end-in-Ok-InIndex
slice_bounds-result-end-in-Ok-InIndex c =
    let i = c.in-Ok-InIndex in omega (arith, label_within _ _ _ _ (sym c.find_label.ensures ∙ i.is ∙ ap Ok i.field-0-is))
