-- `labels::find_label`: a sequence of the number is there, and its own offsets are asked. Assumes nothing.
use native.Mathlib.Omega.{arith}
use mathlib.Core.Path.{sym, ◌∙◌}
use mir.Syntax.{w32}
use mir.ValLaws.{to_z-of_z}
use Rattle.labels.proofs.Labels.{label_found, index_read}
use Rattle.labels.proofs.find_label.Goals as goal

pub returns : goal.returns
returns c =
    let e = sym c.read_index.ensures ∙ c.in_ok-x.was in
    let r = index_read _ _ e in
    label_found _ _ _ c.if-header-gt-MOST_BYTES.false _ e _ _ _ _ _
    (omega (arith, r.number)) r.table r.title
    (to_z-of_z w32 _ (record { sfits = c.header_offset-low.type_inv }) ∙ c.header_offset-low.ensures)
    (to_z-of_z w32 _ (record { sfits = c.header_offset-high.type_inv }) ∙ c.header_offset-high.ensures)
    c.offsets_label.ensures
