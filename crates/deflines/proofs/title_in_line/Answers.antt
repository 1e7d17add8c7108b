-- `deflines::title_in_line`: each turn passes one field, stops at a title and steps past any other.
-- What is left of the fields gives the answer. Assumes nothing.
use mathlib.Core.Path.{sym, ap, ◌∙◌}
use Rattle.deflines.specs.Fields.{titles_in}
use Rattle.deflines.specs.Numbered.{item_from}
use Rattle.deflines.proofs.Walks.{rest-first, rest_none, turn_room, turn_found, turn_left, turn_past}
use Rattle.deflines.proofs.Fields.{no_title, title_held}
use Rattle.deflines.proofs.title_in_line.Goals as goal

pub loop-p-init : goal.loop-p-init
unfolding titles_in
loop-p-init c = rw c.into_iter-p-iterator.ensures.into_iter_gives (rest-first _ _ _ _ _ c.elements_in-p-items.ensures)

pub field_at-requires : goal.field_at-requires
field_at-requires c = turn_room c.loop-p.invariant c.in-Some.ensures.steps

pub loop-p-preserved-in_default : goal.loop-p-preserved-in_default
loop-p-preserved-in_default c =
    turn_past c.loop-p.invariant c.in-Some.ensures.steps (no_title _ _ _ c.field_at.ensures c.in_default.not-Title)

pub returns-in_err-left : goal.returns-in_err-left
returns-in_err-left c =
    let held = ap (λ ts. item_from ts c.loop-p.left) (title_held _ _ _ c.field_at.ensures _ c.in-Title.is) in
    rw c.from_residual.ensures (turn_found c.loop-p.invariant c.in-Some.ensures.steps _ (held ∙ sym c.pass.ensures ∙ c.in_err-left.was))

pub loop-p-preserved : goal.loop-p-preserved
loop-p-preserved c =
    let held = ap (λ ts. item_from ts c.loop-p.left) (title_held _ _ _ c.field_at.ensures _ c.in-Title.is) in
    turn_left c.loop-p.invariant c.in-Some.ensures.steps _ (held ∙ sym c.pass.ensures ∙ c.in_ok-left.was)

pub returns : goal.returns
returns c = rest_none c.loop-p.invariant c.in-None.ensures.steps.0
