-- `elements::integer_part`: the part behind the length byte lies within the slice, and its bytes are tested. Assumes nothing.
use native.Mathlib.Omega.{arith}
use mathlib.Core.Path.{sym, ◌∙◌}
use Rattle.std.proofs.lemmas.Result.{err_from_is_err_and}
use Rattle.elements.proofs.Parts.{integer-cut, integer_tested, part_ends}
use Rattle.std.proofs.Common.{rules}
use Rattle.elements.specs.Parts.{integer_part}
use Rattle.elements.proofs.integer_part.Goals as goal

pub returns-then-s-at : goal.returns-then-s-at
unfolding integer_part
returns-then-s-at c = search rules

pub returns-in_err-part : goal.returns-in_err-part
returns-in_err-part c =
    let p = err_from_is_err_and c.from_residual.result c.from_residual.ensures.1 in
    rw (p.1, p.2) (integer-cut _ _ _ c.if-s-at.false c.from.ensures _ c.in_err-part.ensures)

pub overflow_add-part : goal.overflow_add-part
overflow_add-part c = omega (arith, part_ends _ _ _ _ c.in_ok-part.ensures)

pub slice_bounds-integer_allowed-end : goal.slice_bounds-integer_allowed-end
slice_bounds-integer_allowed-end c = omega (arith, part_ends _ _ _ _ c.in_ok-part.ensures)

pub returns-then-not-integer_allowed : goal.returns-then-not-integer_allowed
returns-then-not-integer_allowed c =
    integer_tested _ _ _ c.if-s-at.false c.from.ensures _ _ c.in_ok-part.ensures
    (sym (c.if-not-integer_allowed.true) ∙ c.integer_allowed.ensures)

pub returns : goal.returns
returns c =
    integer_tested _ _ _ c.if-s-at.false c.from.ensures _ _ c.in_ok-part.ensures
    (sym (c.if-not-integer_allowed.false) ∙ c.integer_allowed.ensures)
