-- `elements::element_within`: an inner element is read with one depth less. The loop's invariant says that the rest of the list, read from p on, gives the
-- answer for the whole element. Assumes nothing.
use native.Mathlib.Omega.{arith}
use mathlib.Core.Path.{sym, ap, ◌∙◌}
use Rattle.std.specs.Prelude.{Ok}
use Rattle.std.proofs.lemmas.Result.{err_from_is_err_and}
use Rattle.elements.proofs.Began.{read-low}
use Rattle.elements.proofs.Reading.{ends-within, list-room, choice-room, read_started, read-choice}
use Rattle.elements.proofs.Reading.{rest_begins, rest_ends, rest_short, rest_stray, rest_refused, rest_passed}
use Rattle.std.proofs.Common.{rules}
use Rattle.elements.specs.Reading.{read}
use Rattle.elements.proofs.+element_within.Goals as goal

pub returns-then-depth-eq0 : goal.returns-then-depth-eq0
unfolding read
returns-then-depth-eq0 t c = search rules

-- how the element begins

pub returns-in_err-end : goal.returns-in_err-end
returns-in_err-end t c =
    let p = err_from_is_err_and c.from_residual.result c.from_residual.ensures.1 in
    rw (p.1, p.2) (read_started _ _ _ c.start_of.ensures _ c.if-depth-eq0.false c.in_err-end.was)

pub returns-in-Ended : goal.returns-in-Ended
returns-in-Ended t c = read_started _ _ _ c.start_of.ensures _ c.if-depth-eq0.false (c.in_ok-end.was ∙ ap Ok c.in-Ended.is)

-- a choice

pub overflow_add-at : goal.overflow_add-at
overflow_add-at t c = let h = choice-room _ _ _ c.start_of.ensures (c.in_ok-end.was ∙ ap Ok c.in-Choice.is) in omega arith

pub returns-in_err-end-in-Choice : goal.returns-in_err-end-in-Choice
returns-in_err-end-in-Choice t c =
    let f = c.from_residual-in_err-end-in-Choice in
    let p = err_from_is_err_and f.result f.ensures.1 in
    rw (p.1, p.2)
    (read-choice _ _ _ c.start_of.ensures _ c.if-depth-eq0.false (c.in_ok-end.was ∙ ap Ok c.in-Choice.is) c.element_within.ensures
    c.in_err-end-in-Choice.was)

pub returns-in_ok-end-in-Choice : goal.returns-in_ok-end-in-Choice
returns-in_ok-end-in-Choice t c =
    c.closed.ensures
    ∙ read-choice _ _ _ c.start_of.ensures _ c.if-depth-eq0.false (c.in_ok-end.was ∙ ap Ok c.in-Choice.is) c.element_within.ensures
    c.in_ok-end-in-Choice.was

-- a list

pub overflow_add-p : goal.overflow_add-p
overflow_add-p t c = let h = list-room _ _ _ c.start_of.ensures (c.in_ok-end.was ∙ ap Ok c.in-List.is) in omega arith

pub loop-inner-init : goal.loop-inner-init
loop-inner-init t c = rest_begins _ _ _ _ c.start_of.ensures c.if-depth-eq0.false (c.in_ok-end.was ∙ ap Ok c.in-List.is)

pub returns-then-not-may_follow : goal.returns-then-not-may_follow
returns-then-not-may_follow t c =
    rest_stray c.loop-inner.invariant
    (sym c.closes_at.ensures ∙ c.loop-inner-test.true)
    c.byte-b.ensures (sym c.may_follow.ensures ∙ c.if-not-may_follow.true)

pub returns-in_err-p-in-List : goal.returns-in_err-p-in-List
returns-in_err-p-in-List t c =
    let f = c.from_residual-in_err-p-in-List in
    let p = err_from_is_err_and f.result f.ensures.1 in
    rw (p.1, p.2)
    (rest_refused c.loop-inner.invariant (sym c.closes_at.ensures ∙ c.loop-inner-test.true) c.byte-b.ensures
    (sym c.may_follow.ensures ∙ c.if-not-may_follow.false) c.element_within-in-loop-inner.ensures c.in_err-p-in-List.was)

pub loop-inner-smaller : goal.loop-inner-smaller
loop-inner-smaller t c = let w = ends-within _ _ _ _ _ (sym c.element_within-in-loop-inner.ensures ∙ c.in_ok-p-in-List.was) in omega arith

pub overflow_add-low : goal.overflow_add-low
overflow_add-low t c =
    let l = read-low _ _ _ _ _ (sym c.element_within-in-loop-inner.ensures ∙ c.in_ok-p-in-List.was) in
    omega (arith, c.byte-b.ensures)

pub loop-inner-preserved : goal.loop-inner-preserved
loop-inner-preserved t c =
    rest_passed c.loop-inner.invariant
    (sym c.closes_at.ensures ∙ c.loop-inner-test.true)
    c.byte-b.ensures
    (sym c.may_follow.ensures ∙ c.if-not-may_follow.false)
    c.element_within-in-loop-inner.ensures c.in_ok-p-in-List.was
    (ends-within _ _ _ _ _ (sym c.element_within-in-loop-inner.ensures ∙ c.in_ok-p-in-List.was))

pub returns-then-not-may_close : goal.returns-then-not-may_close
returns-then-not-may_close t c =
    rest_short c.loop-inner.invariant
    (sym c.closes_at.ensures ∙ c.loop-inner-test.false)
    (sym c.may_close.ensures ∙ c.if-not-may_close.true)

pub returns-else-not-may_close : goal.returns-else-not-may_close
returns-else-not-may_close t c =
    rest_ends c.loop-inner.invariant
    (sym c.closes_at.ensures ∙ c.loop-inner-test.false)
    (sym c.may_close.ensures ∙ c.if-not-may_close.false)
