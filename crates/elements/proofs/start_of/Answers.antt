-- `elements::start_of`: the tests are those of the definition, in its order. Assumes nothing.
use native.Mathlib.Omega.{arith}
use mathlib.Core.Path.{sym}
use Prim.Native.Nat.{◌+◌}
use Rattle.elements.proofs.Parts.{integer-read, text-within, within_part}
use Rattle.std.proofs.Common.{rules}
use Rattle.elements.specs.Reading.{start_of}
use Rattle.elements.proofs.start_of.Goals as goal

pub returns-then-s-at : goal.returns-then-s-at
unfolding start_of
returns-then-s-at c = search rules

pub returns-then-not-may_begin : goal.returns-then-not-may_begin
unfolding start_of
returns-then-not-may_begin c = search rules

pub returns-in_err-part : goal.returns-in_err-part
unfolding start_of
returns-in_err-part c = search rules

pub returns-then-b-eq2 : goal.returns-then-b-eq2
unfolding start_of
returns-then-b-eq2 c = search rules

pub returns-in_err-part-2 : goal.returns-in_err-part-2
unfolding start_of
returns-in_err-part-2 c = search rules

pub returns-then-b-eq26 : goal.returns-then-b-eq26
unfolding start_of
returns-then-b-eq26 c = search rules

pub returns-then-not-opens_at : goal.returns-then-not-opens_at
unfolding start_of
returns-then-not-opens_at c = search rules

pub returns-in-48 : goal.returns-in-48
unfolding start_of
returns-in-48 c = search rules

pub returns-in-160-to-179 : goal.returns-in-160-to-179
unfolding start_of
returns-in-160-to-179 c = search rules

pub returns-in_default : goal.returns-in_default
unfolding start_of
returns-in_default c = search rules

pub returns-in_default-2 : goal.returns-in_default-2
unfolding start_of
returns-in_default-2 c = search rules

pub overflow_add-result : goal.overflow_add-result
overflow_add-result c = let r = integer-read _ _ _ (sym c.in_ok-part.ensures) in omega (arith, r.fits)

pub overflow_add-result-then-b-eq26 : goal.overflow_add-result-then-b-eq26
overflow_add-result-then-b-eq26 c =
    let a = c.args in
    omega (arith, within_part _ _ _ (text-within a.s.now (a.at + 1) _ c.text_part.ensures) c.in_ok-part-2.was)
