-- `nucleotides::pieces::survey`: block by block, the largest code and the pieces so far. Assumes nothing.
use mathlib.Core.Path.{◌≡◌, ap, ◌∙◌}
use native.Mathlib.Omega.{arith}
use lib.ListN.{length}
use Rattle.laws.specs.Places.{largest_to}
use Rattle.nucleotides.specs.Scan.{code_at}
use Rattle.nucleotides.proofs.Stretches.{met_join, met_all, pieces-count, at_most_largest, largest_part, largest_so_far}
use Rattle.nucleotides.specs.Pieces.{limit_of}
use Rattle.nucleotides.proofs.pieces.survey.Goals as goal

pub count_block-reached-requires-clause-by_index : goal.count_block-reached-requires-clause-by_index
count_block-reached-requires-clause-by_index c =
    let l = c.loop-start in
    λ k p q. rw (c.largest_code-largest.ensures ∙ largest_part c.args.codes.now l.start c.min-end.result (omega (arith, c.min-end.ensures, c.loop-start-test.true)) (omega (arith, c.min-end.ensures))) (at_most_largest c.args.codes.now l.start c.min-end.result k (omega (arith, l.invariant.1)) q)

pub overflow_add-pieces : goal.overflow_add-pieces
overflow_add-pieces c =
    let a = c.args in
    let l = c.loop-start in
    let r = c.count_block-reached in
    let m = (met_join (limit_of a.width) a.codes.now 0 l.pieces l.next r.result.pieces r.result.next l.invariant.3 r.ensures.met).some in
    let n = pieces-count (limit_of a.width) 0 0 a.codes.now in
    record { fits = omega arith }

pub loop-start-preserved : goal.loop-start-preserved
loop-start-preserved c =
    let a = c.args in
    let l = c.loop-start in
    let r = c.count_block-reached in
    let e = c.min-end.ensures in
    let top = largest_so_far a.codes.now l.start c.min-end.result l.top c.largest_code-largest.result (omega (arith, e, c.loop-start-test.true))
    l.invariant.2
    (c.largest_code-largest.ensures ∙ largest_part a.codes.now l.start c.min-end.result (omega (arith, e, c.loop-start-test.true)) (omega (arith, e))) in
    (omega (arith, e), r.ensures.reached, c.max-top.ensures ∙ top, met_join (limit_of a.width) a.codes.now 0 l.pieces l.next r.result.pieces r.result.next l.invariant.3 r.ensures.met)

pub returns : goal.returns
returns c =
    let a = c.args in
    let l = c.loop-start in
    let e : l.start ≡ length a.codes.now = omega (arith, l.invariant.0, c.loop-start-test.false) in
    record {
      largest = l.invariant.2 ∙ ap (largest_to (code_at a.codes.now)) e;
      pieces = met_all (limit_of a.width) a.codes.now l.pieces l.next l.invariant.3 (omega (arith, l.invariant.1, e));
    }
