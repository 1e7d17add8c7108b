-- `nucleotides::pieces::count_block`: no piece begins among codes below 4; where stretches are short, each is one piece; one stretch is cut. Assumes nothing.
use mathlib.Core.Path.{◌∙◌}
use Prim.Native.Nat.{◌-◌}
use native.Mathlib.Omega.{arith}
use Rattle.nucleotides.proofs.Stretches.{met_block}
use Rattle.nucleotides.proofs.Parts.{begun_part, ambiguous_part}
use Rattle.nucleotides.proofs.Starts.{begun_fewer, all_one, starts_met}
use Rattle.nucleotides.specs.Pieces.{limit_of}
use Rattle.nucleotides.proofs.Entries.{limit-positive}
use Rattle.nucleotides.proofs.pieces.count_block.Goals as goal

pub returns-then-largest-lt4 : goal.returns-then-largest-lt4
returns-then-largest-lt4 c =
    let asked = c.requires in
    let a = c.args in
    let m = met_block (limit_of a.width) a.codes.now a.from a.end asked.from_in_bounds.0 asked.from_in_bounds.1 (λ i p q. let h = asked.by_index i p q in omega arith) in
    rw c.max.ensures (record { met = m.0; reached = m.1 })

pub overflow_sub-ambiguous : goal.overflow_sub-ambiguous
overflow_sub-ambiguous c =
    let a = c.args in
    let p = c.requires.from_in_bounds in
    let begun = c.begun_in-begun.ensures ∙ begun_part a.codes.now a.from a.end c.if-end-from.false p.1 in
    let ambiguous = c.ambiguous_in-ambiguous.ensures ∙ ambiguous_part a.codes.now a.from a.end c.if-end-from.false p.1 in
    omega (arith, begun, ambiguous, begun_fewer a.codes.now a.from (a.end - a.from - 1))

pub cut_stretch-requires : goal.cut_stretch-requires
cut_stretch-requires c =
    let a = c.args in
    let p = c.requires.from_in_bounds in
    let begun = c.begun_in-begun.ensures ∙ begun_part a.codes.now a.from a.end c.if-end-from.false p.1 in
    let ambiguous = c.ambiguous_in-ambiguous.ensures ∙ ambiguous_part a.codes.now a.from a.end c.if-end-from.false p.1 in
    let kept = c.from-kept.ensures in
    let all = all_one a.codes.now a.from a.end c.if-end-from.false (omega (arith, p.2, kept, c.most_repeat.ensures, c.if-most_repeat-kept.true, c.if-kept-n.true))
    (omega (arith, begun, ambiguous, kept, c.if-kept-n.true)) in
    record { from_le_end = (omega (arith, c.if-end-from.false), p.1); by_index = all }

pub returns : goal.returns
returns c =
    let a = c.args in
    let p = c.requires.from_in_bounds in
    let begun = c.begun_in-begun.ensures ∙ begun_part a.codes.now a.from a.end c.if-end-from.false p.1 in
    let ambiguous = c.ambiguous_in-ambiguous.ensures ∙ ambiguous_part a.codes.now a.from a.end c.if-end-from.false p.1 in
    let met = starts_met (limit_of a.width) a.codes.now a.from a.end (limit-positive a.width) p.1 c.if-end-from.false
    (omega (arith, begun, ambiguous, c.from-kept.ensures, c.most_repeat.ensures, c.if-most_repeat-kept.false)) _ c.behind.result
    (omega (arith, begun, c.from.ensures, c.from-2.ensures, c.is_ambiguous-first.ensures))
    c.behind.ensures in
    record { met = met.0; reached = met.1 }
