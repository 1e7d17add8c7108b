-- `runs::read_run`: the packets before the last at once; the last one decides. Assumes nothing.
use mathlib.Core.Path.{sym, ◌∙◌}
use native.Mathlib.Omega.{arith}
use borrow.Author.Tests.{eq-eqb, ne_eqb}
use lib.ListN.{length}
use Rattle.packets.proofs.Reading.{inner-before, codes-before, last_there, found_none, found_broken, found_open, found_most, found_run}
use Rattle.runs.proofs.read_run.Goals.{then-inner_faults-ne0-via-then-inner_faults-ne0, then-inner_faults-ne0-via-else-inner_faults-ne0+then-not-is_last}
use Rattle.runs.proofs.read_run.Goals as goal

pub returns-in_err-last : goal.returns-in_err-last
returns-in_err-last c = rw c.from_residual.ensures (found_none c.args.alphabet c.args.source.now c.in_err-last.ensures.cases)

pub returns-then-inner_faults-ne0 : goal.returns-then-inner_faults-ne0
returns-then-inner_faults-ne0 c =
    let a = c.args.alphabet in
    let ps = c.args.source.now in
    let before = c.in_ok-last.before.now in
    let last = c.in_ok-last.last.now in
    let s = c.in_ok-last.ensures.cases in
    let f = c.inner_faults in
    elim c.then-inner_faults-ne0.branch [
      | then-inner_faults-ne0-via-then-inner_faults-ne0 w ↦
          found_broken a ps (length before) s.1 (sym (inner-before ps before last s.0 a) ∙ sym f.ensures ∙ ne_eqb f.result 0 w.if-inner_faults-ne0.true)
      | then-inner_faults-ne0-via-else-inner_faults-ne0+then-not-is_last w ↦
          found_open a ps (length before) s.1 (sym (inner-before ps before last s.0 a) ∙ sym f.ensures ∙ eq-eqb f.result 0 w.if-inner_faults-ne0.false) last
          (last_there ps before last s.0) _ (w.is_last.ensures ∙ rw w.is_empty.ensures) w.if-not-is_last.true
    ]

pub overflow_add-result : goal.overflow_add-result
overflow_add-result c =
    let a = c.args.alphabet in
    let ps = c.args.source.now in
    let before = c.in_ok-last.before.now in
    let last = c.in_ok-last.last.now in
    let s = c.in_ok-last.ensures.cases in
    let f = c.inner_faults in
    let m = c.count_codes in
    let k = c.residue_count in
    omega (
      arith,
      c.requires,
      found_most a ps (length before) s.1 (sym (inner-before ps before last s.0 a) ∙ sym f.ensures ∙ eq-eqb f.result 0 c.if-inner_faults-ne0.false) last
          (last_there ps before last s.0) _ (c.is_last.ensures ∙ rw c.is_empty.ensures) m.result k.result (m.ensures ∙ codes-before ps before last s.0) k.ensures,
    )

pub returns : goal.returns
returns c =
    let a = c.args.alphabet in
    let ps = c.args.source.now in
    let before = c.in_ok-last.before.now in
    let last = c.in_ok-last.last.now in
    let s = c.in_ok-last.ensures.cases in
    let f = c.inner_faults in
    found_run a ps (length before) s.1 (sym (inner-before ps before last s.0 a) ∙ sym f.ensures ∙ eq-eqb f.result 0 c.if-inner_faults-ne0.false) last
    (last_there ps before last s.0) _ (c.is_last.ensures ∙ rw c.is_empty.ensures) _ _ (c.count_codes.ensures ∙ codes-before ps before last s.0)
    c.residue_count.ensures c.if-not-is_last.false
