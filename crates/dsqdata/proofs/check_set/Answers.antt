-- `dsqdata::check_set`: each part answers for its rules, and the first that refuses decides. Assumes nothing.
use Rattle.std.proofs.Common.{◌≡◌, sym, ap, ◌∙◌}
use borrow.Author.Tests.{leb-true}
use Rattle.dsqdata.specs.declared.SetRecord.{SetRecord}
use Rattle.fields.specs.declared.Order.{Order}
use Rattle.dsqdata.specs.Header.{record_of}
use Rattle.dsqdata.specs.Check.{set_rules, set_check}
use Rattle.dsqdata.proofs.Chain.{handed_on, held, err_then, err_alone, ok_then}
use Rattle.dsqdata.proofs.Named.{file_tests, layout_tests}
use Rattle.dsqdata.proofs.check_set.Goals as goal

pub returns-in_err-check_layout : goal.returns-in_err-check_layout
unfolding set_check set_rules
returns-in_err-check_layout c =
    let o = c.order_of-order.ensures in
    let p = ap (λ (x : SetRecord). x.order) c.read_record-stated.ensures ∙ o in
    let e = rw o at c.in_ok-check_files.ensures in
    let f = rw p at c.in_err-check_layout.ensures in
    rw (handed_on _ c.from_residual-in_err-check_layout.ensures.1, ok_then _ _ _ _ _ _ e, err_then _ _ _ _ _ _ f)

pub invariant_of-check_content : goal.invariant_of-check_content
invariant_of-check_content c =
    let a = c.args in
    let set = c.read_record-stated in
    let files = file_tests c.order_of-order.result a.index.now a.metadata.now a.sequence.now (held _ _ _ c.in_ok-check_files.ensures) in
    let layout = layout_tests set.result.order a.index.now a.sequence.now (held _ _ _ c.in_ok-check_layout.ensures) in
    let o : set.result.order ≡ c.order_of-order.result = ap (λ (x : SetRecord). x.order) set.ensures in
    record {
      as_read = set.ensures ∙ ap (λ (x : Order). record_of x a.index.now) (sym o);
      few = rw (ap (λ (x : SetRecord). x.count) set.ensures, ← o) (leb-true _ _ layout.counts.few);
      short = leb-true _ _ files.sizes.sequence_fits;
    }

pub returns-in_err-check_content : goal.returns-in_err-check_content
unfolding set_check set_rules
returns-in_err-check_content c =
    let o = c.order_of-order.ensures in
    let p = ap (λ (x : SetRecord). x.order) c.read_record-stated.ensures ∙ o in
    let e = rw o at c.in_ok-check_files.ensures in
    let f = rw p at c.in_ok-check_layout.ensures in
    let g = rw p at c.in_err-check_content.ensures in
    rw (handed_on _ c.from_residual-in_err-check_content.ensures.1, ok_then _ _ _ _ _ _ e, ok_then _ _ _ _ _ _ f, err_alone _ _ _ _ _ g)
