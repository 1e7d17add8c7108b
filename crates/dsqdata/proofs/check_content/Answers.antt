-- `dsqdata::check_content`: each part answers for its rules, and the first that refuses decides. Assumes nothing.
use Rattle.std.proofs.Common.{ap, ◌∙◌}
use Rattle.answers.specs.Limits.{checked_by}
use Rattle.dsqdata.specs.declared.SetRecord.{SetRecord}
use Rattle.dsqdata.specs.declared.set_runs.Totals.{Totals}
use Rattle.dsqdata.specs.Header.{packets_in}
use Rattle.dsqdata.specs.Ends.{packet_table}
use Rattle.dsqdata.specs.Check.{ends_rules, set_run_rules, behind_runs, rest_rules, content_rules}
use Rattle.dsqdata.specs.Scans.{runs_to}
use Rattle.dsqdata.proofs.Chain.{handed_on, held, found, err_then, ok_then}
use Rattle.dsqdata.proofs.check_content.Goals as goal

pub returns-in_err-check : goal.returns-in_err-check
unfolding content_rules
returns-in_err-check c =
    let m = c.metadata.ensures in
    let e = rw (m.0, m.1, m.2, ap (λ (x : SetRecord). x.count) c.args.set.now.as_read, c.bytes_after_header-bytes.ensures) at c.in_err-check.ensures in
    rw (handed_on _ c.from_residual.ensures.1, err_then _ _ _ _ _ _ e)

pub returns-in_err-check-2 : goal.returns-in_err-check-2
unfolding content_rules
returns-in_err-check-2 c =
    let m = c.metadata.ensures in
    let p = c.packets.ensures in
    let n = ap (λ (x : SetRecord). x.count) c.args.set.now.as_read in
    let e = rw (m.0, m.1, m.2, n, c.bytes_after_header-bytes.ensures) at c.in_ok-check.ensures in
    let f = rw (p.0, p.1, p.2, n, c.bytes_after_header-packets.ensures) at c.in_err-check-2.ensures in
    rw (handed_on _ c.from_residual-in_err-check-2.ensures.1, ok_then _ _ _ _ _ _ e, err_then _ _ _ _ _ _ f)

pub check_runs-requires : goal.check_runs-requires
check_runs-requires c =
    let a = c.args in
    let p = c.packets.ensures in
    held (ends_rules a.set.now.stated.order a.set.now.files.index.now packet_table a.set.now.stated.count (packets_in a.set.now.files.sequence.now)) _ _ (rw (p.0, p.1, p.2, c.bytes_after_header-packets.ensures) at c.in_ok-check-2.ensures)

pub returns-in_err-totals : goal.returns-in_err-totals
unfolding content_rules runs_to
returns-in_err-totals c =
    let a = c.args in
    let m = c.metadata.ensures in
    let p = c.packets.ensures in
    let n = ap (λ (x : SetRecord). x.count) c.args.set.now.as_read in
    let e = rw (m.0, m.1, m.2, n, c.bytes_after_header-bytes.ensures) at c.in_ok-check.ensures in
    let f = rw (p.0, p.1, p.2, n, c.bytes_after_header-packets.ensures) at c.in_ok-check-2.ensures in
    let g = c.in_err-totals.ensures ∙ ap (λ (x : SetRecord). runs_to a.set.now.stated.order a.set.now.files.index.now a.set.now.files.sequence.now x.alphabet x.count) c.args.set.now.as_read in
    rw (handed_on _ c.from_residual-in_err-totals.ensures.1, ok_then _ _ _ _ _ _ e, ok_then _ _ _ _ _ _ f, err_then _ _ _ _ _ _ g)

pub returns : goal.returns
unfolding content_rules rest_rules runs_to
returns c =
    let a = c.args in
    let m = c.metadata.ensures in
    let p = c.packets.ensures in
    let n = ap (λ (x : SetRecord). x.count) c.args.set.now.as_read in
    let e = rw (m.0, m.1, m.2, n, c.bytes_after_header-bytes.ensures) at c.in_ok-check.ensures in
    let f = rw (p.0, p.1, p.2, n, c.bytes_after_header-packets.ensures) at c.in_ok-check-2.ensures in
    let g = c.in_ok-totals.ensures ∙ ap (λ (x : SetRecord). runs_to a.set.now.stated.order a.set.now.files.index.now a.set.now.files.sequence.now x.alphabet x.count) c.args.set.now.as_read in
    rw (ok_then _ _ _ _ _ _ e, ok_then _ _ _ _ _ _ f, ok_then _ _ _ _ _ _ g)
    (c.check_rest.ensures ∙ ap (λ (x : Totals). checked_by (behind_runs a.set.now.stated.order a.set.now.files.index.now a.set.now.files.metadata.now x.residues x.longest)) (found (set_run_rules a.set.now.stated.order a.set.now.files.index.now a.set.now.files.sequence.now) _ _ g))
