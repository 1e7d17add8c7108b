-- `dsqdata::records::check_rest`: the records answer for their rules, and then the totals for theirs. Assumes nothing.
use Rattle.std.proofs.Common.{ap, ◌∙◌}
use Rattle.answers.specs.Limits.{checked_by}
use Rattle.metadata.specs.declared.Texts.{Texts}
use Rattle.dsqdata.specs.declared.SetRecord.{SetRecord}
use Rattle.dsqdata.specs.Header.{record_of}
use Rattle.dsqdata.specs.Check.{record_rules, stated_rules, total_rules, behind_runs}
use Rattle.dsqdata.specs.Scans.{records_to}
use Rattle.dsqdata.proofs.Chain.{handed_on, found, err_then, ok_then}
use Rattle.dsqdata.proofs.records.check_rest.Goals as goal

pub returns-in_err-longest : goal.returns-in_err-longest
unfolding behind_runs records_to
returns-in_err-longest c =
    let a = c.args in
    let e = c.in_err-longest.ensures ∙ ap (λ (x : SetRecord). records_to a.set.now.stated.order a.set.now.files.index.now a.set.now.files.metadata.now x.count) c.args.set.now.as_read in
    rw (handed_on _ c.from_residual.ensures.1, err_then _ _ _ _ _ _ e)

pub returns : goal.returns
unfolding behind_runs total_rules records_to
returns c =
    let a = c.args in
    let e = c.in_ok-longest.ensures ∙ ap (λ (x : SetRecord). records_to a.set.now.stated.order a.set.now.files.index.now a.set.now.files.metadata.now x.count) c.args.set.now.as_read in
    let t = c.in_ok-longest.longest in
    rw (ok_then _ _ _ _ _ _ e)
    (c.check_totals.ensures
    ∙ ap (λ (x : SetRecord). checked_by (stated_rules x a.totals.residues a.totals.longest t.name t.accession t.description)) c.args.set.now.as_read
    ∙ ap (λ (x : Texts). checked_by (stated_rules (record_of a.set.now.stated.order a.set.now.files.index.now) a.totals.residues a.totals.longest x.name x.accession x.description)) (found (record_rules a.set.now.stated.order a.set.now.files.index.now a.set.now.files.metadata.now) _ _ e))
