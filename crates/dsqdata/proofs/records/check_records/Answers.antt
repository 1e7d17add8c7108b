-- `dsqdata::records::check_records`: the records passed keep their rules, and the lengths of their texts are compared. Assumes nothing.
use Rattle.std.proofs.Common.{◌≡◌, refl, sym, ap, ◌∙◌, arith, ◌+◌}
use Rattle.std.specs.Prelude.{ℤ, Ok, Err}
use Rattle.packets.specs.Ends.{after}
use Rattle.laws.proofs.Places.{largest-more}
use Rattle.laws.proofs.Rules.{verdict-passes}
use Rattle.metadata.specs.Record.{name_length, accession_length, description_length}
use Rattle.dsqdata.specs.Ends.{metadata_table}
use Rattle.dsqdata.specs.Records.{name_at, accession_at, description_at}
use Rattle.dsqdata.specs.Check.{rules_to, rules_of_record}
use Rattle.dsqdata.specs.Scans.{longest_to, records_to}
use Rattle.dsqdata.proofs.Chain.{handed_on, none_refused}
use Rattle.dsqdata.proofs.EachRule.{rules_more, rules_refused}
use Rattle.dsqdata.proofs.Rising.{end_zero}
use Rattle.dsqdata.proofs.Texts.{texts_here, record-holds, record-refused}
use Rattle.dsqdata.proofs.records.check_records.Goals as goal

pub loop-k-init : goal.loop-k-init
loop-k-init c =
    let e = ap (λ (z : ℤ). 8 + after z) (end_zero c.args.set.now.stated.order c.args.set.now.files.index.now metadata_table 0 refl) in
    (sym e, refl, refl, refl, tt)

pub returns-in_err-texts : goal.returns-in_err-texts
unfolding records_to
returns-in_err-texts c =
    let set = c.args.set.now.stated in
    let i = c.args.set.now.files.index.now in
    let m = c.args.set.now.files.metadata.now in
    let l = c.loop-k in
    let bad = c.in_err-texts in
    let t = texts_here set.order i m l.k l.invariant.0 c.record_start-to.ensures c.read_record-record.ensures in
    let e = record-refused set.order i m l.k (sym bad.ensures.ok_part ∙ t) in
    rw (handed_on _ c.from_residual.ensures.1, none_refused _ _ _ bad.ensures.ok_part bad.ensures.value)
    (sym (rules_refused (rules_of_record set.order i m) set.count l.k _ _ (omega arith) l.invariant.4 e refl Err (Ok (longest_to set.order i m set.count))))

pub loop-k-preserved : goal.loop-k-preserved
loop-k-preserved c =
    let set = c.args.set.now.stated in
    let i = c.args.set.now.files.index.now in
    let m = c.args.set.now.files.metadata.now in
    let l = c.loop-k in
    let t = sym c.in_ok-texts.ensures.ok_part ∙ texts_here set.order i m l.k l.invariant.0 c.record_start-to.ensures c.read_record-record.ensures in (
      c.record_start-to.ensures,
      c.max-name.ensures ∙ largest-more (name_at set.order i m) l.k _ _ l.invariant.1 (ap name_length t),
      c.max-accession.ensures ∙ largest-more (accession_at set.order i m) l.k _ _ l.invariant.2 (ap accession_length t),
      c.max-description.ensures ∙ largest-more (description_at set.order i m) l.k _ _ l.invariant.3 (ap description_length t),
      rules_more (rules_of_record set.order i m) l.k l.invariant.4 (record-holds set.order i m l.k t),
    )

pub returns : goal.returns
unfolding records_to
returns c =
    let set = c.args.set.now.stated in
    let i = c.args.set.now.files.index.now in
    let m = c.args.set.now.files.metadata.now in
    let l = c.loop-k in
    let n : l.k ≡ set.count = omega arith in
    rw (l.invariant.1, l.invariant.2, l.invariant.3, n)
    (sym (verdict-passes Err (Ok (longest_to set.order i m set.count)) (rules_to (rules_of_record set.order i m) set.count) (rw n at l.invariant.4)))
