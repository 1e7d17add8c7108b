-- `dsqdata::set_runs::check_runs`: the runs passed keep their rules, and their residues are added up and compared. Assumes nothing.
use Rattle.std.proofs.Common.{◌≡◌, refl, sym, ap, ◌∙◌, arith, ℕ, ◌+◌, suc}
use native.Mathlib.Numerals.{add-one}
use Rattle.std.specs.Prelude.{Ok, Err}
use Rattle.laws.proofs.Places.{sum_more, largest-more}
use Rattle.laws.proofs.Rules.{verdict-passes}
use Rattle.packets.specs.Ends.{after}
use Rattle.dsqdata.specs.Header.{packets_in}
use Rattle.dsqdata.specs.Ends.{packet_table, run_at, residues_at}
use Rattle.dsqdata.specs.Check.{rules_of_run, run_rules_to}
use Rattle.dsqdata.specs.Scans.{totals_to, runs_to}
use Rattle.dsqdata.proofs.Chain.{handed_on, none_refused}
use Rattle.dsqdata.proofs.EachRule.{rules_more, rules_refused}
use Rattle.dsqdata.proofs.Rising.{end_zero, after-rises, ends_rule, ends-within, residues-most}
use Rattle.dsqdata.proofs.Runs.{run-bad, run-good}
use Rattle.dsqdata.proofs.set_runs.check_runs.Goals as goal

pub loop-k-init : goal.loop-k-init
loop-k-init c = let a = c.args in (sym (ap after (end_zero a.set.now.stated.order a.set.now.files.index.now packet_table 0 refl)), refl, refl, omega arith, tt)

pub read_run-requires : goal.read_run-requires
read_run-requires c =
    let set = c.args.set.now.stated in
    let i = c.args.set.now.files.index.now in
    let l = c.loop-k in
    let e = c.packets.ensures in
    let to = rw (e.0, e.1, e.2, add-one) at c.start.ensures.value in
    let r = ends_rule set.order i packet_table set.count (packets_in c.args.set.now.files.sequence.now) c.requires in
    let w = ends-within set.order i packet_table set.count (packets_in c.args.set.now.files.sequence.now) r (suc l.k) (omega arith) in
    let m = after-rises set.order i packet_table set.count r.rises l.k (omega arith) in
    (omega (arith, to, l.invariant.0), omega (arith, to))

pub returns-in_err-count : goal.returns-in_err-count
unfolding runs_to
returns-in_err-count c =
    let set = c.args.set.now.stated in
    let i = c.args.set.now.files.index.now in
    let s = c.args.set.now.files.sequence.now in
    let l = c.loop-k in
    let e = c.packets.ensures in
    let to = rw (e.0, e.1, e.2) at c.start.ensures.value in
    let bad = c.in_err-count in
    let b = run-bad set.order i s set.alphabet l.k l.invariant.0 to c.read_run.ensures bad.ensures.ok_part in
    rw (handed_on _ c.from_residual.ensures.1, none_refused _ _ _ bad.ensures.ok_part bad.ensures.value)
    (sym (rules_refused (λ k. rules_of_run set.alphabet (run_at set.order i s k)) set.count l.k _ _ (omega arith) l.invariant.4 b refl Err (Ok (totals_to set.order i s set.count))))

pub overflow_add-residues : goal.overflow_add-residues
overflow_add-residues c =
    let set = c.args.set.now.stated in
    let i = c.args.set.now.files.index.now in
    let s = c.args.set.now.files.sequence.now in
    let l = c.loop-k in
    let e = c.packets.ensures in
    let to = rw (e.0, e.1, e.2) at c.start.ensures.value in
    let g = run-good set.order i s set.alphabet l.k l.invariant.0 to c.read_run.ensures c.in_ok-count.ensures.ok_part in
    omega (arith, g.1, c.args.set.now.few, c.args.set.now.short, residues-most set.order i s l.k)

pub loop-k-preserved : goal.loop-k-preserved
loop-k-preserved c =
    let set = c.args.set.now.stated in
    let i = c.args.set.now.files.index.now in
    let s = c.args.set.now.files.sequence.now in
    let l = c.loop-k in
    let e = c.packets.ensures in
    let to = rw (e.0, e.1, e.2) at c.start.ensures.value in
    let g = run-good set.order i s set.alphabet l.k l.invariant.0 to c.read_run.ensures c.in_ok-count.ensures.ok_part in (
      to,
      ap (λ (x : ℕ). x + c.in_ok-count.count) l.invariant.1 ∙ sum_more (residues_at set.order i s) l.k _ g.1,
      c.max-longest.ensures ∙ largest-more (residues_at set.order i s) l.k _ _ l.invariant.2 g.1,
      omega (arith, g.1, c.args.set.now.few, c.args.set.now.short, residues-most set.order i s l.k),
      rules_more (λ k. rules_of_run set.alphabet (run_at set.order i s k)) l.k l.invariant.4 g.0,
    )

pub returns : goal.returns
unfolding runs_to
returns c =
    let set = c.args.set.now.stated in
    let i = c.args.set.now.files.index.now in
    let s = c.args.set.now.files.sequence.now in
    let l = c.loop-k in
    let n : l.k ≡ set.count = omega arith in
    rw (l.invariant.1, l.invariant.2, n)
    (sym (verdict-passes Err (Ok (totals_to set.order i s set.count)) (run_rules_to set.order i s set.alphabet set.count) (rw n at l.invariant.4)))
