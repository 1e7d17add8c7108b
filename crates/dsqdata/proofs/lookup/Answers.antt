-- `dsqdata::lookup`: each test and each part answers for its rules, and the first that refuses decides. Assumes nothing.
use borrow.Author.Tests.{le-leb, lt-ltb, le-ltb}
use Rattle.std.specs.Prelude.{Err}
use Rattle.dsqdata.specs.Lookup.{lookup_rules, lookup_of}
use Rattle.dsqdata.proofs.Chain.{handed_on, held, err_then, err_alone, ok_then}
use Rattle.dsqdata.proofs.lookup.Goals as goal

pub returns-in_err-check_count : goal.returns-in_err-check_count
unfolding lookup_of lookup_rules
returns-in_err-check_count c =
    rw (handed_on _ c.from_residual.ensures.1, le-leb _ _ c.if-index-gt-MOST_BYTES.false, err_then Err _ _ _ _ _ c.in_err-check_count.ensures.value)

pub returns-then-number-set : goal.returns-then-number-set
unfolding lookup_of lookup_rules
returns-then-number-set c =
    rw (le-leb _ _ c.if-index-gt-MOST_BYTES.false, ok_then Err _ _ _ _ _ c.in_ok-check_count.ensures.value, le-ltb _ _ c.if-number-set.true)

pub returns-in_err-check_part : goal.returns-in_err-check_part
unfolding lookup_of lookup_rules
returns-in_err-check_part c =
    let m = c.metadata.ensures in
    rw (
      handed_on _ c.from_residual-in_err-check_part.ensures.1,
      le-leb _ _ c.if-index-gt-MOST_BYTES.false,
      ok_then Err _ _ _ _ _ c.in_ok-check_count.ensures.value,
      lt-ltb _ _ c.if-number-set.false,
      err_then Err _ _ _ _ _ (rw (m.0, m.1, m.2) at c.in_err-check_part.ensures),
    )

pub returns-in_err-check_part-2 : goal.returns-in_err-check_part-2
unfolding lookup_of lookup_rules
returns-in_err-check_part-2 c =
    let m = c.metadata.ensures in
    let p = c.packets.ensures in
    rw (
      handed_on _ c.from_residual-in_err-check_part-2.ensures.1,
      le-leb _ _ c.if-index-gt-MOST_BYTES.false,
      ok_then Err _ _ _ _ _ c.in_ok-check_count.ensures.value,
      lt-ltb _ _ c.if-number-set.false,
      ok_then Err _ _ _ _ _ (rw (m.0, m.1, m.2) at c.in_ok-check_part.ensures),
      err_alone Err _ _ _ _ (rw (p.0, p.1, p.2) at c.in_err-check_part-2.ensures),
    )

pub found_at-requires-clause-all_hold : goal.found_at-requires-clause-all_hold
found_at-requires-clause-all_hold c =
    let m = c.metadata.ensures in
    let p = c.packets.ensures in
    (held _ _ _ (rw (m.0, m.1, m.2) at c.in_ok-check_part.ensures), held _ _ _ (rw (p.0, p.1, p.2) at c.in_ok-check_part-2.ensures))
