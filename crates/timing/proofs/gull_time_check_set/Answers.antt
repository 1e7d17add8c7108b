-- `timing::gull_time_check_set`: the check's answer, and after it the room of the results. Assumes nothing.
use mathlib.Core.Path.{sym, ◌∙◌}
use borrow.Author.Tests.{le-leb, lt-leb}
use Rattle.timing.proofs.Sets.{set-refused, set-short, set_passed}
use Rattle.timing.proofs.gull_time_check_set.Goals as goal

pub returns-in-Ok : goal.returns-in-Ok
returns-in-Ok c =
    let a = c.args in
    let the-pair = set-short a.index.now a.metadata.now a.sequence.now a.results.now _ _ c.from.ensures (lt-leb 88 _ c.if-results-lt-CHECK_SET_RESULTS.true)
    (sym c.check_set.ensures ∙ c.in-Ok.is) in record { number = the-pair.0; results = the-pair.1 }

pub returns-in-Err : goal.returns-in-Err
returns-in-Err c =
    let a = c.args in
    let the-pair = set-refused a.index.now a.metadata.now a.sequence.now a.results.now _ _ c.from-in-Err.ensures
    (sym c.check_set.ensures ∙ c.in-Err.is) in record { number = the-pair.0; results = the-pair.1 }

pub returns-in-Ok-2 : goal.returns-in-Ok-2
returns-in-Ok-2 c =
    let a = c.args in
    let the-pair = set_passed a.index.now a.metadata.now a.sequence.now a.results.now _ _ (le-leb 88 _ c.if-results-lt-CHECK_SET_RESULTS.false)
    (sym c.check_set.ensures ∙ c.in-Ok.is) (rw (← c.order_number.ensures) c.put_results.ensures) in record { number = the-pair.0; results = the-pair.1 }
