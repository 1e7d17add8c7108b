-- `console::gull_check_volume`: the check's answer, and after it the room of the results. Assumes nothing.
use mathlib.Core.Path.{sym, ◌∙◌}
use borrow.Author.Tests.{le-leb, lt-leb}
use Rattle.console.proofs.Volume.{volume_refused, volume_short, volume_passed}
use Rattle.console.proofs.gull_check_volume.Goals as goal

pub returns-in-Ok : goal.returns-in-Ok
returns-in-Ok c =
    let a = c.args in
    let the-pair = volume_short a.index.now a.sequence.now a.header.now a.results.now _ _ c.from.ensures (lt-leb 64 _ c.if-results-lt-CHECK_VOLUME_RESULTS.true)
    (sym c.check_volume.ensures ∙ c.in-Ok.is) in record { number = the-pair.0; results = the-pair.1 }

pub returns-in-Err : goal.returns-in-Err
returns-in-Err c =
    let a = c.args in
    let the-pair = volume_refused a.index.now a.sequence.now a.header.now a.results.now _ _ c.from-in-Err.ensures
    (sym c.check_volume.ensures ∙ c.in-Err.is) in record { number = the-pair.0; results = the-pair.1 }

pub returns-in-Ok-2 : goal.returns-in-Ok-2
returns-in-Ok-2 c =
    let a = c.args in
    let the-pair = volume_passed a.index.now a.sequence.now a.header.now a.results.now _ _
    (le-leb 64 _ c.if-results-lt-CHECK_VOLUME_RESULTS.false)
    (sym c.check_volume.ensures ∙
    c.in-Ok.is) c.put_results.ensures in record { number = the-pair.0; results = the-pair.1 }
