-- `volume::read_index`: the index passes or is refused by the rules, its size first. Assumes nothing.
use mathlib.Core.Path.{sym}
use borrow.Author.Tests.{le-leb}
use Rattle.answers.proofs.Alone.{refused-alone, passed_alone}
use Rattle.std.specs.Prelude.{Ok, Err}
use Rattle.std.proofs.lemmas.Result.{err_from_is_err_and}
use Rattle.volume.specs.Index.{index_of, index_rules}
use Rattle.volume.proofs.read_index.Goals as goal

pub returns-in_err-check : goal.returns-in_err-check
returns-in_err-check c =
    let index = c.args.index.now in
    let p = err_from_is_err_and c.from_residual.result c.from_residual.ensures.1 in
    rw (le-leb _ _ c.if-index-gt-MOST_BYTES.false, p.1, p.2)
    (sym (refused-alone (index_rules index) _ (rw c.of-fields.ensures at c.check.ensures) Err (Ok (index_of index)) _ c.in_err-check.was))

pub returns : goal.returns
returns c =
    let index = c.args.index.now in
    rw (le-leb _ _ c.if-index-gt-MOST_BYTES.false, c.of-fields.result.read, c.of-fields.ensures)
    (sym (passed_alone (index_rules index) _ (rw c.of-fields.ensures at c.check.ensures) Err (Ok (index_of index)) c.in_ok-check.was))
