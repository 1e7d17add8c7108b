-- `volume::tables::Tables::check`: the lengths decide where the offsets passed. Assumes nothing.
use mathlib.Core.Path.{sym, ◌∙◌}
use mathlib.Core.List.{◌++◌}
use Rattle.answers.proofs.Checks.{refused-first, passed_first}
use Rattle.std.specs.Prelude.{Ok, Err}
use Rattle.std.proofs.lemmas.Result.{err_from_is_err_and}
use Rattle.volume.specs.Tables.{offset_rules, separator_rules, total_rules}
use Rattle.volume.proofs.tables.Tables.check.Goals as goal

pub returns-in_err-check_offsets : goal.returns-in_err-check_offsets
returns-in_err-check_offsets c =
    let index = c.args.self.now.index.now in
    let sequence = c.args.sequence.now in
    let offsets = offset_rules index sequence c.args.header.now in
    let lengths = separator_rules index sequence ++ total_rules index sequence in
    let p = err_from_is_err_and c.from_residual.result c.from_residual.ensures.1 in
    rw (p.1, p.2) (sym (refused-first offsets lengths _ _ c.check_offsets.ensures c.in_err-check_offsets.was Err (Ok tt)))

pub returns : goal.returns
returns c =
    let index = c.args.self.now.index.now in
    let sequence = c.args.sequence.now in
    let offsets = offset_rules index sequence c.args.header.now in
    let lengths = separator_rules index sequence ++ total_rules index sequence in
    c.check_lengths.ensures ∙ sym (passed_first offsets lengths _ c.check_offsets.ensures c.in_ok-check_offsets.was Err (Ok tt))
