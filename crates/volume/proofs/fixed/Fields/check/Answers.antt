-- `volume::fixed::Fields::check`: each part decides where those before it passed. Assumes nothing.
use mathlib.Core.Path.{sym, ◌∙◌}
use mathlib.Core.List.{◌++◌}
use Rattle.answers.proofs.Checks.{refused-first, passed_first}
use Rattle.std.specs.Prelude.{Ok, Err}
use Rattle.std.proofs.lemmas.Result.{err_from_is_err_and}
use Rattle.volume.specs.Index.{title_rules, timestamp_rules, count_rules, table_rules, index_rules}
use Rattle.volume.proofs.fixed.Fields.check.Goals as goal

pub returns-in_err-check_title : goal.returns-in_err-check_title
unfolding index_rules
returns-in_err-check_title c =
    let index = c.args.self.now.index.now in
    let p = err_from_is_err_and c.from_residual.result c.from_residual.ensures.1 in
    rw (p.1, p.2) (sym (refused-first (title_rules index) (timestamp_rules index ++ count_rules index ++ table_rules index) _ _
    c.check_title.ensures c.in_err-check_title.was Err (Ok tt)))

pub returns-in_err-check_timestamp : goal.returns-in_err-check_timestamp
unfolding index_rules
returns-in_err-check_timestamp c =
    let index = c.args.self.now.index.now in
    let p = err_from_is_err_and c.from_residual-in_err-check_timestamp.result c.from_residual-in_err-check_timestamp.ensures.1 in
    rw (p.1, p.2) (sym (passed_first (title_rules index) (timestamp_rules index ++ count_rules index ++ table_rules index) _
    c.check_title.ensures
    c.in_ok-check_title.was Err (Ok tt)
    ∙ refused-first (timestamp_rules index) (count_rules index ++ table_rules index) _ _ c.check_timestamp.ensures
    c.in_err-check_timestamp.was Err (Ok tt)))

pub returns-in_err-check_counts : goal.returns-in_err-check_counts
unfolding index_rules
returns-in_err-check_counts c =
    let index = c.args.self.now.index.now in
    let p = err_from_is_err_and c.from_residual-in_err-check_counts.result c.from_residual-in_err-check_counts.ensures.1 in
    rw (p.1, p.2) (sym (passed_first (title_rules index) (timestamp_rules index ++ count_rules index ++ table_rules index) _
    c.check_title.ensures
    c.in_ok-check_title.was Err (Ok tt)
    ∙ passed_first (timestamp_rules index) (count_rules index ++ table_rules index) _
    c.check_timestamp.ensures
    c.in_ok-check_timestamp.was Err (Ok tt)
    ∙ refused-first (count_rules index) (table_rules index) _ _ c.check_counts.ensures c.in_err-check_counts.was Err (Ok tt)))

pub returns : goal.returns
unfolding index_rules
returns c =
    let index = c.args.self.now.index.now in
    c.check_tables.ensures
    ∙ sym (passed_first (title_rules index) (timestamp_rules index ++ count_rules index ++ table_rules index) _
    c.check_title.ensures
    c.in_ok-check_title.was Err (Ok tt)
    ∙ passed_first (timestamp_rules index) (count_rules index ++ table_rules index) _
    c.check_timestamp.ensures
    c.in_ok-check_timestamp.was Err (Ok tt)
    ∙ passed_first (count_rules index) (table_rules index) _ c.check_counts.ensures
    c.in_ok-check_counts.was Err (Ok tt))
