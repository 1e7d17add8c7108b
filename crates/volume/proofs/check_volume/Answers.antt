-- `volume::check_volume`: each part decides where those before it passed, and each number is the index's. Assumes nothing.
use mathlib.Core.Path.{◌≡◌, sym, ◌∙◌}
use mathlib.Core.List.{List, ◌++◌}
use native.Mathlib.Omega.{arith}
use Prim.Native.Nat.{ℕ, ◌+◌, ◌-◌, ◌≤◌}
use borrow.Author.Tests.{leb-true}
use lib.ListN.{length}
use Rattle.std.specs.Prelude.{Result, Ok, Err}
use Rattle.std.proofs.lemmas.Result.{err_from_is_err_and}
use Rattle.laws.specs.Rules.{Rule, verdict, AllHold}
use Rattle.answers.specs.Limits.{checked_by}
use Rattle.answers.specs.declared.Refusal.{Refusal}
use Rattle.answers.proofs.Alone.{refused-alone, passed_alone}
use Rattle.answers.proofs.Checks.{refused-first, passed_first, all_hold}
use Rattle.volume.specs.Index.{timestamp_end, index_of, index_rules, read_rules}
use Rattle.volume.specs.Tables.{offset_rules, separator_rules, total_rules}
use Rattle.volume.specs.Volume.{volume_size_rules, volume_rules, volume_record, volume_answer}
use Rattle.volume.proofs.Facts.{few-sequences, whole_tables, trim_whole}
use Rattle.volume.proofs.Named.{index_tests}
use Rattle.volume.proofs.Reading.{tables_near, numbers_are, index_read, index_first, index_refused, size_asked}
use Rattle.volume.proofs.check_volume.Goals as goal

-- the rules of the tables and of the files
abbrev more : (index sequence header : List ℕ) → List (Rule Refusal)
more index sequence header = offset_rules index sequence header ++ (separator_rules index sequence ++ total_rules index sequence)

-- the sizes passed: the index and what is asked after it decide
after_sizes : (index sequence header : List ℕ) (c : Result Unit Refusal) → c ≡ checked_by (volume_size_rules index sequence header) → c ≡ Ok tt
    → volume_answer index sequence header ≡ verdict Err (Ok (volume_record index)) (read_rules index ++ more index sequence header)
unfolding volume_answer volume_rules
after_sizes index sequence header c e p =
    let fits = (all_hold (volume_size_rules index sequence header) c e p).0 in
    passed_first (volume_size_rules index sequence header) (index_rules index ++ more index sequence header) c e p Err (Ok (volume_record index))
    ∙ sym (size_asked index Err (Ok (volume_record index)) (more index sequence header) fits)

-- the timestamp of an index whose fields kept their rules lies inside it
timestamp_inside : (index : List ℕ) → AllHold (index_rules index) → timestamp_end index ≤ length index
timestamp_inside index h = leb-true _ _ (index_tests index h).timestamp.timestamp_there

pub returns-in_err-check_sizes : goal.returns-in_err-check_sizes
unfolding volume_answer volume_rules
returns-in_err-check_sizes c =
    let index = c.args.index.now in
    let sizes = volume_size_rules index c.args.sequence.now c.args.header.now in
    let rest = index_rules index ++ more index c.args.sequence.now c.args.header.now in
    let p = err_from_is_err_and c.from_residual.result c.from_residual.ensures.1 in
    rw (p.1, p.2) (sym (refused-first sizes rest _ _ c.check_sizes.ensures c.in_err-check_sizes.was Err (Ok (volume_record index))))

pub returns-in_err-numbers : goal.returns-in_err-numbers
returns-in_err-numbers c =
    let index = c.args.index.now in
    let rest = more index c.args.sequence.now c.args.header.now in
    let p = err_from_is_err_and c.from_residual-in_err-numbers.result c.from_residual-in_err-numbers.ensures.1 in
    rw (p.1, p.2)
    (sym (after_sizes index c.args.sequence.now c.args.header.now _ c.check_sizes.ensures c.in_ok-check_sizes.was
    ∙ index_refused index Err (Ok (volume_record index)) rest _ (sym c.read_index.ensures ∙ c.in_err-numbers.was)))

pub invariant_of-check : goal.invariant_of-check
invariant_of-check c =
    let index = c.args.index.now in
    let read = index_read index _ (sym c.read_index.ensures ∙ c.in_ok-numbers.was) in
    record {
      read = read.1;
      few = omega (arith, (numbers_are index _ read.1).sequences_is, few-sequences index read.0.1);
      whole = whole_tables index read.0.1;
    }

pub returns-in_err-check : goal.returns-in_err-check
returns-in_err-check c =
    let index = c.args.index.now in
    let rest = more index c.args.sequence.now c.args.header.now in
    let read = index_read index _ (sym c.read_index.ensures ∙ c.in_ok-numbers.was) in
    let p = err_from_is_err_and c.from_residual-in_err-check.result c.from_residual-in_err-check.ensures.1 in
    rw (p.1, p.2)
    (sym (after_sizes index c.args.sequence.now c.args.header.now _ c.check_sizes.ensures c.in_ok-check_sizes.was
    ∙ index_first index Err (Ok (volume_record index)) rest read.0
    ∙ refused-alone rest _ c.check.ensures Err (Ok (volume_record index)) _ c.in_err-check.was))

pub overflow_add-start : goal.overflow_add-start
overflow_add-start c =
    let index = c.args.index.now in
    let read = index_read index _ (sym c.read_index.ensures ∙ c.in_ok-numbers.was) in
    omega (arith, (numbers_are index _ read.1).title_is, (tables_near index).headers_near)

pub overflow_add-start-2 : goal.overflow_add-start-2
overflow_add-start-2 c =
    let index = c.args.index.now in
    let read = index_read index _ (sym c.read_index.ensures ∙ c.in_ok-numbers.was) in
    omega (arith, (numbers_are index _ read.1).title_is, (tables_near index).headers_near)

pub overflow_add-end : goal.overflow_add-end
overflow_add-end c =
    let index = c.args.index.now in
    let read = index_read index _ (sym c.read_index.ensures ∙ c.in_ok-numbers.was) in
    let n = numbers_are index _ read.1 in
    omega (arith, n.title_is, n.timestamp_is, (tables_near index).headers_near)

pub slice_bounds-trimmed-end : goal.slice_bounds-trimmed-end
slice_bounds-trimmed-end c =
    let index = c.args.index.now in
    let read = index_read index _ (sym c.read_index.ensures ∙ c.in_ok-numbers.was) in
    let n = numbers_are index _ read.1 in
    omega (arith, n.title_is, n.timestamp_is, timestamp_inside index read.0.1)

pub returns : goal.returns
unfolding volume_record index_of
returns c =
    let index = c.args.index.now in
    let rest = more index c.args.sequence.now c.args.header.now in
    let read = index_read index _ (sym c.read_index.ensures ∙ c.in_ok-numbers.was) in
    let n = numbers_are index _ read.1 in
    let x = c.in_ok-numbers.numbers in
    let start : ℕ = 12 + x.title_length + 4 in
    let inside : start + x.timestamp_length ≤ length index = omega (arith, n.title_is, n.timestamp_is, timestamp_inside index read.0.1) in
    let long : start + x.timestamp_length - start ≡ x.timestamp_length = omega arith in
    rw (c.trimmed.ensures ∙ trim_whole index start (start + x.timestamp_length) inside, long, read.1)
    (sym (after_sizes index c.args.sequence.now c.args.header.now _ c.check_sizes.ensures c.in_ok-check_sizes.was
    ∙ index_first index Err (Ok (volume_record index)) rest read.0
    ∙ passed_alone rest _ c.check.ensures Err (Ok (volume_record index)) c.in_ok-check.was))
