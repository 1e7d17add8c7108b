-- `nucleotides::write_nucleotides`: the checks in their order, then both parts. Assumes nothing.
use mathlib.Core.Path.{ap, ◌∙◌}
use Prim.Native.Nat.{ℕ, ◌+◌, ◌/◌}
use native.Mathlib.Omega.{arith}
use lib.ListN.{length}
use Rattle.std.specs.Prelude.{Ok}
use Rattle.nucleotides.specs.declared.Written.{Written}
use Rattle.nucleotides.proofs.Answers.{output_by, refused_both, answer-large, answer-bad, answer-wide, answer-short, answer_written, sizes_told}
use Rattle.nucleotides.proofs.write_nucleotides.Goals as goal

pub returns-then-codes-gt-MOST_BYTES : goal.returns-then-codes-gt-MOST_BYTES
returns-then-codes-gt-MOST_BYTES c =
    let a = c.args in
    let both = refused_both a.codes.now a.out.now _ (answer-large a.codes.now (length a.out.now) c.if-codes-gt-MOST_BYTES.true) in
    record { value = both.0; out_after = both.1 }

pub returns-then-found-gt15 : goal.returns-then-found-gt15
returns-then-found-gt15 c =
    let a = c.args in
    let found = c.survey-found in
    let both = refused_both a.codes.now a.out.now _
    (answer-bad a.codes.now (length a.out.now) c.if-codes-gt-MOST_BYTES.false found.result.largest found.ensures.largest c.if-found-gt15.true) in
    record { value = both.0; out_after = both.1 }

pub overflow_mul-table : goal.overflow_mul-table
overflow_mul-table c =
    let codes = c.args.codes.now in
    let told = sizes_told codes c.of-width.result c.bytes.result c.survey-found.result.pieces c.word_size.result
    c.of-width.ensures c.bytes.ensures c.survey-found.ensures.pieces c.word_size.ensures c.if-codes-gt-MOST_BYTES.false in
    record { fits = omega (arith, told.entries_small) }

pub overflow_add-table : goal.overflow_add-table
overflow_add-table c =
    let codes = c.args.codes.now in
    let told = sizes_told codes c.of-width.result c.bytes.result c.survey-found.result.pieces c.word_size.result
    c.of-width.ensures c.bytes.ensures c.survey-found.ensures.pieces c.word_size.ensures c.if-codes-gt-MOST_BYTES.false in
    record { fits = omega (arith, told.entries_small, told.word_small) }

pub overflow_add-two_bit-2 : goal.overflow_add-two_bit-2
overflow_add-two_bit-2 c =
    let codes = c.args.codes.now in
    let told = sizes_told codes c.of-width.result c.bytes.result c.survey-found.result.pieces c.word_size.result
    c.of-width.ensures c.bytes.ensures c.survey-found.ensures.pieces c.word_size.ensures c.if-codes-gt-MOST_BYTES.false in
    record { fits = omega (arith, told.entries_small, told.word_small) }

pub returns-then-two_bit-table-gt-MOST_BYTES : goal.returns-then-two_bit-table-gt-MOST_BYTES
returns-then-two_bit-table-gt-MOST_BYTES c =
    let codes = c.args.codes.now in
    let told = sizes_told codes c.of-width.result c.bytes.result c.survey-found.result.pieces c.word_size.result
    c.of-width.ensures c.bytes.ensures c.survey-found.ensures.pieces c.word_size.ensures c.if-codes-gt-MOST_BYTES.false in
    let a = c.args in
    let found = c.survey-found in
    let both = refused_both codes a.out.now _
    (answer-wide codes (length a.out.now) c.if-codes-gt-MOST_BYTES.false found.result.largest found.ensures.largest (omega arith)
    (omega (arith, told.needed))) in
    record { value = both.0; out_after = both.1 }

pub returns-then-out-two_bit : goal.returns-then-out-two_bit
returns-then-out-two_bit c =
    let codes = c.args.codes.now in
    let told = sizes_told codes c.of-width.result c.bytes.result c.survey-found.result.pieces c.word_size.result
    c.of-width.ensures c.bytes.ensures c.survey-found.ensures.pieces c.word_size.ensures c.if-codes-gt-MOST_BYTES.false in
    let a = c.args in
    let found = c.survey-found in
    let both = refused_both codes a.out.now _
    (answer-short codes (length a.out.now) c.if-codes-gt-MOST_BYTES.false found.result.largest found.ensures.largest (omega arith)
    (omega (arith, told.needed)) (omega (arith, told.needed))) in
    record { value = both.0; out_after = both.1 }

pub returns : goal.returns
returns c =
    let codes = c.args.codes.now in
    let told = sizes_told codes c.of-width.result c.bytes.result c.survey-found.result.pieces c.word_size.result
    c.of-width.ensures c.bytes.ensures c.survey-found.ensures.pieces c.word_size.ensures c.if-codes-gt-MOST_BYTES.false in
    let a = c.args in
    let found = c.survey-found in
    let answer = answer_written codes (length a.out.now) c.if-codes-gt-MOST_BYTES.false found.result.largest found.ensures.largest
    (omega arith) (omega (arith, told.needed))
    (omega (arith, told.needed)) in
    let value = ap (λ (n : ℕ). let sizes : Written = record { two_bit = length codes / 4 + 1; table = n } in Ok sizes) told.table ∙ answer in
    record { value = value; out_after = c.write_sequence.ensures ∙ output_by codes a.out.now _ value }
