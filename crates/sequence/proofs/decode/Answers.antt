-- `sequence::decode`: the sequence file's size, then the index, then the sequence's own rules. Assumes nothing.
use lib.ListN.{length}
use mathlib.Core.Path.{sym, ◌∙◌}
use Rattle.std.proofs.lemmas.Result.{err_from_is_err_and}
use Rattle.volume.proofs.Reading.{index_read}
use Rattle.sequence.proofs.Answers.{decode_large, decode_unread, decode_read, output_by}
use Rattle.sequence.proofs.decode.Goals as goal

pub returns-then-sequence-gt-MOST_BYTES : goal.returns-then-sequence-gt-MOST_BYTES
returns-then-sequence-gt-MOST_BYTES c =
    let index = c.args.index.now in
    let s = c.args.sequence.now in
    let o = c.args.out.now in
    let a = decode_large index s c.args.number (length o) c.if-sequence-gt-MOST_BYTES.true in
    record { value = a; out_after = output_by index s c.args.number o _ a }

pub decode_own-requires : goal.decode_own-requires
decode_own-requires c =
    let read = sym c.read_index.ensures ∙ c.in_ok-x.was in
    ((index_read c.args.index.now _ read).1, c.if-sequence-gt-MOST_BYTES.false)

pub returns-in_err-x : goal.returns-in_err-x
returns-in_err-x c =
    let a = c.args in
    let o = a.out.now in
    let p = err_from_is_err_and c.from_residual.result c.from_residual.ensures.1 in
    let unread = sym c.read_index.ensures ∙ c.in_err-x.was in
    let answer = decode_unread a.index.now a.sequence.now a.number (length o) c.if-sequence-gt-MOST_BYTES.false _ unread in
    rw (p.1, p.2) (record { value = answer; out_after = output_by a.index.now a.sequence.now a.number o _ answer })

pub returns : goal.returns
returns c =
    let a = c.args in
    let o = a.out.now in
    let read = sym c.read_index.ensures ∙ c.in_ok-x.was in
    let answer = c.decode_own.ensures.value ∙ decode_read a.index.now a.sequence.now a.number (length o) c.if-sequence-gt-MOST_BYTES.false _ read in
    record { value = answer; out_after = c.decode_own.ensures.out_after ∙ output_by a.index.now a.sequence.now a.number o _ answer }
