-- `console::gull_unpack`: with room for the results it answers as the call on bytes does; without, the answer alone is asked and nothing is written. Assumes
-- nothing.
use mathlib.Core.Path.{refl, sym, ◌∙◌}
use lib.ListN.{length}
use borrow.Author.Tests.{le-leb, lt-leb}
use Rattle.answers.specs.declared.Refusal.TheVariants.{NoRoom}
use Rattle.console.proofs.Calls.{unpack_all_refused, unpack_all_unpacked, unpack_left, unpack_refused, unpack_short}
use Rattle.console.proofs.gull_unpack.Goals as goal

pub returns-in-Ok : goal.returns-in-Ok
returns-in-Ok c =
    let a = c.args in
    let e = sym c.unpack_bytes_answer.ensures ∙ c.in-Ok.is in
    let the-pair = unpack_all_refused a.alphabet a.packets.now a.codes.now a.results.now NoRoom _ a.codes.now c.from.ensures
    (unpack_short a.alphabet a.packets.now (length a.codes.now) (length a.results.now)
    (lt-leb 16 _ c.if-results-lt-UNPACK_RESULTS.true) _ e) refl in record { number = the-pair.0; codes = the-pair.1.0; results = the-pair.1.1 }

pub returns-in-Err : goal.returns-in-Err
returns-in-Err c =
    let a = c.args in
    let e = sym c.unpack_bytes_answer.ensures ∙ c.in-Err.is in
    let the-pair = unpack_all_refused a.alphabet a.packets.now a.codes.now a.results.now _ _ a.codes.now c.from-in-Err.ensures
    (unpack_refused a.alphabet a.packets.now (length a.codes.now) (length a.results.now) _ e) refl in record { number = the-pair.0; codes = the-pair.1.0; results = the-pair.1.1 }

pub returns-in-Err-unpack_bytes : goal.returns-in-Err-unpack_bytes
returns-in-Err-unpack_bytes c =
    let a = c.args in
    let e = sym c.unpack_bytes.ensures.answer ∙ c.in-Err-unpack_bytes.is in
    let the-pair = unpack_all_refused a.alphabet a.packets.now a.codes.now a.results.now _ _ _ c.from-in-Err-unpack_bytes.ensures
    (unpack_refused a.alphabet a.packets.now (length a.codes.now) (length a.results.now) _ e)
    (c.unpack_bytes.ensures.codes ∙ unpack_left a.alphabet a.packets.now a.codes.now
    a.results.now _ e) in record { number = the-pair.0; codes = the-pair.1.0; results = the-pair.1.1 }

pub returns-in-Ok-unpack_bytes : goal.returns-in-Ok-unpack_bytes
returns-in-Ok-unpack_bytes c =
    let a = c.args in
    let e = sym c.unpack_bytes.ensures.answer ∙
    c.in-Ok-unpack_bytes.is in
    let the-pair = unpack_all_unpacked a.alphabet a.packets.now a.codes.now a.results.now
    (le-leb 16 _ c.if-results-lt-UNPACK_RESULTS.false) _ e _ _
    c.unpack_bytes.ensures.codes
    c.put_results.ensures in record { number = the-pair.0; codes = the-pair.1.0; results = the-pair.1.1 }
