-- `console::gull_pack`: with room for the results it answers as the call on bytes does; without, the answer alone is asked and nothing is written. Assumes
-- nothing.
use mathlib.Core.Path.{refl, sym, ◌∙◌}
use lib.ListN.{length}
use borrow.Author.Tests.{le-leb, lt-leb}
use Rattle.answers.specs.declared.Refusal.TheVariants.{NoRoom}
use Rattle.console.proofs.Calls.{pack_all_refused, pack_all_packed, pack_left, pack_refused, pack_short}
use Rattle.console.proofs.gull_pack.Goals as goal

pub returns-in-Ok : goal.returns-in-Ok
returns-in-Ok c =
    let a = c.args in
    let e = sym c.pack_answer.ensures ∙ c.in-Ok.is in
    let the-pair = pack_all_refused a.alphabet a.codes.now a.buffer.now a.place a.results.now NoRoom _ a.buffer.now c.from.ensures
    (pack_short a.alphabet a.codes.now a.buffer.now a.place (length a.results.now)
    (lt-leb 16 _ c.if-results-lt-PACK_RESULTS.true) _ e) refl in record { number = the-pair.0; buffer = the-pair.1.0; results = the-pair.1.1 }

pub returns-in-Err : goal.returns-in-Err
returns-in-Err c =
    let a = c.args in
    let e = sym c.pack_answer.ensures ∙ c.in-Err.is in
    let the-pair = pack_all_refused a.alphabet a.codes.now a.buffer.now a.place a.results.now _ _ a.buffer.now c.from-in-Err.ensures
    (pack_refused a.alphabet a.codes.now a.buffer.now a.place (length a.results.now) _ e) refl in record { number = the-pair.0; buffer = the-pair.1.0; results = the-pair.1.1 }

pub returns-in-Err-pack_bytes : goal.returns-in-Err-pack_bytes
returns-in-Err-pack_bytes c =
    let a = c.args in
    let e = sym c.pack_bytes.ensures.answer ∙ c.in-Err-pack_bytes.is in
    let the-pair = pack_all_refused a.alphabet a.codes.now a.buffer.now a.place a.results.now _ _ _ c.from-in-Err-pack_bytes.ensures
    (pack_refused a.alphabet a.codes.now a.buffer.now a.place (length a.results.now) _ e)
    (c.pack_bytes.ensures.bytes ∙ pack_left a.alphabet a.codes.now a.buffer.now a.place
    a.results.now _ e) in record { number = the-pair.0; buffer = the-pair.1.0; results = the-pair.1.1 }

pub returns-in-Ok-pack_bytes : goal.returns-in-Ok-pack_bytes
returns-in-Ok-pack_bytes c =
    let a = c.args in
    let e = sym c.pack_bytes.ensures.answer ∙
    c.in-Ok-pack_bytes.is in
    let the-pair = pack_all_packed a.alphabet a.codes.now a.buffer.now a.place a.results.now
    (le-leb 16 _ c.if-results-lt-PACK_RESULTS.false) _ e _ _
    c.pack_bytes.ensures.bytes c.put_results.ensures in record { number = the-pair.0; buffer = the-pair.1.0; results = the-pair.1.1 }
