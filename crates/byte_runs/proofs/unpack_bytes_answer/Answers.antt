-- `byte_runs::unpack_bytes_answer`: rule by rule. Assumes nothing.
use mathlib.Core.Path.{◌≡◌, sym, ap, ◌∙◌}
use Prim.Native.Nat.{ℕ, ◌/◌}
use native.Mathlib.Omega.{arith}
use lib.ListN.{length}
use Rattle.std.specs.Prelude.{Ok, None}
use Rattle.std.specs.Result.{result_ok}
use Rattle.std.proofs.lemmas.Result.{err_from_is_err_and}
use Rattle.answers.specs.declared.Refusal.TheVariants.{BadRun}
use Rattle.answers.proofs.Checks.{err_cause}
use Rattle.fields.specs.Number.{little}
use Rattle.packets.specs.Bytes.{packets_of}
use Rattle.packets.specs.Runs.{unpacked}
use Rattle.packets.proofs.Bytes.{length-packets}
use Rattle.packets.proofs.Reading.{read-formed, read-not}
use Rattle.runs.proofs.Answers.{run_wrong, run-bad, run_full, run-done}
use Rattle.byte_runs.proofs.Answers.{read_fits, unpack_bytes_large, unpack_bytes_short, unpack_bytes_as}
use Rattle.byte_runs.proofs.unpack_bytes_answer.Goals as goal

pub returns-then-bytes-gt-MOST_BYTES : goal.returns-then-bytes-gt-MOST_BYTES
returns-then-bytes-gt-MOST_BYTES c = sym (unpack_bytes_large _ _ _ c.if-bytes-gt-MOST_BYTES.true)

pub returns-then-bytes-ne0 : goal.returns-then-bytes-ne0
returns-then-bytes-ne0 c = sym (unpack_bytes_short _ _ _ c.if-bytes-gt-MOST_BYTES.false c.if-bytes-ne0.true)

pub returns-then-not-is_alphabet : goal.returns-then-not-is_alphabet
returns-then-not-is_alphabet c =
    sym (unpack_bytes_as _ _ _ c.if-bytes-gt-MOST_BYTES.false c.if-bytes-ne0.false
    ∙ run_wrong c.args.alphabet _ _ (sym c.is_alphabet.ensures ∙ c.if-not-is_alphabet.true))

-- no run was read
pub returns-in_err-total : goal.returns-in_err-total
returns-in_err-total c =
    let r = c.read_run in
    let read = r.ensures ∙ read_fits little c.args.alphabet c.args.bytes.now c.if-bytes-gt-MOST_BYTES.false in
    let none : r.result ≡ None = c.ok_or.ensures.ok_part ∙ ap result_ok c.in_err-total.was in
    let cause : c.in_err-total.field-0.0 ≡ BadRun = err_cause {A = ℕ} BadRun _ (rw none at c.in_err-total.ensures.value) in
    let p = err_from_is_err_and c.from_residual.result c.from_residual.ensures.1 in
    rw (p.1, p.2, cause)
    (sym (unpack_bytes_as _ _ _ c.if-bytes-gt-MOST_BYTES.false c.if-bytes-ne0.false
    ∙ run-bad _ _ _ (sym c.is_alphabet.ensures ∙ c.if-not-is_alphabet.false) (read-not _ _ r.result read none)))

-- a run was read, of so many residues
pub returns-then-room-total : goal.returns-then-room-total
returns-then-room-total c =
    let r = c.read_run in
    let read = r.ensures ∙ read_fits little c.args.alphabet c.args.bytes.now c.if-bytes-gt-MOST_BYTES.false in
    let f = read-formed _ _ r.result read c.in_ok-total.total (c.ok_or.ensures.ok_part ∙ ap result_ok c.in_ok-total.was) in
    sym (unpack_bytes_as _ _ _ c.if-bytes-gt-MOST_BYTES.false c.if-bytes-ne0.false
    ∙ run_full _ _ _ (sym c.is_alphabet.ensures ∙ c.if-not-is_alphabet.false) f.0 (omega (arith, f.1)))

pub returns : goal.returns
returns c =
    let r = c.read_run in
    let bytes = c.args.bytes.now in
    let read = r.ensures ∙ read_fits little c.args.alphabet bytes c.if-bytes-gt-MOST_BYTES.false in
    let f = read-formed _ _ r.result read c.in_ok-total.total (c.ok_or.ensures.ok_part ∙ ap result_ok c.in_ok-total.was) in
    ap (λ (l : ℕ). Ok (record { packets = length bytes / 4; residues = l })) f.1
    ∙ ap (λ (n : ℕ). Ok (record { packets = n; residues = length (unpacked (packets_of bytes)) })) (sym (length-packets little bytes))
    ∙ sym (unpack_bytes_as _ _ _ c.if-bytes-gt-MOST_BYTES.false c.if-bytes-ne0.false
    ∙ run-done _ _ _ (record { known = sym c.is_alphabet.ensures ∙ c.if-not-is_alphabet.false; formed = f.0; fits = omega (arith, f.1) }))
