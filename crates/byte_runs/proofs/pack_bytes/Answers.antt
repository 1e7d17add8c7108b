-- `byte_runs::pack_bytes`: the rules decide, and only then is the run written. Assumes nothing.
use mathlib.Core.Path.{sym, ap, ◌∙◌}
use Prim.Native.Nat.{ℕ, ◌/◌}
use lib.ListN.{length}
use Rattle.std.specs.Prelude.{Ok}
use Rattle.std.proofs.lemmas.Result.{err_from_is_err_and}
use Rattle.runs.specs.Answers.{packed_size}
use Rattle.runs.proofs.Answers.{check_refused, check_passed, pack_done}
use Rattle.byte_runs.proofs.Answers.{bytes_kept, bytes_written}
use Rattle.byte_runs.proofs.pack_bytes.Goals as goal

pub write_run-count-requires : goal.write_run-count-requires
write_run-count-requires c =
    let a = c.args in
    let check = c.check_pack in
    let m = check_passed a.alphabet a.codes.now (length a.bytes.now / 4) a.place.0 check.result check.ensures c.in_ok-check_pack.was in
    (m.valid, m.fits)

pub returns-in_err-check_pack : goal.returns-in_err-check_pack
returns-in_err-check_pack c =
    let a = c.args in
    let check = c.check_pack in
    let p = err_from_is_err_and c.from_residual.result c.from_residual.ensures.1 in
    let e = check_refused a.alphabet a.codes.now (length a.bytes.now / 4) a.place.0 check.result check.ensures _ c.in_err-check_pack.was in
    record { answer = rw (p.1, p.2) (sym e); bytes = sym (bytes_kept a.alphabet a.codes.now a.bytes.now a.place.0 _ e) }

pub returns : goal.returns
returns c =
    let a = c.args in
    let check = c.check_pack in
    let m = check_passed a.alphabet a.codes.now (length a.bytes.now / 4) a.place.0 check.result check.ensures c.in_ok-check_pack.was in
    let e = pack_done a.alphabet a.codes.now (length a.bytes.now / 4) a.place.0 m in
    record {
      answer = ap (λ (n : ℕ). Ok (record { packets = n; residues = length a.codes.now })) c.write_run-count.ensures.count ∙ sym e;
      bytes = c.write_run-count.ensures.bytes ∙ sym (bytes_written a.alphabet a.codes.now a.bytes.now a.place.0 (packed_size a.alphabet a.codes.now) e);
    }
