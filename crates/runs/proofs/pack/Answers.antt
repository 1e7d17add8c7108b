-- `runs::pack`: the rules decide, and only then is the run written. Assumes nothing.
use mathlib.Core.Path.{sym, ap, ◌∙◌}
use Prim.Native.Nat.{ℕ}
use lib.ListN.{length, length-drop}
use native.Mathlib.Omega.{arith}
use Rattle.laws.proofs.Parts.{part_rest}
use Rattle.std.specs.Prelude.{Ok}
use Rattle.std.proofs.lemmas.Result.{err_from_is_err_and}
use Rattle.packets.specs.Packing.{run}
use Rattle.runs.specs.Answers.{packed_size}
use Rattle.runs.proofs.Answers.{check_refused, check_passed, pack_done, packets_kept, packets_written}
use Rattle.runs.proofs.Turns.{part_written}
use Rattle.runs.proofs.pack.Goals as goal

pub write_run-count-requires : goal.write_run-count-requires
write_run-count-requires c =
    let a = c.args in
    let check = c.check_pack in
    let m = check_passed a.alphabet a.codes.now (length a.buffer.now) a.place.0 check.result check.ensures c.in_ok-check_pack.was in
    (m.valid, rw (part_rest a.buffer.now a.place.0) (omega (arith, m.fits, length-drop a.place.0 a.buffer.now)))

pub returns-in_err-check_pack : goal.returns-in_err-check_pack
returns-in_err-check_pack c =
    let a = c.args in
    let check = c.check_pack in
    let p = err_from_is_err_and c.from_residual.result c.from_residual.ensures.1 in
    let e = check_refused a.alphabet a.codes.now (length a.buffer.now) a.place.0 check.result check.ensures _ c.in_err-check_pack.was in
    record { answer = rw (p.1, p.2) (sym e); packets = sym (packets_kept a.alphabet a.codes.now a.buffer.now a.place.0 _ e) }

pub returns : goal.returns
returns c =
    let a = c.args in
    let check = c.check_pack in
    let m = check_passed a.alphabet a.codes.now (length a.buffer.now) a.place.0 check.result check.ensures c.in_ok-check_pack.was in
    let e = pack_done a.alphabet a.codes.now (length a.buffer.now) a.place.0 m in
    record {
      answer = ap (λ (n : ℕ). Ok (record { packets = n; residues = length a.codes.now })) c.write_run-count.ensures.count ∙ sym e;
      packets =
          part_written a.place.0 (run a.alphabet a.codes.now) a.buffer.now c.write_run-count.new.buffer m.fits c.write_run-count.ensures.packets
          ∙ sym (packets_written a.alphabet a.codes.now a.buffer.now a.place.0 (packed_size a.alphabet a.codes.now) e);
    }
