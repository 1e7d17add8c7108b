-- `byte_runs::unpack_bytes`: the answer decides, and only then are the residues written. Assumes nothing.
use mathlib.Core.Path.{sym, ◌∙◌}
use lib.ListN.{length}
use Rattle.byte_runs.proofs.Answers.{unpacked-bytes_may, codes-bytes_kept, codes-bytes_written}
use Rattle.byte_runs.proofs.unpack_bytes.Goals as goal

pub write_residues-requires : goal.write_residues-requires
write_residues-requires c =
    let a = c.args in
    let m = (unpacked-bytes_may a.alphabet a.bytes.now (length a.out.now) c.in_ok-size.size (sym c.unpack_bytes_answer.ensures ∙ c.in_ok-size.was)).2 in
    (m.formed, m.fits)

pub returns-in_err-size-clause-codes : goal.returns-in_err-size-clause-codes
returns-in_err-size-clause-codes c =
    let a = c.args in
    sym (codes-bytes_kept a.alphabet a.bytes.now a.out.now c.in_err-size.field-0.0 (sym c.unpack_bytes_answer.ensures ∙ c.in_err-size.was))

pub returns-clause-codes : goal.returns-clause-codes
returns-clause-codes c =
    let a = c.args in
    c.write_residues.ensures
    ∙ sym (codes-bytes_written a.alphabet a.bytes.now a.out.now c.in_ok-size.size (sym c.unpack_bytes_answer.ensures ∙ c.in_ok-size.was))
