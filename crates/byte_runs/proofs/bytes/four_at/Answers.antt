-- `byte_runs::bytes::four_at`: the bytes one by one. Assumes nothing.
use mathlib.Core.Path.{refl, ◌∙◌}
use native.Mathlib.Nat.{add-zero}
use Rattle.fields.proofs.Laws.{four_read}
use Rattle.byte_runs.proofs.bytes.four_at.Goals as goal

pub returns : goal.returns
returns c =
    let a = c.args in
    record { value = c.word.ensures.value; bytes = c.word.ensures.bytes ∙ four_read a.bytes.now a.at 0 (rw add-zero) refl refl refl }
