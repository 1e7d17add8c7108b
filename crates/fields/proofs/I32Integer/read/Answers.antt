-- `<i32 as Integer>::read`: the number of four bytes in two's complement. Assumes nothing.
use mathlib.Core.Path.{◌∙◌}
use mir.Syntax.{w32}
use Rattle.fields.proofs.Laws.{machine_signed, signed_field}
use Rattle.fields.proofs.I32Integer.read.Goals as goal

pub returns : goal.returns
returns c =
    let a = c.args in
    signed_field a.order w32 a.file.now a.place c.cast_signed.type_inv (c.cast_signed.ensures ∙ machine_signed w32 _) c.read.ensures
