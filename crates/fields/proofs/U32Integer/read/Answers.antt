-- `<u32 as Integer>::read`: the number of four bytes. Assumes nothing.
use Rattle.fields.proofs.Laws.{field_number}
use Rattle.fields.proofs.U32Integer.read.Goals as goal

pub returns : goal.returns
returns c =
    let a = c.args in field_number a.order 4 c.four.result a.file.now a.place c.number_by.ensures
    c.four.ensures
