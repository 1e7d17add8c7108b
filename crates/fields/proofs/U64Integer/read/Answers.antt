-- `<u64 as Integer>::read`: the number of eight bytes, by its halves. Assumes nothing.
use mathlib.Core.Path.{◌∙◌}
use Rattle.fields.proofs.Laws.{big_halves, little_halves}
use Rattle.fields.proofs.U64Integer.read.Goals as goal

pub returns-in-Big : goal.returns-in-Big
returns-in-Big c = let a = c.args in
    rw (c.in-Big.is) (c.joined.ensures ∙ big_halves a.file.now a.place _ _ c.four.ensures c.four-2.ensures
    (rw c.in-Big.is at c.number_by-first.ensures) (rw c.in-Big.is at c.number_by-last.ensures))

pub returns-in-Little : goal.returns-in-Little
returns-in-Little c = let a = c.args in
    rw (c.in-Little.is) (c.joined-in-Little.ensures ∙ little_halves a.file.now a.place _ _ c.four.ensures c.four-2.ensures
    (rw c.in-Little.is at c.number_by-first.ensures) (rw c.in-Little.is at c.number_by-last.ensures))
