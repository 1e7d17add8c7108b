-- `dsqdata::ends::Ends::before`: the first end is -1, and another the end of the number before it. Assumes nothing.
use Rattle.std.proofs.Common.{sym, ◌∙◌, ◌-◌}
use mir.Syntax.{w64}
use Rattle.laws.proofs.Signed.{again}
use Rattle.dsqdata.proofs.Rising.{end_zero, end_suc, end_not_first}
use Rattle.dsqdata.proofs.ends.Ends.before.Goals as goal

pub returns-then-k-eq0 : goal.returns-then-k-eq0
returns-then-k-eq0 c = let a = c.args in let t = c.args.self.now in sym (end_zero t.order t.index.now t.table a.k c.if-k-eq0.true)

pub returns : goal.returns
returns c =
    let a = c.args in let t = c.args.self.now in
    let z = c.read in
    again w64 _ _ z.type_inv (z.ensures ∙ sym (end_suc t.order t.index.now t.table (a.k - 1)) ∙ end_not_first t.order t.index.now t.table a.k c.if-k-eq0.false)
