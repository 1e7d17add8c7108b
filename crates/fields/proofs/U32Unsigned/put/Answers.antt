-- `<u32 as Unsigned>::put`: the number's four bytes in the order that is told. Assumes nothing.
use mathlib.Core.Path.{◌≡◌, ◌∙◌}
use Rattle.fields.specs.Written.{number_bytes}
use Rattle.fields.proofs.Laws.{bytes-big, bytes-little, put_by}
use Rattle.fields.proofs.U32Unsigned.put.Goals.{in-Big, in-Little}
use Rattle.fields.proofs.U32Unsigned.put.Goals as goal

pub returns : goal.returns
returns c =
    let a = c.args in
    let e : c.match-order.four ≡ number_bytes a.order 4 a.self = elim c.match-order.branch [
      | in-Big w ↦ rw w.in-Big.is (w.four-is ∙ w.to_be_bytes-four.ensures ∙ bytes-big 4 a.self)
      | in-Little w ↦ rw w.in-Little.is (w.four-is ∙ w.to_le_bytes-four.ensures ∙ bytes-little 4 a.self)
    ] in
    c.put_bytes.ensures ∙ put_by a.order 4 a.place a.self _ a.out.now e
