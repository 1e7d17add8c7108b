-- `<u64 as Unsigned>::put`: the number's eight bytes in the order that is told. Assumes nothing.
use mathlib.Core.Path.{◌≡◌, ◌∙◌}
use Rattle.fields.specs.Written.{number_bytes}
use Rattle.fields.proofs.Laws.{bytes-big, bytes-little, put_by}
use Rattle.fields.proofs.U64Unsigned.put.Goals.{in-Big, in-Little}
use Rattle.fields.proofs.U64Unsigned.put.Goals as goal

pub returns : goal.returns
returns c =
    let a = c.args in
    let e : c.match-order.eight ≡ number_bytes a.order 8 a.self = elim c.match-order.branch [
      | in-Big w ↦ rw w.in-Big.is (w.eight-is ∙ w.to_be_bytes-eight.ensures ∙ bytes-big 8 a.self)
      | in-Little w ↦ rw w.in-Little.is (w.eight-is ∙ w.to_le_bytes-eight.ensures ∙ bytes-little 8 a.self)
    ] in
    c.put_bytes.ensures ∙ put_by a.order 8 a.place a.self _ a.out.now e
