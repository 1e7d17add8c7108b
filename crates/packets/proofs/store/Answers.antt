-- `packets::store`: the four bytes of the number, in place of those that stand there. Assumes nothing.
use mathlib.Core.Path.{◌∙◌}
use Rattle.packets.proofs.Stored.{stored_four}
use Rattle.packets.proofs.store.Goals as goal

pub returns : goal.returns
returns c =
    let a = c.args in
    stored_four a.n a.at a.out.now _ c.requires (c.copy_from_slice.ensures.after ∙ c.to_le_bytes.ensures)
