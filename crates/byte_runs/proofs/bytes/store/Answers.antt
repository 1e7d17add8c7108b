-- `byte_runs::bytes::store`: the low bytes of the number, in place of those that stand there. Assumes nothing.
use mathlib.Core.Path.{ap, ◌∙◌}
use mathlib.Core.List.{List}
use Prim.Native.Nat.{ℕ}
use lib.ListN.{take}
use Rattle.packets.proofs.Stored.{stored}
use Rattle.byte_runs.proofs.bytes.store.Goals as goal

pub returns : goal.returns
returns c =
    let a = c.args in
    stored a.n a.count a.at a.out.now _ c.requires.0 c.requires.1 (c.copy_from_slice.ensures.after ∙ ap (λ (l : List ℕ). take a.count l) c.to_le_bytes.ensures)
