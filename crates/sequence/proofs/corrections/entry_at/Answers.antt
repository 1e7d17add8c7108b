-- `sequence::corrections::entry_at`: by the width, from the entry's own bytes. Assumes nothing.
use mathlib.Core.Path.{refl, ◌∙◌}
use Prim.Native.Nat.{◌+◌}
use Rattle.volume.proofs.Facts.{part_unsigned}
use Rattle.sequence.proofs.corrections.entry_at.Goals as goal

pub returns-in-Narrow-clause-value : goal.returns-in-Narrow-clause-value
returns-in-Narrow-clause-value c =
    let a = c.args in
    rw c.in-Narrow.is (c.from.ensures ∙ c.read.ensures ∙ part_unsigned 4 a.sequence.now a.at (a.at + 4) refl)

pub returns-in-Wide-clause-value : goal.returns-in-Wide-clause-value
returns-in-Wide-clause-value c =
    let a = c.args in
    rw c.in-Wide.is (c.read-in-Wide.ensures ∙ part_unsigned 8 a.sequence.now a.at (a.at + 8) refl)
