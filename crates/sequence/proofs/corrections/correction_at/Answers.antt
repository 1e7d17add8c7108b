-- `sequence::corrections::correction_at`: the shifts and remainders are the fields of the definition. Assumes nothing.
use mathlib.Core.Path.{ap}
use Prim.Native.Nat.{◌-◌, ◌*◌}
use Rattle.sequence.specs.Corrections.{correction_of, correction_at}
use Rattle.sequence.specs.Tabled.{width_bytes}
use Rattle.sequence.proofs.Ranges.{width_either, offset_shift, repeat_shift, power_shifted}
use Rattle.sequence.proofs.corrections.correction_at.Goals as goal

pub returns-clause-value : goal.returns-clause-value
unfolding correction_at correction_of
returns-clause-value c =
    let width = c.args.entries.width in
    let w = width_bytes width in
    let o = power_shifted (6 * w) (offset_shift w (width_either width)) in
    let r = power_shifted (2 * w - 4) (repeat_shift w (width_either width)).1 in
    rw (c.bytes-w.ensures, o, r) (ap (correction_of w) (rw c.bytes-w.ensures at c.entry_at-entry.ensures.value))
