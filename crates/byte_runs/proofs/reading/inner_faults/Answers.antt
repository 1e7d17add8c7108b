-- `byte_runs::reading::inner_faults`: 0 so far where each packet so far may stand there. Assumes nothing.
use mathlib.Core.Path.{refl}
use native.Mathlib.Omega.{arith}
use Rattle.packets.specs.Bytes.{packets_by}
use Rattle.packets.proofs.Reading.{inner-more}
use Rattle.byte_runs.proofs.Stores.{word_packet}
use Rattle.byte_runs.proofs.reading.inner_faults.Goals as goal

pub loop-i-init : goal.loop-i-init
loop-i-init c = refl

pub loop-i-preserved : goal.loop-i-preserved
loop-i-preserved c =
    let a = c.args in
    let l = c.loop-i in
    let p = c.word_at in
    let f = c.word_fault-faults in
    let e = word_packet a.order a.bytes.now l.i p.result (omega (arith, c.requires)) p.ensures in
    inner-more (packets_by a.order a.bytes.now) l.i _ e a.alphabet l.faults f.result l.invariant f.ensures
