-- `byte_runs::reading::five_bit_packets`: bit 30 of the packets so far, added up. Assumes nothing.
use mathlib.Core.Path.{refl}
use native.Mathlib.Omega.{arith}
use Rattle.packets.specs.Bytes.{packets_by}
use Rattle.packets.proofs.Reading.{codes-fives, five_more}
use Rattle.byte_runs.proofs.reading.five_bit_packets.Goals as goal

pub overflow_add-fives : goal.overflow_add-fives
overflow_add-fives c =
    let l = c.loop-i in
    omega (arith, c.requires.1, l.invariant, codes-fives (packets_by c.args.order c.args.bytes.now) l.i)

pub loop-i-init : goal.loop-i-init
loop-i-init c = refl

pub loop-i-preserved : goal.loop-i-preserved
loop-i-preserved c =
    let l = c.loop-i in
    let p = c.packet_by in
    five_more (packets_by c.args.order c.args.bytes.now) l.i p.result p.ensures l.fives l.invariant
