-- `byte_runs::bytes::put_packets`: the packets written so far. Assumes nothing.
use mathlib.Core.Path.{◌∙◌}
use native.Mathlib.Omega.{arith}
use Prim.Native.Nat.{◌+◌}
use lib.ListN.{drop}
use Rattle.laws.proofs.Writing.{drop-step}
use Rattle.byte_runs.proofs.Packed.{put_none, put_more, put_all}
use Rattle.byte_runs.proofs.bytes.put_packets.Goals as goal

pub loop-i-init : goal.loop-i-init
loop-i-init g c = put_none c.args.packets.now c.args.out.now

pub loop-i-preserved : goal.loop-i-preserved
loop-i-preserved g c =
    let R = c.args.packets.now in
    let l = c.loop-i in
    c.put_packet.ensures
    ∙ put_more R c.args.out.now l.i l.out l.invariant (omega arith) (omega arith) l.i _ (drop (l.i + 1) R)
    (drop-step R l.i 0 (omega arith)) (omega arith) (omega arith)

pub returns : goal.returns
returns g c = put_all c.args.packets.now c.args.out.now c.loop-i.out c.loop-i.i (omega arith) c.loop-i.invariant
