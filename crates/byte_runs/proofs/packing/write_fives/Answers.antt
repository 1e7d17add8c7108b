-- `byte_runs::packing::write_fives`: the packets written so far; a block writes behind them, or some of them again. Assumes nothing.
use mathlib.Core.Path.{◌≡◌}
use Prim.Native.Nat.{◌-◌, ◌+◌, ◌*◌, ◌<◌, min}
use native.Mathlib.Omega.{arith}
use lib.ListN.{length, drop}
use Rattle.laws.proofs.Digits.{below-take, below-drop}
use Rattle.packets.specs.Packing.{five_bit_part}
use Rattle.byte_runs.specs.Packed.{fives}
use Rattle.byte_runs.proofs.Packed.{put_none, part_long, parts_lent, put_all, length_parts}
use Rattle.byte_runs.proofs.packing.write_fives.Goals as goal

pub loop-block-init : goal.loop-block-init
loop-block-init c = let e : min 0 c.args.count ≡ 0 = omega arith in rw e (put_none (fives c.args.codes.now c.args.count) c.args.out.now)

pub sixteen_fives-packets-requires : goal.sixteen_fives-packets-requires
sixteen_fives-packets-requires c =
    let k = c.min-from.result in
    let cs = c.args.codes.now in (
      part_long (6 * k) 96 cs (omega (arith, c.requires.0)),
      below-take 28 (length cs - 6 * k) (drop (6 * k) cs) (below-drop 28 (6 * k) cs c.requires.1),
    )

pub put_packets-requires : goal.put_packets-requires
put_packets-requires c = (omega arith, part_long c.start_of.result 64 c.loop-block.out (omega (arith, c.requires.2)))

pub loop-block-preserved : goal.loop-block-preserved
loop-block-preserved c =
    let a = c.args in
    let l = c.loop-block in
    let k = c.min-from.result in
    let i = min (16 * l.block) a.count in
    let more : 16 * l.block < a.count = omega arith in
    let end : k + 16 ≡ min (16 * (l.block + 1)) a.count = omega arith in
    rw (← end)
    (parts_lent (λ next. five_bit_part next) 6 a.codes.now a.count k 16 (omega arith) i a.out.now l.out
    c.sixteen_fives-packets.result c.put_packets.new.out c.start_of.result l.invariant c.requires.2 (omega arith)
    c.sixteen_fives-packets.ensures (omega arith) (omega arith) c.start_of.ensures c.put_packets.ensures)

pub returns : goal.returns
returns c =
    let R = fives c.args.codes.now c.args.count in
    let n = length_parts (λ next. five_bit_part next) 6 c.args.codes.now c.args.count in
    put_all R c.args.out.now c.loop-block.out _ (omega (arith, n)) c.loop-block.invariant
