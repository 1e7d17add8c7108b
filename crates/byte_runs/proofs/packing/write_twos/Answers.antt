-- `byte_runs::packing::write_twos`: the packets written so far, all of plain codes. Assumes nothing.
use mathlib.Core.Path.{refl}
use Prim.Native.Nat.{◌≤◌, ◌+◌, ◌*◌}
use native.Mathlib.Omega.{arith}
use lib.ListN.{length}
use Rattle.laws.proofs.Parts.{part_rest}
use Rattle.packets.specs.Packing.{two_bit_part}
use Rattle.byte_runs.proofs.Packed.{part_long, parts_behind, bytes-start}
use Rattle.byte_runs.proofs.Twos.{block_told, parts_plain}
use Rattle.byte_runs.proofs.packing.write_twos.Goals as goal

pub loop-packets-init : goal.loop-packets-init
loop-packets-init c = record { more = c.requires.0; plain = refl; bytes = bytes-start (λ next. two_bit_part next) 15 c.args.codes.now c.args.out.now }

pub sixteen_twos-packets-requires : goal.sixteen_twos-packets-requires
sixteen_twos-packets-requires c =
    let cs = c.args.codes.now in
    let t = block_told cs c.loop-packets.n c.plain_block.result c.plain_block.ensures c.loop-packets-test.true in
    rw (part_rest cs (15 * c.loop-packets.n)) t.1

pub slice_bounds-put_packets-start : goal.slice_bounds-put_packets-start
slice_bounds-put_packets-start c =
    let t = block_told c.args.codes.now c.loop-packets.n c.plain_block.result c.plain_block.ensures c.loop-packets-test.true in
    omega (arith, t.0, c.requires.1)

pub put_packets-requires : goal.put_packets-requires
put_packets-requires c =
    let t = block_told c.args.codes.now c.loop-packets.n c.plain_block.result c.plain_block.ensures c.loop-packets-test.true in
    (omega arith, part_long c.start_of.result 64 c.loop-packets.out (omega (arith, t.0, c.requires.1)))

pub loop-packets-preserved : goal.loop-packets-preserved
loop-packets-preserved c =
    let a = c.args in
    let l = c.loop-packets in
    let t = block_told a.codes.now l.n c.plain_block.result c.plain_block.ensures c.loop-packets-test.true in
    let room : 4 * (l.n + 16) ≤ length a.out.now = omega (arith, t.0, c.requires.1) in
    record {
      more = omega (arith, t.0);
      plain = parts_plain a.codes.now l.n l.invariant.plain t.1;
      bytes =
          parts_behind (λ next. two_bit_part next) 15 a.codes.now l.n 16 a.out.now l.out c.sixteen_twos-packets.result c.put_packets.new.out
          c.start_of.result l.invariant.bytes room (omega arith) c.sixteen_twos-packets.ensures c.start_of.ensures c.put_packets.ensures;
    }
