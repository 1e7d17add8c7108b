-- `byte_runs::unpacking::write_blocks`: the codes of the blocks so far. Assumes nothing.
use mathlib.Core.Path.{◌≡◌, sym, ap, ◌∙◌}
use Prim.Native.Nat.{◌+◌, ◌*◌, ◌-◌, ◌<◌}
use native.Mathlib.Omega.{arith}
use lib.ListN.{length, take, drop, length-drop}
use borrow.Author.Tests.{eqb-true}
use Rattle.fields.specs.Number.{little}
use Rattle.packets.specs.Runs.{unpacked}
use Rattle.packets.specs.Bytes.{packets_of}
use Rattle.packets.specs.Decoded.{codes_from}
use Rattle.laws.proofs.Parts.{part_rest}
use Rattle.packets.proofs.Bytes.{length-packets}
use Rattle.byte_runs.specs.Blocks.{spare}
use Rattle.packets.proofs.Behind.{begun-start, none_yet}
use Rattle.byte_runs.proofs.Blocks.{block_codes, block_fives, block_count, block_room, block_begun}
use Rattle.byte_runs.proofs.unpacking.write_blocks.Goals as goal

pub slice_bounds-put_block-count : goal.slice_bounds-put_block-count
slice_bounds-put_block-count c = omega (arith, c.requires.blocks_in_bounds, length-packets little c.args.bytes.now)

pub slice_bounds-put_block-start : goal.slice_bounds-put_block-start
slice_bounds-put_block-start c = omega (arith, c.requires.blocks_in_bounds, length-packets little c.args.bytes.now)

pub start_of-start-requires : goal.start_of-start-requires
start_of-start-requires c = omega (arith, c.requires.blocks_in_bounds, length-packets little c.args.bytes.now)

pub overflow_mul-i : goal.overflow_mul-i
overflow_mul-i c = omega (arith, c.requires.blocks_in_bounds, length-packets little c.args.bytes.now)

pub loop-i-init : goal.loop-i-init
loop-i-init c =
    let ps = packets_of c.args.bytes.now in
    record { count = sym (none_yet ps 0); codes = begun-start ps 0 0 (length (unpacked ps)) c.args.out.now }

pub put_block-at-requires : goal.put_block-at-requires
put_block-at-requires c =
    let a = c.args in
    let l = c.loop-i in
    let b = a.bytes.now in
    let ps = packets_of b in
    let n = length-packets little b in
    let s = c.start_of-start.result in
    let here : s ≡ 4 * (16 * l.i) = c.start_of-start.ensures in
    let behind : 16 * l.i + 16 + spare a.alphabet < length ps = omega (arith, c.requires.blocks_in_bounds) in
    let codes : length (codes_from (packets_of (drop s b)) 0 16) ≡ length (codes_from ps (16 * l.i) 16) = ap length (block_codes b l.i s here (omega arith)) in
    rw (part_rest b s)
    (record {
      in_bounds = (
        omega (arith, length-drop s b),
        omega (arith, c.requires.bytes_value.1, l.invariant.count, block_room a.alphabet ps c.requires.bytes_value.0 l.i behind),
      );
      all_of = λ t. block_fives b l.i s here (omega arith) (rw (eqb-true a.alphabet 3 t) at c.requires.bytes_value.0) (omega arith);
    })

pub loop-i-preserved : goal.loop-i-preserved
loop-i-preserved c =
    let a = c.args in
    let l = c.loop-i in
    let b = a.bytes.now in
    let ps = packets_of b in
    let n = length-packets little b in
    let s = c.start_of-start.result in
    let here : s ≡ 4 * (16 * l.i) = c.start_of-start.ensures in
    let behind : 16 * l.i + 16 + spare a.alphabet < length ps = omega (arith, c.requires.blocks_in_bounds) in
    let o = c.put_block-at in
    let e : codes_from (packets_of (take (length b - s) (drop s b))) 0 16 ≡ codes_from ps (16 * l.i) 16 =
    rw (part_rest b s) (block_codes b l.i s here (omega arith)) in
    let r : o.result ≡ length (codes_from ps 0 (16 * l.i)) + length (codes_from ps (16 * l.i) 16) = o.ensures.behind ∙ rw (e, l.invariant.count) in
    record {
      count = r ∙ sym (block_count a.alphabet ps c.requires.bytes_value.0 l.i behind);
      codes =
          block_begun a.alphabet ps c.requires.bytes_value.0 l.i behind (length (unpacked ps)) a.out.now l.out _
          (block_room a.alphabet ps c.requires.bytes_value.0 l.i behind) l.invariant.codes (rw (r, e, l.invariant.count) at o.ensures.codes);
    }
