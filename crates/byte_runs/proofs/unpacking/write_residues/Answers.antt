-- `byte_runs::unpacking::write_residues`: blocks of packets, and behind their codes the residues of the rest. Assumes nothing.
use mathlib.Core.Path.{◌∙◌}
use Prim.Native.Nat.{◌*◌, ◌<◌}
use native.Mathlib.Omega.{arith}
use lib.ListN.{length}
use Rattle.fields.specs.Number.{little}
use Rattle.packets.specs.Bytes.{packets_of}
use Rattle.packets.proofs.Bytes.{length-packets}
use Rattle.packets.proofs.Behind.{first_count, written_split}
use Rattle.packets.proofs.Shapes.{well_some}
use Rattle.byte_runs.proofs.unpacking.write_residues.Goals as goal

pub overflow_sub-bytes : goal.overflow_sub-bytes
overflow_sub-bytes c = omega (
  arith,
  well_some c.args.alphabet _ c.requires.0,
  length-packets little
      c.args.bytes.now,
)

pub write_blocks-at-requires : goal.write_blocks-at-requires
write_blocks-at-requires c =
    let e = length-packets little c.args.bytes.now in
    record { bytes_value = c.requires; blocks_in_bounds = rw e c.block_count-blocks.ensures }

pub write_rest-requires : goal.write_rest-requires
write_rest-requires c =
    let a = c.args in
    let ps = packets_of a.bytes.now in
    let n = 16 * c.block_count-blocks.result in
    let some = well_some a.alphabet ps c.requires.0 in
    let h : n < length ps = omega (arith, c.block_count-blocks.ensures, length-packets little a.bytes.now) in record {
      bytes_value = (c.requires.0, h);
      bytes_in_bounds = omega (
        arith,
        c.requires.1,
        c.write_blocks-at.ensures.count,
        c.write_blocks-at.ensures.codes.size,
        first_count a.alphabet ps
            c.requires.0 n h,
      );
    }

pub returns : goal.returns
returns c =
    let a = c.args in
    let ps = packets_of a.bytes.now in
    let n = 16 * c.block_count-blocks.result in
    let some = well_some a.alphabet ps c.requires.0 in
    let h : n < length ps = omega (
      arith,
      c.block_count-blocks.ensures,
      length-packets little
          a.bytes.now,
    ) in
    c.write_rest.ensures
    ∙ written_split a.alphabet ps c.requires.0 n h
    a.out.now _ c.write_blocks-at.result
    c.requires.1
    c.write_blocks-at.ensures.count
    c.write_blocks-at.ensures.codes
