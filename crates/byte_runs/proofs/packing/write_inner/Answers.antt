-- `byte_runs::packing::write_inner`: the packets written so far, and the run of the codes still to read. Assumes nothing.
use mathlib.Core.Path.{sym, ap, ◌∙◌}
use Prim.Native.Nat.{◌-◌}
use native.Mathlib.Omega.{arith}
use lib.ListN.{length, drop}
use Rattle.laws.proofs.Digits.{below-drop, below-take}
use Rattle.laws.proofs.Parts.{part_rest}
use Rattle.packets.specs.Packing.{five_bit_part}
use Rattle.residues.proofs.Alphabets.{valid-below}
use Rattle.byte_runs.proofs.Packed.{part_long}
use Rattle.byte_runs.proofs.RunBegun.{begun-none, begun-place, begun-room, begun_two, begun_five, begun_block}
use Rattle.byte_runs.proofs.packing.write_inner.Goals as goal

pub loop-at-init : goal.loop-at-init
loop-at-init c = (begun-none c.args.codes.now c.args.out.now, omega arith)

pub write_twos-n-requires : goal.write_twos-n-requires
write_twos-n-requires c = (
  part_long c.loop-at.at 1 c.args.codes.now (omega arith),
  begun-room _ _ _ _ _ c.loop-at.invariant.0 c.requires.1 c.start_of.result c.requires.0 c.start_of.ensures,
)

pub loop-at-preserved-then-row-eq16 : goal.loop-at-preserved-then-row-eq16
loop-at-preserved-then-row-eq16 c =
    let r = c.write_twos-n in (
      begun_block _ _ _ _ _ c.loop-at.invariant.0 c.requires.1 r.result c.start_of.result r.new.out c.start_of.ensures r.ensures.plain.0
          r.ensures.plain.1 r.ensures.bytes,
      omega arith,
    )

pub five_packet-requires : goal.five_packet-requires
five_packet-requires c =
    let cs = c.args.codes.now in
    let at = c.loop-at.at in (
      part_long at 6 cs (omega arith),
      below-take 28 (length cs - at) (drop at cs) (below-drop 28 at cs (valid-below 1 cs c.requires.0)),
    )

pub put_packet-requires : goal.put_packet-requires
put_packet-requires c = begun-place _ _ _ _ _ c.loop-at.invariant.0 c.requires.1

pub loop-at-preserved-in_default : goal.loop-at-preserved-in_default
loop-at-preserved-in_default c = (
  begun_five _ _ _ _ _ c.loop-at.invariant.0 c.requires.1 c.five_packet.result _ (sym c.next_two_bit.ensures ∙ c.in_default.is)
      (c.five_packet.ensures ∙ ap five_bit_part (part_rest c.args.codes.now c.loop-at.at)) (omega arith) c.put_packet.ensures,
  omega arith,
)

pub put_packet-requires-in-loop-at : goal.put_packet-requires-in-loop-at
put_packet-requires-in-loop-at c = begun-place _ _ _ _ _ c.loop-at.invariant.0 c.requires.1

pub loop-at-preserved : goal.loop-at-preserved
loop-at-preserved c = (
  begun_two _ _ _ _ _ c.loop-at.invariant.0 c.requires.1 c.in-Some.packet _ (sym c.next_two_bit.ensures ∙ c.in-Some.is) (omega arith)
      c.put_packet-in-loop-at.ensures,
  omega arith,
)

pub returns : goal.returns
returns c = c.loop-at.invariant.0
