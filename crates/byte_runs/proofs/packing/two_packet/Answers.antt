-- `byte_runs::packing::two_packet`: four numbers of four codes, of which two share one. Assumes nothing.
use native.Mathlib.Omega.{arith}
use Rattle.packets.proofs.Packing.{plain-long}
use Rattle.byte_runs.proofs.Twos.{four_bases, two_sum}
use Rattle.byte_runs.proofs.packing.two_packet.Goals as goal

pub four_at-requires-4 : goal.four_at-requires-4
four_at-requires-4 c = omega (arith, plain-long 15 c.args.next.now c.requires)

pub four_at-requires-3 : goal.four_at-requires-3
four_at-requires-3 c = omega (arith, plain-long 15 c.args.next.now c.requires)

pub four_at-requires-2 : goal.four_at-requires-2
four_at-requires-2 c = omega (arith, plain-long 15 c.args.next.now c.requires)

pub four_at-requires : goal.four_at-requires
four_at-requires c = omega (arith, plain-long 15 c.args.next.now c.requires)

pub four_shifted-requires : goal.four_shifted-requires
four_shifted-requires c = four_bases c.args.next.now c.requires 0 _ (omega arith) c.four_at.ensures.value

pub four_shifted-requires-2 : goal.four_shifted-requires-2
four_shifted-requires-2 c = four_bases c.args.next.now c.requires 4 _ (omega arith) c.four_at-2.ensures.value

pub four_shifted-requires-3 : goal.four_shifted-requires-3
four_shifted-requires-3 c = four_bases c.args.next.now c.requires 8 _ (omega arith) c.four_at-3.ensures.value

pub four_shifted-requires-4 : goal.four_shifted-requires-4
four_shifted-requires-4 c = four_bases c.args.next.now c.requires 11 _ (omega arith) c.four_at-4.ensures.value

pub returns : goal.returns
returns c =
    two_sum c.args.next.now c.requires _ _ _ _ _ _ _ _ c.four_shifted.ensures.value c.four_at.ensures.value c.four_shifted-2.ensures.value
    c.four_at-2.ensures.value c.four_shifted-3.ensures.value c.four_at-3.ensures.value c.four_shifted-4.ensures.value c.four_at-4.ensures.value
