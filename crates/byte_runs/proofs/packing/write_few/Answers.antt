-- `byte_runs::packing::write_few`: the packets written so far. Assumes nothing.
use mathlib.Core.Path.{sym, ap, ◌∙◌}
use mathlib.Core.List.{[], ◌∷◌}
use Prim.Native.Nat.{ℕ, ◌*◌, ◌-◌}
use native.Mathlib.Omega.{arith}
use lib.ListN.{length, drop}
use Rattle.laws.proofs.Digits.{below-drop, below-take}
use Rattle.laws.proofs.Parts.{part_rest}
use Rattle.packets.specs.Packing.{five_bit_part}
use Rattle.byte_runs.specs.Packed.{fives}
use Rattle.byte_runs.proofs.Packed.{put_none, put_all, part_long, parts_one, parts_put, length_parts}
use Rattle.byte_runs.proofs.packing.write_few.Goals as goal

pub loop-i-init : goal.loop-i-init
loop-i-init c = put_none (fives c.args.codes.now c.args.count) c.args.out.now

pub five_packet-requires : goal.five_packet-requires
five_packet-requires c =
    let cs = c.args.codes.now in
    let i = c.loop-i.i in
    (part_long (6 * i) 6 cs (omega (arith, c.requires.0)), below-take 28 (length cs - 6 * i) (drop (6 * i) cs) (below-drop 28 (6 * i) cs c.requires.1))

pub loop-i-preserved : goal.loop-i-preserved
loop-i-preserved c =
    let a = c.args in
    let l = c.loop-i in
    let cs = a.codes.now in
    c.put_packet.ensures
    ∙ parts_put (λ next. five_bit_part next) 6 cs a.count l.i 1 (omega arith) l.i a.out.now l.out _ l.invariant c.requires.2
    (ap (λ (p : ℕ). p ∷ []) (c.five_packet.ensures ∙ ap five_bit_part (part_rest cs (6 * l.i))) ∙ sym (parts_one (λ next. five_bit_part next) 6 (drop
    (6 * l.i) cs))) (omega arith) (omega arith)

pub returns : goal.returns
returns c =
    let a = c.args in
    put_all (fives a.codes.now a.count) a.out.now c.loop-i.out c.loop-i.i (omega (arith, length_parts (λ next. five_bit_part next) 6 a.codes.now a.count))
    c.loop-i.invariant
