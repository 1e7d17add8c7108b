-- `byte_runs::unpacking::put_sixes`: sixteen packets taken apart, and then written one behind another. Assumes nothing.
use mathlib.Core.Path.{◌≡◌, refl, sym, ap, ◌∙◌}
use native.Mathlib.Omega.{arith}
use Prim.Native.Nat.{◌+◌, ◌*◌}
use lib.ListN.{length-set}
use Rattle.laws.proofs.Begun.{begun-whole}
use Rattle.packets.specs.Runs.{is_five_bit}
use Rattle.packets.specs.Bytes.{packets_of}
use Rattle.packets.specs.Decoded.{codes_from}
use Rattle.packets.proofs.Codes.{codes_five}
use Rattle.packets.proofs.Behind.{begun-start}
use Rattle.byte_runs.proofs.Blocks.{six_parts, two_more, begun_more, front-is, fives-count}
use Rattle.byte_runs.proofs.unpacking.put_sixes.Goals as goal

pub loop-i-init : goal.loop-i-init
loop-i-init c = record { fours = refl; twos = refl; codes = λ j h. absurd (let z : ⊥ = omega arith in z) }

pub loop-i-preserved : goal.loop-i-preserved
loop-i-preserved c =
    let a = c.args in
    let l = c.loop-i in
    let ps = packets_of a.block.now in
    let p = c.packet_at-packet in
    let x = c.first_four in
    let y = c.last_two in
    let five = ap is_five_bit p.ensures ∙ c.requires.all_of l.i (omega arith) in
    record {
      fours = simp length-set l.invariant.fours;
      twos = simp length-set l.invariant.twos;
      codes =
          two_more ps l.i p.result p.ensures x.result y.result l.fours l.twos l.invariant.codes (omega (arith, l.invariant.fours)) (omega (arith, l.invariant.twos))
          (six_parts p.result x.result y.result x.ensures y.ensures ∙ sym (codes_five p.result five));
    }

pub loop-j-init : goal.loop-j-init
loop-j-init c = begun-start (packets_of c.args.block.now) 0 c.args.at (c.args.at + 96) c.args.out.now

pub loop-j-preserved : goal.loop-j-preserved
loop-j-preserved c =
    let a = c.args in
    let l = c.loop-i in
    let m = c.loop-j in
    let ps = packets_of a.block.now in
    let n = fives-count ps 16 m.j c.requires.all_of (omega arith) in
    rw c.put_six.ensures
    (begun_more ps m.j a.at (a.at + 6 * m.j) (a.at + 96) a.out.now m.out _ m.invariant (omega arith) (front-is _ _ (l.invariant.codes m.j (omega arith)))
    (omega arith) c.requires.in_bounds.1)

pub returns : goal.returns
returns c =
    let a = c.args in
    let m = c.loop-j in
    let ps = packets_of a.block.now in
    let n : m.j ≡ 16 = omega arith in
    begun-whole a.at (a.at + 96) (codes_from ps 0 16) a.out.now m.out (omega (arith, fives-count ps 16 16 c.requires.all_of (omega arith)))
    (rw (← n) m.invariant)
