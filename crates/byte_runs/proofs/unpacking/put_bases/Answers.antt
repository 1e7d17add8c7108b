-- `byte_runs::unpacking::put_bases`: the codes of the packets so far. Assumes nothing.
use mathlib.Core.Path.{◌≡◌, refl, ◌∙◌}
use mathlib.Core.List.{[]}
use native.Mathlib.Omega.{arith}
use Prim.Native.Nat.{◌+◌, ◌*◌}
use lib.ListN.{length, get_or}
use Rattle.std.proofs.Common.{rules}
use Rattle.packets.specs.Bytes.{bytes_of}
use Rattle.laws.specs.Digits.{digits}
use Rattle.packets.specs.Runs.{codes_in}
use Rattle.packets.proofs.Codes.{codes_two}
use Rattle.packets.proofs.Behind.{begun-start}
use Rattle.byte_runs.specs.Blocks.{FrontOfFour}
use Rattle.byte_runs.proofs.Blocks.{begun_more, twos-count}
use Rattle.byte_runs.proofs.Packed.{part_put}
use Rattle.packets.proofs.Bytes.{length-bytes}
use Rattle.byte_runs.proofs.Made.{made_each}
use Rattle.byte_runs.proofs.unpacking.put_bases.Goals as goal

pub loop-j-init : goal.loop-j-init
loop-j-init c = begun-start c.args.packets.now 0 c.args.at (c.args.at + 241) c.args.out.now

pub loop-j-preserved : goal.loop-j-preserved
loop-j-preserved c =
    let a = c.args in
    let m = c.loop-j in
    let ps = a.packets.now in
    let n = twos-count ps 16 m.j c.requires.all_of (omega arith) in
    let t = codes_two (get_or ps m.j 0) (c.requires.all_of m.j (omega arith)) in
    let f : FrontOfFour (codes_in (get_or ps m.j 0)) (get_or c.from_fn-codes.result m.j []) =
    rw t
    (made_each _ (λ s. s.0.now ≡ ps) (λ i y. FrontOfFour (digits 2 15 (get_or ps i 0)) y) 16 (λ p q i y h s k. search rules) [] _ c.from_fn-codes.result refl
    c.from_fn-codes.ensures.items m.j (omega arith)) in
    let zs = bytes_of (get_or c.from_fn-codes.result m.j []) in
    let l : length zs ≡ 16 = length-bytes (get_or c.from_fn-codes.result m.j []) ∙ omega (arith, f.four) in
    rw (part_put (a.at + 15 * m.j) m.out c.put_packets.new.out zs c.put_packets.ensures (omega (arith, c.requires.in_bounds)))
    (begun_more ps m.j a.at (a.at + 15 * m.j) (a.at + 241) a.out.now m.out zs m.invariant (omega arith) f.front (omega arith) c.requires.in_bounds)

pub returns : goal.returns
returns c = let n : c.loop-j.j ≡ 16 = omega arith in rw (← n) c.loop-j.invariant
