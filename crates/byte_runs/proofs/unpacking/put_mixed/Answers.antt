-- `byte_runs::unpacking::put_mixed`: the codes of the packets so far. Assumes nothing.
use mathlib.Core.Path.{◌≡◌, refl, ◌∙◌}
use mathlib.Core.List.{[]}
use native.Mathlib.Omega.{arith}
use Prim.Native.Nat.{◌+◌, ◌<◌, ◌≤◌}
use lib.ListN.{length, get_or}
use Rattle.std.proofs.Common.{rules}
use Rattle.packets.specs.Bytes.{bytes_of}
use Rattle.packets.specs.Runs.{codes_in}
use Rattle.packets.specs.Decoded.{codes_from}
use Rattle.packets.proofs.Bytes.{length-bytes}
use Rattle.packets.proofs.Behind.{begun-start, none_yet}
use Rattle.packets.proofs.Codes.{codes-count}
use Rattle.byte_runs.specs.Blocks.{FrontOfFour}
use Rattle.byte_runs.proofs.Blocks.{begun_more, codes-within, count_next}
use Rattle.byte_runs.proofs.Packed.{part_put, part_long}
use Rattle.byte_runs.proofs.Made.{made_each}
use Rattle.byte_runs.proofs.unpacking.put_mixed.Goals as goal

pub loop-j-init : goal.loop-j-init
loop-j-init c =
    let a = c.args in
    let ps = a.packets.now in
    record {
      behind = omega (arith, none_yet ps 0);
      codes = begun-start ps 0 a.place (a.place + length (codes_from ps 0 16) + 10) a.out.now;
    }

pub put_packets-requires : goal.put_packets-requires
put_packets-requires c =
    let m = c.loop-j in
    let ps = c.args.packets.now in
    let h : m.j < 16 = omega arith in
    (omega arith, part_long m.at 16 m.out (omega (arith, c.requires, codes-within ps m.j 16 h, codes-count (get_or ps m.j 0))))

pub overflow_add-at : goal.overflow_add-at
overflow_add-at c =
    let ps = c.args.packets.now in
    let h : c.loop-j.j < 16 = omega arith in
    omega (arith, c.requires, codes-within ps c.loop-j.j 16 h)

pub loop-j-preserved : goal.loop-j-preserved
loop-j-preserved c =
    let a = c.args in
    let m = c.loop-j in
    let ps = a.packets.now in
    let r = m.invariant in
    let f : FrontOfFour (codes_in (get_or ps m.j 0)) (get_or c.from_fn-codes.result m.j []) =
    made_each _ (λ s. s.0.now ≡ ps) (λ i y. FrontOfFour (codes_in (get_or ps i 0)) y) 16 (λ p q i y h s k. search rules) [] _ c.from_fn-codes.result refl
    c.from_fn-codes.ensures.items m.j (omega arith) in
    let zs = bytes_of (get_or c.from_fn-codes.result m.j []) in
    let l : length zs ≡ 16 = length-bytes (get_or c.from_fn-codes.result m.j []) ∙ omega (arith, f.four) in
    let end = a.place + length (codes_from ps 0 16) + 10 in
    let low : m.at + 16 ≤ end = omega (arith, codes-within ps m.j 16 (omega arith), codes-count (get_or ps m.j 0)) in
    record {
      behind = omega (arith, count_next ps m.j);
      codes =
          rw (part_put m.at m.out c.put_packets.new.out zs c.put_packets.ensures (omega (arith, c.requires)))
          (begun_more ps m.j a.place m.at end a.out.now m.out zs r.codes r.behind f.front (omega arith) c.requires);
    }
