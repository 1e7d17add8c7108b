-- `byte_runs::packing::write_nucleic_run`: what is left, written behind what is written, is what was left before. Assumes nothing.
use mathlib.Core.Path.{◌≡◌, refl, sym, ap, ◌∙◌}
use mathlib.Core.List.{List, [], ◌∷◌}
use Prim.Native.Nat.{ℕ, ◌+◌, ◌*◌}
use native.Mathlib.Omega.{arith}
use lib.ListN.{length, drop, length-drop}
use Rattle.laws.specs.Writing.{written_at}
use Rattle.packets.specs.Packing.{run}
use Rattle.packets.specs.Bytes.{bytes_of}
use Rattle.packets.proofs.Packing.{size-some, run-some}
use Rattle.runs.proofs.Turns.{size_is, packet-is, run_ends, run_goes}
use Rattle.byte_runs.proofs.RunBegun.{begun-whole, begun-length, put_next, put_one_length}
use Rattle.byte_runs.proofs.packing.write_nucleic_run.Goals as goal

pub put_packet-requires : goal.put_packet-requires
put_packet-requires c = omega (
  arith,
  c.loop-count.invariant.3,
  run-some 1 (drop c.loop-count.at c.args.codes.now),
)

pub loop-count-init : goal.loop-count-init
loop-count-init c =
    let b = c.write_inner-count.ensures in
    let n = begun-length c.args.codes.now c.args.out.now _ _ _ b c.requires.1 in
    (b.0, refl, refl, omega (arith, n, b.2, c.requires.1), refl)

pub returns-then-left-size : goal.returns-then-left-size
returns-then-left-size c =
    let l = c.loop-count in
    let cs = c.args.codes.now in
    let s = c.encode-next.result.size in
    let p = c.encode-next.result.packet in
    let e = size_is 1 cs l.at s c.encode-next.ensures.size in
    let b = c.write_inner-count.ensures in
    let d = c.args.out.now in
    let f : run 1 (drop l.at cs) ≡ p ∷ [] = run_ends 1 cs l.at s e c.if-left-size.true ∙ ap (λ (x : ℕ). x ∷ []) (sym (packet-is 1 cs l.at p
    c.requires.0
    c.encode-next.ensures.packet)) in record {
      count = omega (
        arith,
        l.invariant.1,
        ap length f,
        begun-length cs d _ _ _ b
            c.requires.1,
      );
      bytes = c.put_packet.ensures ∙ (ap (λ (x : List ℕ). written_at (4 * l.count) (bytes_of x) l.out) (sym f) ∙
          (l.invariant.4 ∙ begun-whole cs d _ _ _ b
          c.requires.1));
    }

pub loop-count-smaller : goal.loop-count-smaller
loop-count-smaller c =
    let l = c.loop-count in
    let cs = c.args.codes.now in
    let s = c.encode-next.result.size in
    let p = c.encode-next.result.packet in
    let e = size_is 1 cs l.at s c.encode-next.ensures.size in
    omega (arith, e, size-some 1 (drop l.at cs) (omega (arith, length-drop l.at cs)))

pub loop-count-preserved : goal.loop-count-preserved
loop-count-preserved c =
    let l = c.loop-count in
    let cs = c.args.codes.now in
    let s = c.encode-next.result.size in
    let p = c.encode-next.result.packet in
    let e = size_is 1 cs l.at s c.encode-next.ensures.size in
    let f : run 1 (drop l.at cs) ≡ p ∷ run 1 (drop (l.at + s) cs) =
    run_goes 1 cs l.at s e c.if-left-size.false ∙ ap (λ (x : ℕ). x ∷ run 1 (drop (l.at + s) cs)) (sym (packet-is 1 cs l.at p
    c.requires.0
    c.encode-next.ensures.packet)) in
    let k : length (run 1 (drop l.at cs)) ≡ 1 + length (run 1 (drop (l.at + s) cs)) = ap length f ∙ omega arith in
    let n = put_one_length l.count p l.out _ c.put_packet.ensures (omega (arith, l.invariant.3, k)) in (
      omega arith,
      omega (arith, l.invariant.1, k),
      n ∙ l.invariant.2,
      omega (arith, l.invariant.3, k, n),
      ap (λ (x : List ℕ). written_at (4 * (l.count + 1)) (bytes_of (run 1 (drop (l.at + s) cs))) x) c.put_packet.ensures
          ∙ (put_next l.count p (run 1 (drop l.at cs)) (run 1 (drop (l.at + s) cs)) l.out f l.invariant.3 ∙ l.invariant.4),
    )
