-- `runs::write_run`: the packets written so far, and the run of the codes still to read. Assumes nothing.
use mathlib.Core.Path.{◌≡◌, refl, ap, ◌∙◌}
use mathlib.Core.List.{[], ◌∷◌}
use Prim.Native.Nat.{◌-◌, ◌<◌}
use native.Mathlib.Omega.{arith}
use lib.ListN.{length, take, drop, length-set, length-drop}
use Rattle.packets.specs.Packing.{packet, run}
use Rattle.packets.proofs.Packing.{run-some}
use Rattle.runs.proofs.Turns.{rest_ends, rest_goes, rest-less, rest_valid, rest_packet, store_goes, store_rest, store_count, store_ends}
use Rattle.runs.proofs.write_run.Goals as goal

pub bounds-buffer-count : goal.bounds-buffer-count
bounds-buffer-count c =
    let l = c.loop-rest in
    let whole = run c.args.alphabet c.args.codes.now in
    omega (arith, c.requires.1, l.invariant.1, length-drop l.count whole, ap length l.invariant.3, run-some c.args.alphabet l.rest.now)

pub offset_bounds-buffer-count : goal.offset_bounds-buffer-count
offset_bounds-buffer-count c =
    let l = c.loop-rest in
    let whole = run c.args.alphabet c.args.codes.now in
    let room : l.count < length l.buffer = omega (
      arith,
      c.requires.1,
      l.invariant.1,
      length-drop l.count whole,
      ap length l.invariant.3,
      run-some c.args.alphabet l.rest.now,
    ) in
    omega (arith, room, l.invariant.1)

pub returns-then-rest-next : goal.returns-then-rest-next
returns-then-rest-next c =
    let l = c.loop-rest in
    let whole = run c.args.alphabet c.args.codes.now in
    let p = c.encode-next.result.packet in
    let packed : p ≡ packet c.args.alphabet l.rest.now = rest_packet c.args.alphabet l.rest.now p l.invariant.4 c.encode-next.ensures.packet in
    let r : drop l.count whole ≡ p ∷ [] = l.invariant.3 ∙ rw packed (rest_ends c.args.alphabet l.rest.now _ c.encode-next.ensures.size c.if-rest-next.true) in
    record {
      count = store_count whole c.args.buffer.now l.count l.buffer l.invariant.2 p [] r c.requires.1 refl;
      packets = store_ends whole c.args.buffer.now l.count l.buffer l.invariant.2 p [] r c.requires.1 refl;
    }

pub loop-rest-smaller : goal.loop-rest-smaller
loop-rest-smaller c = rest-less c.args.alphabet c.loop-rest.rest.now _ c.encode-next.ensures.size c.if-rest-next.false

pub loop-rest-preserved : goal.loop-rest-preserved
loop-rest-preserved c =
    let l = c.loop-rest in
    let e = c.encode-next.ensures.size in
    let whole = run c.args.alphabet c.args.codes.now in
    let p = c.encode-next.result.packet in
    let s = c.encode-next.result.size in
    let more = run c.args.alphabet (take (length l.rest.now - s) (drop s l.rest.now)) in
    let packed : p ≡ packet c.args.alphabet l.rest.now = rest_packet c.args.alphabet l.rest.now p l.invariant.4 c.encode-next.ensures.packet in
    let r : drop l.count whole ≡ p ∷ more = l.invariant.3 ∙ rw packed (rest_goes c.args.alphabet l.rest.now s e c.if-rest-next.false) in (
      omega (arith, rest-less c.args.alphabet l.rest.now s e c.if-rest-next.false),
      simp length-set l.invariant.1,
      store_goes whole c.args.buffer.now l.count l.buffer l.invariant.2 p more r c.requires.1,
      store_rest whole c.args.buffer.now l.count l.buffer l.invariant.2 p more r c.requires.1,
      rest_valid c.args.alphabet l.rest.now s l.invariant.4,
    )
