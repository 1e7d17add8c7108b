-- `runs::write_residues`: the codes written so far, and the residues of the last packet. Assumes nothing.
use mathlib.Core.Path.{◌≡◌, refl, ◌∙◌}
use Prim.Native.Nat.{◌+◌, ◌-◌, ◌≤◌}
use native.Mathlib.Nat.{zero-add}
use native.Mathlib.Omega.{arith}
use lib.ListN.{length, take, drop, get_or}
use lib.Seq.{length-take-le, get_or-take}
use Rattle.packets.specs.Runs.{codes_in, residues, unpacked}
use Rattle.packets.proofs.Behind.{begun-start, none_yet, behind-room, behind_more, behind-count, last-room, behind-last}
use Rattle.packets.proofs.Codes.{codes_put_lem, residues_put_lem}
use Rattle.packets.proofs.Shapes.{well_some}
use Rattle.runs.proofs.write_residues.Goals as goal

pub overflow_sub-last : goal.overflow_sub-last
overflow_sub-last c = omega (arith, well_some c.args.alphabet _ c.requires.0)

pub bounds-source-last : goal.bounds-source-last
bounds-source-last c = omega (arith, well_some c.args.alphabet _ c.requires.0)

pub loop-packet-init : goal.loop-packet-init
loop-packet-init c =
    let ps = c.args.source.now in
    (omega (arith, none_yet ps 0), begun-start ps 0 0 _ c.args.out.now)

pub overflow_add-at : goal.overflow_add-at
overflow_add-at c =
    let a = c.args in
    let l = c.loop-packet in
    let ps = a.source.now in
    let i = l.packet-index in
    let n : length (take (length ps - 1) ps) ≡ length ps - 1 = length-take-le _ ps (omega arith) in
    let p = get_or (take (length ps - 1) ps) i 0 in
    let room : 0 + length (unpacked (drop 0 ps)) ≤ length a.out.now = rw zero-add c.requires.1 in
    let here : p ≡ get_or ps (0 + i) 0 = get_or-take _ ps i 0 (omega arith) ∙ rw zero-add in
    omega (
      arith,
      c.code_count-at.ensures,
      c.requires.1,
      behind-room a.alphabet ps c.requires.0 0 0 a.out.now room i p l.at here l.invariant.0 l.out l.invariant.1 (omega arith),
    )

pub loop-packet-preserved : goal.loop-packet-preserved
loop-packet-preserved c =
    let a = c.args in
    let l = c.loop-packet in
    let ps = a.source.now in
    let i = l.packet-index in
    let n : length (take (length ps - 1) ps) ≡ length ps - 1 = length-take-le _ ps (omega arith) in
    let p = get_or (take (length ps - 1) ps) i 0 in
    let room : 0 + length (unpacked (drop 0 ps)) ≤ length a.out.now = rw zero-add c.requires.1 in
    let here : p ≡ get_or ps (0 + i) 0 = get_or-take _ ps i 0 (omega arith) ∙ rw zero-add in
    let r = behind-room a.alphabet ps c.requires.0 0 0 a.out.now room i p l.at here l.invariant.0 l.out l.invariant.1 (omega arith) in (
      omega (
        arith,
        c.code_count-at.ensures,
        l.invariant.0,
        behind-count a.alphabet ps c.requires.0 0 0 a.out.now room i p l.at here l.invariant.0 l.out l.invariant.1,
      ),
      rw (c.decode_codes.ensures ∙ codes_put_lem p l.at l.out (codes_in p) refl (omega (arith, l.invariant.1.size)))
          (behind_more a.alphabet ps c.requires.0 0 0 a.out.now room i p l.at here l.invariant.0 l.out l.invariant.1 (omega arith)),
    )

pub returns : goal.returns
returns c =
    let a = c.args in
    let l = c.loop-packet in
    let ps = a.source.now in
    let i = l.packet-index in
    let p = get_or ps (length ps - 1) 0 in
    let n : length (take (length ps - 1) ps) ≡ length ps - 1 = length-take-le _ ps (omega arith) in
    let e : i ≡ length ps - 1 = omega arith in
    let room : 0 + length (unpacked (drop 0 ps)) ≤ length a.out.now = rw zero-add c.requires.1 in
    let here : p ≡ get_or ps (0 + i) 0 = rw (zero-add, e) in
    let h : 0 + i + 1 ≡ length ps = omega (arith, well_some a.alphabet ps c.requires.0) in
    let r = last-room a.alphabet ps c.requires.0 0 0 a.out.now room i p l.at here l.invariant.0 l.out l.invariant.1 h in
    c.decode.ensures
    ∙ residues_put_lem p l.at l.out (residues p) refl (omega (arith, l.invariant.1.size))
    ∙ behind-last a.alphabet ps c.requires.0 0 0 a.out.now room i p l.at here l.invariant.0 l.out l.invariant.1 h
