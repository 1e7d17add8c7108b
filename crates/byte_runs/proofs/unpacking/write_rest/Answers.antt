-- `byte_runs::unpacking::write_rest`: the codes written so far, and the residues of the last packet. Assumes nothing.
use mathlib.Core.Path.{◌≡◌, refl, ap, ◌∙◌}
use Prim.Native.Nat.{ℕ, ◌+◌, ◌-◌, ◌<◌}
use native.Mathlib.Omega.{arith}
use lib.ListN.{length, drop, get_or}
use Rattle.fields.specs.Number.{little}
use Rattle.packets.specs.Runs.{residues, unpacked}
use Rattle.packets.specs.Bytes.{packets_of}
use Rattle.packets.proofs.Bytes.{length-packets}
use Rattle.packets.proofs.Behind.{begun-start, none_yet, behind-room, behind_more, behind-count, last-room, behind-last}
use Rattle.packets.proofs.Codes.{residues_put_lem}
use Rattle.byte_runs.proofs.unpacking.write_rest.Goals as goal

pub packet_at-requires-2 : goal.packet_at-requires-2
packet_at-requires-2 c = omega (arith, c.requires.bytes_value.1, length-packets little c.args.bytes.now)

pub overflow_sub-last : goal.overflow_sub-last
overflow_sub-last c = omega (arith, c.requires.bytes_value.1, length-packets little c.args.bytes.now)

pub loop-i-init : goal.loop-i-init
loop-i-init c =
    let a = c.args in
    let ps = packets_of a.bytes.now in
    let z : a.from - a.from ≡ 0 = omega arith in
    rw z
    (record {
      behind = omega (arith, none_yet ps a.from);
      codes = begun-start ps a.from a.place (a.place + length (unpacked (drop a.from ps))) a.out.now;
    })

pub put_one-at-requires : goal.put_one-at-requires
put_one-at-requires c =
    let a = c.args in
    let l = c.loop-i in
    let p = c.packet_at in
    let r = c.requires in
    let ps = packets_of a.bytes.now in
    let n = l.i - a.from in
    let here : a.from + n ≡ l.i = omega arith in
    let q : p.result ≡ get_or ps (a.from + n) 0 = p.ensures ∙ ap (λ (k : ℕ). get_or ps k 0) (omega arith) in
    omega (
      arith,
      r.bytes_in_bounds,
      behind-room a.alphabet ps r.bytes_value.0 a.from a.place a.out.now r.bytes_in_bounds n p.result l.at q l.invariant.behind l.out
          l.invariant.codes (omega (arith, length-packets little a.bytes.now)),
    )

pub loop-i-preserved : goal.loop-i-preserved
loop-i-preserved c =
    let a = c.args in
    let l = c.loop-i in
    let p = c.packet_at in
    let r = c.requires in
    let ps = packets_of a.bytes.now in
    let n = l.i - a.from in
    let q : p.result ≡ get_or ps (a.from + n) 0 = p.ensures ∙ ap (λ (k : ℕ). get_or ps k 0) (omega arith) in
    let next : l.i + 1 - a.from ≡ n + 1 = omega arith in
    let more : a.from + n + 1 < length ps = omega (arith, length-packets little a.bytes.now) in
    rw next
    (record {
      behind =
          c.put_one-at.ensures.behind
          ∙ omega (
            arith,
            l.invariant.behind,
            behind-count a.alphabet ps r.bytes_value.0 a.from a.place a.out.now r.bytes_in_bounds n p.result l.at q l.invariant.behind l.out
                l.invariant.codes,
          );
      codes =
          rw c.put_one-at.ensures.codes
          (behind_more a.alphabet ps r.bytes_value.0 a.from a.place a.out.now r.bytes_in_bounds n p.result l.at q l.invariant.behind l.out
          l.invariant.codes more);
    })

pub returns : goal.returns
returns c =
    let a = c.args in
    let l = c.loop-i in
    let p = c.packet_at-2 in
    let r = c.requires in
    let ps = packets_of a.bytes.now in
    let n = l.i - a.from in
    let q : p.result ≡ get_or ps (a.from + n) 0 = p.ensures ∙ ap (λ (k : ℕ). get_or ps k 0) (omega (arith, r.bytes_value.1, length-packets little a.bytes.now)) in
    let last : a.from + n + 1 ≡ length ps = omega (arith, r.bytes_value.1, length-packets little a.bytes.now) in
    c.decode.ensures
    ∙ residues_put_lem p.result l.at l.out (residues p.result) refl
    (omega (
      arith,
      r.bytes_in_bounds,
      last-room a.alphabet ps r.bytes_value.0 a.from a.place a.out.now r.bytes_in_bounds n p.result l.at q l.invariant.behind l.out l.invariant.codes last,
    ))
    ∙ behind-last a.alphabet ps r.bytes_value.0 a.from a.place a.out.now r.bytes_in_bounds n p.result l.at q l.invariant.behind l.out l.invariant.codes last
