-- `sequence::bases::write_bases`: behind the whole bytes, the residues passed of the last byte are written, and the rest of the output is as it was.
-- Assumes nothing.
use mathlib.Core.Path.{◌≡◌, sym, ap, ◌∙◌}
use mathlib.Core.List.{List}
use native.Mathlib.Nat.{zero-add}
use native.Mathlib.Omega.{arith}
use Prim.Native.Nat.{ℕ, ◌-◌, ◌*◌, ◌/◌}
use lib.ListN.{get_or, set, length, length-set, take}
use lib.Seq.{length-take-le}
use Rattle.laws.specs.Places.{list_to}
use Rattle.laws.specs.Writing.{written_at}
use Rattle.laws.proofs.Storing.{store_front}
use Rattle.sequence.specs.Bases.{bases_of, base_at, two_bit_residues}
use Rattle.sequence.proofs.FourBases.{base_is}
use Rattle.sequence.proofs.Parts.{front_bases}
use Rattle.sequence.proofs.bases.write_bases.Goals as goal

pub loop-k-preserved : goal.loop-k-preserved
loop-k-preserved c =
    let a = c.args in
    let l = c.loop-k in
    let s = a.bytes.now in
    let four = c.bases-four.result in
    let whole = a.l / 4 in
    let j = l.k - 4 * whole in
    let m = c.write_whole.auto.out in
    let byte = ap (λ (i : ℕ). bases_of (get_or s i 0)) (sym (zero-add whole)) in
    let b = ap (λ (x : List ℕ). get_or x j 0) (c.bases-four.ensures ∙ byte) ∙ base_is s 0 l.k whole j (omega (arith, l.auto)) (omega (arith, l.auto, c.loop-k-test.true)) in (
      simp length-set l.invariant.0,
      λ old h e.
          ap (λ (o : List ℕ). set o l.k (get_or four j 0)) (l.invariant.1 old h e)
          ∙ store_front (base_at s 0) l.k (get_or four j 0) old (omega (arith, m, h, c.loop-k-test.true)) b,
    )

pub returns : goal.returns
returns c =
    let a = c.args in
    let l = c.loop-k in
    let bytes = a.bytes.now in
    let whole = a.l / 4 in
    let count : length (take whole bytes) ≡ whole = length-take-le whole bytes (omega arith) in
    let before : c.write_whole.new.out ≡ written_at 0 (list_to (base_at bytes 0) (4 * whole)) a.out.now =
    c.write_whole.ensures
    ∙ ap (λ (n : ℕ). written_at 0 (two_bit_residues (take whole bytes) 0 (4 * n)) a.out.now) count
    ∙ ap (λ (x : List ℕ). written_at 0 x a.out.now) (front_bases bytes whole) in
    let e : l.k ≡ a.l = omega (arith, l.auto, c.loop-k-test.false) in
    rw (← e) (l.invariant.1 a.out.now (sym c.write_whole.auto.out) before)
