-- `sequence::table::write_eights`: each eight bytes are written behind those before; the last eight over some of them. Assumes nothing.
use mathlib.Core.Path.{sym, ap, ◌∙◌}
use Prim.Native.Nat.{ℕ, ◌-◌, ◌+◌, ◌*◌}
use native.Mathlib.Nat.{zero-add}
use native.Mathlib.Omega.{arith}
use lib.ListN.{length}
use Rattle.laws.specs.Writing.{written_at}
use Rattle.sequence.specs.Bases.{two_bit_residues}
use Rattle.sequence.proofs.BaseTable.{residues_stored}
use Rattle.sequence.proofs.table.write_eights.Goals as goal

pub loop-block-preserved : goal.loop-block-preserved
loop-block-preserved c =
    let a = c.args in
    let l = c.loop-block in
    let at = 8 * l.block in
    let next = c.put_eight.ensures ∙ ap (λ (k : ℕ). written_at (4 * at) (two_bit_residues a.bytes.now k 32) l.out) (sym (zero-add at)) in
    residues_stored a.bytes.now 0 0 at (32 * l.block) 32 (32 * (l.block + 1)) (4 * at) a.out.now l.out _ l.invariant next (omega arith) (omega arith)
    (omega arith) (omega arith) (omega (arith, c.requires.1))

pub returns : goal.returns
returns c =
    let a = c.args in
    let l = c.loop-block in
    let last = length a.bytes.now - 8 in
    let end = c.put_eight-2.ensures ∙ ap (λ (k : ℕ). written_at (4 * last) (two_bit_residues a.bytes.now k 32) l.out) (sym (zero-add last)) in
    residues_stored a.bytes.now 0 0 last (32 * l.block) 32 (4 * length a.bytes.now) (4 * last) a.out.now l.out _ l.invariant end (omega arith) (omega arith)
    (omega arith) (omega arith) (omega (arith, c.requires.1))
