-- `sequence::bases::write_by_products`: the bases of the bytes passed are written, and the rest of the output is as it was. Assumes nothing.
use mathlib.Core.Path.{sym, ap, ◌∙◌}
use mathlib.Core.List.{List}
use native.Mathlib.Nat.{zero-add}
use native.Mathlib.Omega.{arith}
use Prim.Native.Nat.{ℕ, ◌*◌, ◌+◌}
use lib.ListN.{get_or, set}
use Rattle.sequence.specs.Bases.{bases_of}
use Rattle.sequence.proofs.FourBases.{four_stored}
use Rattle.sequence.proofs.bases.write_by_products.Goals as goal

pub loop-m-preserved : goal.loop-m-preserved
loop-m-preserved c =
    let a = c.args in
    let m = c.loop-m.m in
    let four = c.bases-four.result in
    let byte = ap (λ (i : ℕ). bases_of (get_or a.bytes.now i 0)) (sym (zero-add m)) in
    ap
    (λ (o : List ℕ). set (set (set (set o (4 * m) (get_or four 0 0)) (4 * m + 1) (get_or four 1 0)) (4 * m + 2) (get_or four 2 0)) (4 * m + 3) (get_or four 3 0))
    c.loop-m.invariant ∙ four_stored a.bytes.now 0 m four a.out.now (omega arith) (c.bases-four.ensures ∙ byte)
