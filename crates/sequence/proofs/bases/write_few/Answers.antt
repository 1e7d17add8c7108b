-- `sequence::bases::write_few`: the codes of the bytes passed are written, and the rest of the output is as it was. Assumes nothing.
use mathlib.Core.Path.{ap, ◌∙◌}
use mathlib.Core.List.{List}
use native.Mathlib.Omega.{arith}
use Prim.Native.Nat.{ℕ}
use lib.ListN.{set}
use Rattle.laws.proofs.Storing.{store_front}
use Rattle.residues.specs.Tables.{protein_code}
use Rattle.sequence.specs.Sequence.{byte_from}
use Rattle.sequence.proofs.Parts.{from_first}
use Rattle.sequence.proofs.bases.write_few.Goals as goal

pub loop-k-preserved : goal.loop-k-preserved
loop-k-preserved c =
    let a = c.args in
    let l = c.loop-k in
    let f : ℕ → ℕ = λ k. protein_code (byte_from a.bytes.now 0 k) in
    ap (λ (o : List ℕ). set o l.k c.protein_code.result) l.invariant
    ∙ store_front f l.k _ a.out.now (omega arith) (c.protein_code.ensures ∙ ap protein_code (from_first a.bytes.now l.k))
