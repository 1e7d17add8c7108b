-- `sequence::bases::sixteen_codes`: the codes of the bytes passed stand in front. Assumes nothing.
use mathlib.Core.Path.{ap, ◌∙◌}
use native.Mathlib.Omega.{arith}
use Prim.Native.Nat.{ℕ}
use lib.ListN.{length-set}
use Rattle.residues.specs.Tables.{protein_code}
use Rattle.sequence.specs.Sequence.{byte_from}
use Rattle.sequence.proofs.Blocks.{begins-next}
use Rattle.sequence.proofs.Parts.{from_first}
use Rattle.sequence.proofs.bases.sixteen_codes.Goals as goal

pub loop-i-preserved : goal.loop-i-preserved
loop-i-preserved c =
    let l = c.loop-i in
    let block = c.args.block.now in
    let f : ℕ → ℕ = λ i. protein_code (byte_from block 0 i) in (
      simp length-set l.invariant.0,
      begins-next f l.i _ l.codes (omega arith) (c.protein_code.ensures ∙ ap protein_code (from_first block l.i)) l.invariant.1,
    )
