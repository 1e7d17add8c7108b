-- `sequence::bases::write_proteins`: each sixteen are written behind those before; the last sixteen over some of them. Assumes nothing.
use native.Mathlib.Omega.{arith}
use Prim.Native.Nat.{ℕ, ◌-◌, ◌+◌, ◌*◌}
use lib.ListN.{length}
use Rattle.residues.specs.Tables.{protein_code}
use Rattle.sequence.specs.Sequence.{byte_from}
use Rattle.sequence.proofs.Blocks.{block_stored}
use Rattle.sequence.proofs.bases.write_proteins.Goals as goal

pub loop-block-preserved : goal.loop-block-preserved
loop-block-preserved c =
    let residue : ℕ → ℕ = λ k. protein_code (byte_from c.args.bytes.now 0 k) in
    let l = c.loop-block in
    let k = 16 * l.block in
    block_stored residue 0 k k 16 (16 * (l.block + 1)) k c.args.out.now l.out _ l.invariant
    c.put_sixteen.ensures (omega arith) (omega arith) (omega arith) (omega arith) (omega (arith, c.requires.1))

pub returns : goal.returns
returns c =
    let residue : ℕ → ℕ = λ k. protein_code (byte_from c.args.bytes.now 0 k) in
    let l = c.loop-block in
    let n = length c.args.bytes.now in
    block_stored residue 0 (n - 16) (16 * l.block) 16 n (n - 16) c.args.out.now l.out _ l.invariant
    c.put_sixteen-2.ensures (omega arith) (omega arith) (omega arith) (omega arith) (omega (arith, c.requires.1))
