-- `sequence::bases::protein_code`: the byte less 2, mended, is its code. Assumes nothing.
use native.Mathlib.Omega.{arith}
use Rattle.sequence.proofs.Blocks.{code_mended}
use Rattle.sequence.proofs.bases.protein_code.Goals as goal

pub returns : goal.returns
returns c = omega (arith, code_mended c.args.byte (omega arith))
