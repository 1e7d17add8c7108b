-- `sequence::bases::are_proteins`: no byte is above the largest protein byte exactly where the largest is not. Assumes nothing.
use lib.Dec.{leb}
use lib.ListN.{get_or, length}
use mathlib.Core.Bool.{Bool}
use mathlib.Core.Path.{sym, ap, ◌∙◌}
use Prim.Native.Nat.{ℕ}
use Rattle.laws.proofs.Largest.{every-most}
use Rattle.laws.proofs.Places.{every-same}
use Rattle.sequence.specs.Sequence.{is_protein_byte, most_protein_byte}
use Rattle.sequence.proofs.Parts.{from_first}
use Rattle.sequence.proofs.bases.are_proteins.Goals as goal

pub returns : goal.returns
returns c =
    let bytes = c.args.bytes.now in
    let byte : ℕ → ℕ = λ k. get_or bytes k 0 in
    let test : ℕ → Bool = λ b. leb b most_protein_byte in
    ap test c.largest_code.ensures
    ∙ sym (every-most byte most_protein_byte (length bytes))
    ∙ every-same (λ k. test (byte k)) (is_protein_byte bytes 0) (length bytes) (λ k h. ap test (from_first bytes k))
