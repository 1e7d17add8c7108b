-- `nucleotides::two_bit::write_plain`: one byte more each turn; a base stands for itself. Assumes nothing.
use mathlib.Core.Path.{◌≡◌, sym, ◌∙◌}
use Prim.Native.Nat.{ℕ, ◌+◌, ◌*◌, ◌<◌}
use native.Mathlib.Omega.{arith}
use lib.ListN.{length, length-set}
use Rattle.sequence.proofs.Blocks.{begins-next, all_stored}
use Rattle.nucleotides.specs.TwoBit.{placeholder_at, two_bit_byte}
use Rattle.nucleotides.specs.Scan.{code_at}
use Rattle.nucleotides.proofs.Packing.{placeholder-plain, byte_of}
use Rattle.nucleotides.proofs.two_bit.write_plain.Goals as goal

pub loop-j-preserved : goal.loop-j-preserved
loop-j-preserved c =
    let codes = c.args.codes.now in
    let l = c.loop-j in
    let k = 4 * l.j in
    let size = c.requires.four_to_a_byte in
    let base : (i : ℕ) → i < length codes → code_at codes i ≡ placeholder_at codes i =
    λ i h. sym (placeholder-plain (code_at codes i) (c.requires.by_index i h)) in
    let byte = c.packed.ensures
    ∙ byte_of codes l.j (base k (omega (arith, size))) (base (k + 1) (omega (arith, size))) (base (k + 2) (omega (arith, size)))
    (base (k + 3) (omega (arith, size))) in
    (simp length-set l.invariant.0, begins-next (two_bit_byte codes) l.j _ l.out (omega (arith, l.invariant.0)) byte l.invariant.1)

pub returns : goal.returns
returns c =
    let l = c.loop-j in
    let n = length c.args.out.now in
    let e : l.j ≡ n = omega arith in
    (rw e at l.invariant.1) ∙ all_stored (two_bit_byte c.args.codes.now) n l.out l.invariant.0
