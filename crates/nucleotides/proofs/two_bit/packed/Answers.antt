-- `nucleotides::two_bit::packed`: the product has the byte. Assumes nothing.
use Prim.Native.Nat.{◌*◌, ◌/◌, ◌%◌}
use mathlib.Core.Path.{ap, ◌∙◌}
use Prim.Native.Nat.{ℕ}
use Rattle.nucleotides.proofs.Packing.{four_packed}
use Rattle.nucleotides.proofs.two_bit.packed.Goals as goal

pub returns : goal.returns
returns c =
    let a = c.args in
    let h = c.requires in
    ap (λ (x : ℕ). x * 1074791425 / 16777216 % 256) c.word.ensures.value ∙ four_packed a.a a.b a.c a.d h.0 h.1 h.2 h.3
