-- `nucleotides::two_bit::placeholder`: the trailing zeros of the value, with bit 4 set above it. Assumes nothing.
use mathlib.Core.Path.{ap, ◌∙◌}
use Prim.Native.Nat.{ℕ, ◌+◌, ◌%◌}
use native.Mathlib.Omega.{arith}
use lib.Count.{count_trailing_zeros}
use Rattle.nucleotides.proofs.Packing.{placeholder-is}
use Rattle.nucleotides.proofs.two_bit.placeholder.Goals as goal

pub returns : goal.returns
returns c =
    record { value = ap (λ (v : ℕ). count_trailing_zeros 32 (v + 16) % 4) (c.from-v.ensures ∙ c.ambiguity_value.ensures) ∙ placeholder-is c.args.code; small = omega arith }
