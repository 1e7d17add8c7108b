-- `nucleotides::two_bit::joined`: four digits of two bits. Assumes nothing.
use native.Mathlib.Omega.{arith}
use Rattle.laws.specs.Digits.{value}
use Rattle.nucleotides.proofs.two_bit.joined.Goals as goal

pub returns : goal.returns
unfolding value
returns c = omega arith
