-- `nucleotides::two_bit::write_plain`: one byte more each turn; a base stands for itself. Assumes nothing.
use mathlib.Core.Path.{◌≡◌}
use lib.ListN.{length}
use Rattle.laws.specs.Places.{list_to}
use Rattle.laws.specs.Writing.{written_at}
use Rattle.nucleotides.specs.TwoBit.{two_bit_byte}
use Rattle.nucleotides.proofs.two_bit.write_plain.Given as goal

abbrev pub invariant-loop-j : goal.invariant-loop-j
invariant-loop-j l = (length l.out ≡ length l.initial.out) × (l.out ≡ written_at 0 (list_to (two_bit_byte l.codes) l.j) l.out)
