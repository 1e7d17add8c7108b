-- `sequence::corrections::correct`: the corrections passed are written over the output. Assumes nothing.
use mathlib.Core.Path.{◌≡◌}
use Rattle.sequence.specs.Corrections.{corrections_at, corrected}
use Rattle.sequence.specs.Tabled.{width_bytes}
use Rattle.sequence.proofs.corrections.correct.Given as goal

abbrev pub invariant-loop-j : goal.invariant-loop-j
invariant-loop-j l = l.out ≡ corrected (corrections_at l.sequence l.entries.start (width_bytes l.entries.width) l.j) l.initial.out
