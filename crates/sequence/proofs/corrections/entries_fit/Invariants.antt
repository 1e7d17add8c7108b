-- `sequence::corrections::entries_fit`: each entry passed fits, and `low` is the end of the last. Assumes nothing.
use mathlib.Core.Path.{◌≡◌}
use mathlib.Core.Bool.{true}
use Rattle.laws.specs.Places.{every}
use Rattle.sequence.specs.Corrections.{end_before, entry_fits}
use Rattle.sequence.specs.Tabled.{width_bytes}
use Rattle.sequence.proofs.corrections.entries_fit.Given as goal

abbrev pub invariant-loop-j : goal.invariant-loop-j
invariant-loop-j l = (l.low ≡ end_before l.sequence l.entries.start (width_bytes l.entries.width) l.j) × (every (entry_fits l.sequence l.entries.start (width_bytes l.entries.width) l.l) l.j ≡ true)
