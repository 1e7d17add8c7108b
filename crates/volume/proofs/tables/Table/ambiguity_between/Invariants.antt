-- `volume::tables::Table::ambiguity_between`: the loop keeps S[i] and whether every step passed has kept the rule. Assumes nothing.
use mathlib.Core.Path.{◌≡◌}
use Rattle.laws.specs.Places.{every}
use Rattle.volume.specs.Tables.{offset_at, ambiguity_between}
use Rattle.volume.proofs.tables.Table.ambiguity_between.Given as goal

abbrev pub invariant-loop-i : goal.invariant-loop-i
invariant-loop-i l = (l.low ≡ offset_at l.self.index.now l.self.start l.i) × (l.good ≡ every (ambiguity_between l.self.index.now l.self.start l.ends.start) l.i)
