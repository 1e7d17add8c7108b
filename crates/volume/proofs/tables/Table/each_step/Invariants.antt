-- `volume::tables::Table::each_step`: the loop keeps the offset before and whether every step passed has kept the test. Assumes nothing.
use mathlib.Core.Path.{◌≡◌}
use mathlib.Core.Bool.{Bool}
use Prim.Native.Nat.{ℕ}
use Rattle.laws.specs.Places.{every}
use Rattle.volume.specs.Tables.{offset_at, StepsTell}
use Rattle.volume.proofs.tables.Table.each_step.Given as goal

abbrev pub invariant-loop-i : goal.invariant-loop-i
invariant-loop-i g l = goal.F-IsAlwaysCallable g l.passes
    × (l.low ≡ offset_at l.self.index.now l.self.start l.i)
    × ((test : ℕ → Bool) → StepsTell (offset_at l.self.index.now l.self.start) (goal.F-post g l.passes) test l.i → l.good ≡ every test l.i)
