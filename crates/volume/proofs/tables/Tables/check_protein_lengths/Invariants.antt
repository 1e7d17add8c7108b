-- `volume::tables::Tables::check_protein_lengths`: the loop keeps S[i], the sum and the largest of the lengths passed, and that every separator
-- passed is NUL. Assumes nothing.
use mathlib.Core.Path.{◌≡◌}
use mathlib.Core.Bool.{true}
use Prim.Native.Nat.{◌≤◌, ◌*◌}
use Rattle.laws.specs.Places.{every, sum_to, largest_to}
use Rattle.volume.specs.Tables.{sequence_start, protein_length}
use Rattle.volume.proofs.Named.{nul_behind}
use Rattle.volume.proofs.tables.Tables.check_protein_lengths.Given as goal

abbrev pub invariant-loop-i : goal.invariant-loop-i
invariant-loop-i l = (l.low ≡ sequence_start l.self.index.now l.i)
    × (l.sum ≡ sum_to (protein_length l.self.index.now) l.i)
    × (l.largest ≡ largest_to (protein_length l.self.index.now) l.i)
    × (l.sum ≤ l.i * 2147483648)
    × (every (nul_behind l.self.index.now l.sequence) l.i ≡ true)
