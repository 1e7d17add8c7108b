-- `volume::tables::Tables::check_dna_lengths`: the loop keeps the sum and the largest of the lengths passed. Assumes nothing.
use mathlib.Core.Path.{◌≡◌}
use Prim.Native.Nat.{◌≤◌, ◌*◌}
use Rattle.laws.specs.Places.{sum_to, largest_to}
use Rattle.volume.specs.Tables.{dna_length}
use Rattle.volume.proofs.tables.Tables.check_dna_lengths.Given as goal

abbrev pub invariant-loop-i : goal.invariant-loop-i
invariant-loop-i l = (l.sum ≡ sum_to (dna_length l.self.index.now l.sequence) l.i)
    × (l.largest ≡ largest_to (dna_length l.self.index.now l.sequence) l.i)
    × (l.sum ≤ l.i * 8589934592)
