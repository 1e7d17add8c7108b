-- `nucleotides::table::put_pieces`: the scan goes on, and a piece adds its entry behind the others. Assumes nothing.
use mathlib.Core.Path.{◌≡◌}
use Prim.Native.Nat.{◌-◌, ◌≤◌}
use lib.ListN.{length, take}
use Rattle.laws.specs.Writing.{written_at}
use Rattle.nucleotides.specs.Pieces.{bytes_of, limit_of, pieces_from}
use Rattle.nucleotides.specs.Table.{entry_bytes}
use Rattle.nucleotides.specs.Scan.{Met}
use Rattle.nucleotides.proofs.table.put_pieces.Given as goal

abbrev pub invariant-loop-k : goal.invariant-loop-k
invariant-loop-k l =
    (l.n ≤ l.k)
    × Met (limit_of l.width) l.codes l.from l.n l.k
    × (length l.out ≡ length l.initial.out)
    × (l.out ≡ written_at l.at (entry_bytes (bytes_of l.width) (take l.n (pieces_from (limit_of l.width) l.codes l.from))) l.initial.out)

abbrev pub decreases-loop-k : goal.decreases-loop-k
decreases-loop-k l = l.end - l.k
