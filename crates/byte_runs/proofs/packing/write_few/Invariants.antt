-- `byte_runs::packing::write_few`: the packets written so far. Assumes nothing.
use mathlib.Core.Path.{◌≡◌}
use lib.ListN.{take}
use Rattle.laws.specs.Writing.{written_at}
use Rattle.packets.specs.Bytes.{bytes_of}
use Rattle.byte_runs.specs.Packed.{fives}
use Rattle.byte_runs.proofs.packing.write_few.Given as goal

abbrev pub invariant-loop-i : goal.invariant-loop-i
invariant-loop-i l = l.out ≡ written_at 0 (bytes_of (take l.i (fives l.codes l.count))) l.initial.out
