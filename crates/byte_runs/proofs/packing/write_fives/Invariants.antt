-- `byte_runs::packing::write_fives`: the packets written so far; a block writes behind them, or some of them again. Assumes nothing.
use mathlib.Core.Path.{◌≡◌}
use Prim.Native.Nat.{◌*◌, min}
use lib.ListN.{take}
use Rattle.laws.specs.Writing.{written_at}
use Rattle.packets.specs.Bytes.{bytes_of}
use Rattle.byte_runs.specs.Packed.{fives}
use Rattle.byte_runs.proofs.packing.write_fives.Given as goal

abbrev pub invariant-loop-block : goal.invariant-loop-block
invariant-loop-block l = l.out ≡ written_at 0 (bytes_of (take (min (16 * l.block) l.count) (fives l.codes l.count))) l.initial.out
