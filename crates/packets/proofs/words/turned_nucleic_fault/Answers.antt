-- `packets::words::turned_nucleic_fault`: the turned mask where bit 6 is set, and bit 7. Assumes nothing.
use Prim.Native.Nat.{◌/◌, ◌%◌}
use native.Mathlib.Omega.{arith}
use Rattle.packets.proofs.Faults.{masked_most}
use Rattle.packets.proofs.TurnedWords.{turned_fault}
use Rattle.packets.proofs.words.turned_nucleic_fault.Goals as goal

pub overflow_mul-result : goal.overflow_mul-result
overflow_mul-result c = let w = c.args.word in omega (arith, masked_most w 0x10420821 (w / 64 % 2) (omega arith))

pub returns : goal.returns
returns c = turned_fault c.args.word (omega arith)
