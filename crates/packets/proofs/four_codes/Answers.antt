-- `packets::four_codes`: a product and a mask. Assumes nothing.
use Prim.Native.Nat.{◌*◌, ◌/◌}
use native.Mathlib.Omega.{arith}
use lib.Bits.{and_le_r}
use Rattle.packets.proofs.Fours.{four_codes}
use Rattle.packets.proofs.four_codes.Goals as goal

pub overflow_cast-result : goal.overflow_cast-result
overflow_cast-result c = omega (arith, and_le_r (c.args.byte * 0x100401004 / 256) 0x03030303)

pub returns : goal.returns
returns c = record { codes = four_codes c.args.byte (c.requires) }
