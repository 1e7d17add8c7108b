-- `packets::five_bit_codes`: digit by digit. Assumes nothing.
use mathlib.Core.Path.{sym}
use Rattle.packets.proofs.Codes.{five_codes}
use Rattle.packets.proofs.five_bit_codes.Goals as goal

pub returns : goal.returns
returns c = rw (c.code_at.ensures, c.code_at-2.ensures, c.code_at-3.ensures, c.code_at-4.ensures, c.code_at-5.ensures, c.code_at-6.ensures) (sym (five_codes c.args.packet))
