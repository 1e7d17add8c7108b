-- `packets::decode`: by bit 30. Assumes nothing.
use mathlib.Core.Path.{◌≡◌, sym, ◌∙◌}
use lib.ListN.{length}
use native.Mathlib.Omega.{arith}
use Rattle.laws.specs.Digits.{digits}
use Rattle.packets.specs.Runs.{before_fill}
use Rattle.laws.proofs.Digits.{length_digits}
use Rattle.packets.proofs.Codes.{before_le, before_while, residues_put_five, residues_put_two}
use Rattle.packets.proofs.decode.Goals as goal

pub put_first-requires : goal.put_first-requires
put_first-requires c =
    let d = digits 5 6 c.args.packet in
    let n : c.count_before.result ≡ length (before_fill d) = c.count_before.ensures ∙ rw c.five_bit_codes.ensures (before_while d) in
    omega (arith, before_le d, length_digits 5 6 c.args.packet)

pub returns-then-is_five_bit : goal.returns-then-is_five_bit
returns-then-is_five_bit c =
    let a = c.args in
    let d = digits 5 6 a.packet in
    let n : c.count_before.result ≡ length (before_fill d) = c.count_before.ensures ∙ rw c.five_bit_codes.ensures (before_while d) in
    c.put_first.ensures ∙ residues_put_five a.packet a.at a.out.now c.count_before.result (sym c.is_five_bit.ensures ∙ c.if-is_five_bit.true) n

pub returns-else-is_five_bit : goal.returns-else-is_five_bit
returns-else-is_five_bit c =
    let a = c.args in
    c.put_two_bit.ensures ∙ residues_put_two a.packet a.at a.out.now (sym c.is_five_bit.ensures ∙ c.if-is_five_bit.false)
