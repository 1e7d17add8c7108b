-- `packets::is_final`: the codes of a last packet. Assumes nothing.
use mathlib.Core.Path.{sym, ◌∙◌}
use Prim.Native.Nat.{◌≤◌}
use native.Mathlib.Omega.{arith}
use Rattle.residues.specs.Alphabets.{code_limit}
use Rattle.residues.proofs.Alphabets.{limit_most}
use Rattle.packets.proofs.Codes.{final_five}
use Rattle.packets.proofs.is_final.Goals as goal

pub valid_tailed-requires : goal.valid_tailed-requires
valid_tailed-requires c = let m : code_limit c.args.alphabet ≤ 31 = omega (arith, limit_most c.args.alphabet) in rw c.code_limit.ensures m

pub returns-then-is_five_bit : goal.returns-then-is_five_bit
returns-then-is_five_bit c =
    let a = c.args in
    c.valid_tailed.ensures
    ∙ rw (c.five_bit_codes.ensures, c.code_limit.ensures)
    (sym (final_five a.alphabet a.packet (sym c.ends_run.ensures ∙ c.if-ends_run.true) (sym c.is_five_bit.ensures ∙ c.if-is_five_bit.true)))
