-- `byte_runs::unpacking::put_one`: six codes by two numbers, fifteen by the decoder of one packet. Assumes nothing.
use mathlib.Core.Path.{◌≡◌, refl, sym, ap, ◌∙◌}
use Prim.Native.Nat.{ℕ}
use native.Mathlib.Omega.{arith}
use mathlib.Core.List.{List}
use lib.ListN.{length}
use Rattle.laws.specs.Writing.{written_at}
use Rattle.packets.specs.Runs.{codes_in}
use Rattle.packets.proofs.Codes.{codes_five, codes_put_lem}
use Rattle.byte_runs.proofs.Blocks.{six_codes}
use Rattle.byte_runs.proofs.unpacking.put_one.Goals as goal

pub returns-then-count-eq6 : goal.returns-then-count-eq6
returns-then-count-eq6 c =
    let a = c.args in
    let n : length (codes_in a.packet) ≡ 6 = omega (arith, c.code_count-count.ensures) in
    record {
      behind = omega arith;
      codes =
          c.put_six.ensures
          ∙ ap (λ (l : List ℕ). written_at a.at l a.out.now) (c.six_codes.ensures ∙ sym (codes_five a.packet (six_codes a.packet n)));
    }

pub returns : goal.returns
returns c =
    let a = c.args in record {
      behind = omega (arith, c.code_count-count.ensures);
      codes = c.decode_codes.ensures ∙ codes_put_lem
          a.packet a.at a.out.now (codes_in a.packet) refl c.requires;
    }
