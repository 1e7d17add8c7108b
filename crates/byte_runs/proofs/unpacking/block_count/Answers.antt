-- `byte_runs::unpacking::block_count`: whole blocks of what is left of the packets. Assumes nothing.
use mathlib.Core.Path.{◌≡◌, sym, ◌∙◌}
use native.Mathlib.Omega.{arith}
use Rattle.byte_runs.specs.Blocks.{spare}
use Rattle.byte_runs.proofs.unpacking.block_count.Goals as goal

pub returns-then-is_amino : goal.returns-then-is_amino
returns-then-is_amino c =
    let s : spare c.args.alphabet ≡ 0 = rw (sym c.is_amino.ensures ∙ c.if-is_amino.true) in
    omega arith

pub returns-else-is_amino : goal.returns-else-is_amino
returns-else-is_amino c =
    let s : spare c.args.alphabet ≡ 2 = rw (sym c.is_amino.ensures ∙ c.if-is_amino.false) in
    omega arith
