-- `packets::valid_tailed`: the two counts are at most all codes, and are all where the definition holds. Assumes nothing.
use mathlib.Core.Path.{◌≡◌, ap, ap₂, ◌∙◌}
use Prim.Native.Nat.{ℕ, ◌+◌, ◌≤◌}
use native.Mathlib.Omega.{arith}
use lib.Dec.{eqb}
use lib.ListN.{length}
use Rattle.std.specs.Prelude.{◌==◌, nat_lt}
use Rattle.std.proofs.lemmas.List.Sums.{prefix_len-le-length, count_by-le-length}
use Rattle.packets.proofs.Codes.{tailed_counts}
use Rattle.packets.proofs.valid_tailed.Goals as goal

pub overflow_add-result : goal.overflow_add-result
overflow_add-result c =
    let codes = c.args.codes.now in
    let front = prefix_len-le-length (λ d. nat_lt d c.args.limit) codes in
    let fill = count_by-le-length (λ d. d == 31) codes in
    record { fits = omega (arith, front, fill, c.count_valid.ensures, c.count_fill.ensures, c.type_inv.codes) }

pub returns : goal.returns
returns c =
    let codes = c.args.codes.now in
    ap (λ (n : ℕ). eqb n (length codes)) (ap₂ ◌+◌ c.count_valid.ensures c.count_fill.ensures)
    ∙ tailed_counts c.args.limit c.requires codes
