-- `nucleotides::two_bit::last_byte`: three bases, none behind them, and how many codes they are. Assumes nothing.
use mathlib.Core.Path.{ap, sym, ◌∙◌}
use native.Mathlib.Omega.{arith}
use Prim.Native.Nat.{ℕ, ◌+◌, ◌*◌, ◌/◌, ◌%◌}
use lib.ListN.{length}
use Rattle.nucleotides.proofs.Packing.{byte_of, behind-zero, last-small}
use Rattle.nucleotides.proofs.two_bit.last_byte.Goals as goal

pub overflow_add-result : goal.overflow_add-result
overflow_add-result c =
    let n = length c.args.codes.now % 4 in
    let a = c.base_at-a in
    let b = c.base_at-b in
    let d = c.base_at-c in
    let s = last-small a.result b.result d.result n a.ensures.small b.ensures.small d.ensures.small (omega arith) in
    let e = c.joined.ensures in
    record { fits = omega arith }

pub returns : goal.returns
returns c =
    let given_args = c.args in
    let base-at = c.base_at-a in
    let base-at2 = c.base_at-b in
    let base-at3 = c.base_at-c in
    let cs = given_args.codes.now in
    let m = length cs / 4 in
    let behind = sym (behind-zero cs (4 * m + 3) (omega arith)) in
    ap (λ (x : ℕ). x + length cs % 4)
    (c.joined.ensures ∙ byte_of cs m base-at.ensures.value base-at2.ensures.value base-at3.ensures.value behind)
