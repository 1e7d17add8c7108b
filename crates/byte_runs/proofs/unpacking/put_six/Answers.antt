-- `byte_runs::unpacking::put_six`: two numbers, one behind the other. Assumes nothing.
use mathlib.Core.Path.{ap, ◌∙◌}
use mathlib.Core.List.{List}
use Prim.Native.Nat.{ℕ, ◌+◌}
use native.Mathlib.Omega.{arith}
use Rattle.laws.specs.Writing.{written_at}
use Rattle.laws.proofs.Writing.{written_twice}
use Rattle.fields.specs.Written.{little_bytes}
use lib.ListN.{get_or}
use Rattle.byte_runs.proofs.unpacking.put_six.Goals as goal

pub returns : goal.returns
returns c =
    let a = c.args in
    let four = little_bytes 4 (get_or a.codes 0 0) in
    let two = little_bytes 2 (get_or a.codes 1 0) in
    c.store-2.ensures ∙ (ap (λ (l : List ℕ). written_at (a.at + 4) two l) c.store.ensures ∙ written_twice a.at four two a.out.now (omega (arith, c.requires)))
