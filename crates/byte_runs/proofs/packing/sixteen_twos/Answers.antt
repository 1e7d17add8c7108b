-- `byte_runs::packing::sixteen_twos`: each packet by the call that made it. Assumes nothing.
use mathlib.Core.Path.{◌≡◌, refl, ap, ◌∙◌}
use mathlib.Core.Bool.{true}
use mathlib.Core.List.{List}
use Rattle.std.proofs.Common.{rules}
use Rattle.std.proofs.iter.Serving.{serving}
use native.Mathlib.Omega.{arith}
use Prim.Native.Nat.{ℕ, ◌*◌, ◌-◌, ◌≤◌, ◌<◌}
use lib.ListN.{length, take, drop}
use Rattle.laws.proofs.Parts.{part_rest}
use Rattle.packets.specs.Packing.{plain, two_bit_part}
use Rattle.packets.proofs.Packing.{plain-long}
use Rattle.byte_runs.specs.Packed.{parts_by}
use Rattle.byte_runs.proofs.Made.{made_list}
use Rattle.byte_runs.proofs.Twos.{plain-inside}
use Rattle.byte_runs.proofs.packing.sixteen_twos.Goals as goal

pub from_fn-requires : goal.from_fn-requires
from_fn-requires c =
    let cs = c.args.codes.now in
    let rest : ℕ → List ℕ = λ i. take (length cs - 15 * i) (drop (15 * i) cs) in
    let each : (i : ℕ) → i < 16 → (15 * i ≤ length cs) × (plain 15 (rest i) ≡ true) =
    λ i h. (omega (arith, plain-long 240 cs c.requires), rw (part_rest cs (15 * i)) (plain-inside 240 (15 * i) 15 cs c.requires (omega arith))) in
    grind serving

pub returns : goal.returns
unfolding parts_by
returns c =
    let cs = c.args.codes.now in
    made_list _ (λ s. s.0.now ≡ cs) (λ i. two_bit_part (drop (15 * i) cs)) 16
    (λ p q i y h s k.
    let e : (q.0.now ≡ cs) × (y ≡ two_bit_part (take (length cs - 15 * i) (drop (15 * i) cs))) = search rules in
    (e.0, e.1 ∙ ap two_bit_part (part_rest cs (15 * i))))
    _ c.from_fn.result refl c.from_fn.ensures.items
