-- `byte_runs::packing::sixteen_fives`: each packet by the call that made it. Assumes nothing.
use mathlib.Core.Path.{◌≡◌, refl, ap, ◌∙◌}
use mathlib.Core.Bool.{true}
use mathlib.Core.List.{List}
use Rattle.std.proofs.Common.{rules}
use Rattle.std.proofs.iter.Serving.{serving}
use native.Mathlib.Omega.{arith}
use Prim.Native.Nat.{ℕ, ◌*◌, ◌-◌, ◌≤◌, ◌<◌}
use lib.ListN.{length, take, drop}
use Rattle.laws.specs.Digits.{all_below}
use Rattle.laws.proofs.Digits.{below-drop, below-take}
use Rattle.laws.proofs.Parts.{part_rest}
use Rattle.packets.specs.Packing.{five_bit_part}
use Rattle.byte_runs.specs.Packed.{parts_by}
use Rattle.byte_runs.proofs.Made.{made_list}
use Rattle.byte_runs.proofs.Packed.{part_long}
use Rattle.byte_runs.proofs.packing.sixteen_fives.Goals as goal

pub from_fn-requires : goal.from_fn-requires
from_fn-requires c =
    let cs = c.args.codes.now in
    let rest : ℕ → List ℕ = λ i. take (length cs - 6 * i) (drop (6 * i) cs) in
    let each : (i : ℕ) → i < 16 → (6 * i ≤ length cs) × (6 ≤ length (rest i)) × (all_below 28 (rest i) ≡ true) =
    λ i h. (
      omega (arith, c.requires.0),
      part_long (6 * i) 6 cs (omega (arith, c.requires.0)),
      below-take 28 (length cs - 6 * i) (drop (6 * i) cs) (below-drop 28 (6 * i) cs c.requires.1),
    ) in
    grind serving

pub returns : goal.returns
unfolding parts_by
returns c =
    let cs = c.args.codes.now in
    made_list _ (λ s. s.0.now ≡ cs) (λ i. five_bit_part (drop (6 * i) cs)) 16
    (λ p q i y h s k.
    let e : (q.0.now ≡ cs) × (y ≡ five_bit_part (take (length cs - 6 * i) (drop (6 * i) cs))) = search rules in
    (e.0, e.1 ∙ ap five_bit_part (part_rest cs (6 * i))))
    _ c.from_fn.result refl c.from_fn.ensures.items
