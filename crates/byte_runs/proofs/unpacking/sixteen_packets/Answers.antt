-- `byte_runs::unpacking::sixteen_packets`: each packet by the call that made it. Assumes nothing.
use mathlib.Core.Path.{◌≡◌, refl, sym, ◌∙◌}
use native.Mathlib.Omega.{arith}
use Prim.Native.Nat.{◌<◌}
use lib.ListN.{length, take, get_or}
use lib.Seq.{get_or-take, length-take-le}
use Rattle.std.proofs.Common.{rules}
use Rattle.std.proofs.lemmas.List.{ext_get_or}
use Rattle.fields.specs.Number.{little}
use Rattle.packets.specs.Bytes.{packets_of}
use Rattle.packets.proofs.Bytes.{length-packets}
use Rattle.byte_runs.proofs.Made.{made_each}
use Rattle.byte_runs.proofs.unpacking.sixteen_packets.Goals as goal

pub returns : goal.returns
returns c =
    let b = c.args.block.now in
    let ps = packets_of b in
    let m = c.from_fn.ensures.items in
    let n : length (take 16 ps) ≡ 16 = length-take-le 16 ps (omega (arith, c.requires, length-packets little b)) in
    ext_get_or 0 c.from_fn.result (take 16 ps) (m.long ∙ sym n)
    (λ k h.
    let i : k < 16 = omega (arith, m.long) in
    made_each _ (λ s. s.0.now ≡ b) (λ k y. y ≡ get_or ps k 0) 16 (λ p q i y h s k. search rules) 0 _ c.from_fn.result refl m k i
    ∙ sym (get_or-take 16 ps k 0 i))
