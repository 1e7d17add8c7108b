-- `sequence::corrections::paint`: two stores of eight, the second over the end of the first, are one of them all. Assumes nothing.
use native.Mathlib.Omega.{arith}
use Prim.Native.Nat.{ℕ, ◌-◌, ◌+◌}
use Rattle.sequence.proofs.Blocks.{block_stored}
use Rattle.sequence.proofs.Parts.{part_filled}
use Rattle.sequence.proofs.corrections.paint.Goals as goal

pub returns-then-n-lt8 : goal.returns-then-n-lt8
returns-then-n-lt8 c =
    let a = c.args in
    part_filled a.code a.start (a.start + a.n - a.start) a.n a.out.now _ (omega arith) (omega (arith, c.requires)) (c.fill.ensures.after (λ y h. h))

pub returns : goal.returns
returns c =
    let a = c.args in
    let f : ℕ → ℕ = λ _. a.code in
    let place = a.start + a.n - 8 in
    let first = part_filled a.code a.start (a.start + 8 - a.start) 8 a.out.now _ (omega arith) (omega (arith, c.requires)) (c.fill-2.ensures.after (λ y h. h)) in
    let second = part_filled a.code place (a.start + a.n - place) 8 _ _ (omega arith) (omega (arith, c.requires)) (c.fill-3.ensures.after (λ y h. h)) in
    block_stored f a.start (a.n - 8) 8 8 a.n place a.out.now _ _ first second (omega arith) (omega arith) (omega arith) (omega arith)
    (omega (arith, c.requires))
