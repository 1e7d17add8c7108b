-- `volume::sequence_length`: by the type, as the definition has it. Assumes nothing.
use mathlib.Core.Path.{refl, sym, ap, ◌∙◌}
use native.Mathlib.Omega.{arith}
use Prim.Native.Nat.{ℕ, ◌-◌, ◌+◌, ◌<◌}
use borrow.Author.Tests.{lt-ltb, eq-eqb, ne_eqb}
use Rattle.volume.specs.Index.{sequences}
use Rattle.volume.specs.Tables.{length_of_number}
use Rattle.volume.proofs.Lengths.{place_at, protein-length, dna-length}
use Rattle.volume.proofs.Reading.{numbers_are}
use Rattle.volume.proofs.sequence_length.Goals as goal

pub returns-then-x-eq1 : goal.returns-then-x-eq1
unfolding length_of_number
returns-then-x-eq1 c =
    let index = c.args.index.now in
    let number = c.args.number in
    let n = numbers_are index _ c.numbers-x.ensures in
    let below : number < sequences index = omega (arith, n.sequences_is) in
    let start = place_at number _ refl n.starts_is c.place-start.ensures.value in
    let next = place_at (number + 1) _ refl n.starts_is c.place-next.ensures.value in
    rw (lt-ltb _ _ below, eq-eqb _ _ (sym n.kind_is ∙ c.if-x-eq1.true))
    (protein-length index number _ _ _ start (c.saturating_sub.ensures ∙ ap (λ (x : ℕ). x - 1) next) c.saturating_sub-then-x-eq1.ensures)

pub returns : goal.returns
unfolding length_of_number
returns c =
    let index = c.args.index.now in
    let number = c.args.number in
    let n = numbers_are index _ c.numbers-x.ensures in
    let below : number < sequences index = omega (arith, n.sequences_is) in
    let start = place_at number _ refl n.starts_is c.place-start.ensures.value in
    let end = place_at number _ refl n.ambiguities_is c.place-end.ensures.value in
    rw (lt-ltb _ _ below, ne_eqb _ _ (λ h. c.if-x-eq1.false (n.kind_is ∙ h)))
    (dna-length index c.args.sequence.now number _ _ _ start end c.two_bit_length.ensures)
