-- `nucleotides::two_bit::placeholders`: the base of each code below 16. Assumes nothing.
use Rattle.std.proofs.Common.{rules, ◌≡◌, ℕ, ◌<◌, slice_index_or, ◌∙◌, sym, arith}
use Rattle.std.proofs.lemmas.Grind.{same_number_lists}
use Rattle.laws.specs.Places.{list_to}
use Rattle.laws.proofs.Places.{list_to_at}
use Rattle.nucleotides.specs.TwoBit.{placeholder}
use Rattle.nucleotides.proofs.two_bit.placeholders.Goals as goal

pub returns : goal.returns
returns c =
    let each : (i : ℕ) → i < 16 → slice_index_or c.from_fn.result i 0 ≡ placeholder i = λ i l. let called = c.from_fn.ensures.items.at i 0 l in search rules in
    same_number_lists c.from_fn.result (list_to placeholder 16) c.from_fn.ensures.items.long
    (λ k h. let l : k < 16 = omega (arith, h, c.from_fn.ensures.items.long) in each k l ∙ sym (list_to_at placeholder 16 k 0 l))
