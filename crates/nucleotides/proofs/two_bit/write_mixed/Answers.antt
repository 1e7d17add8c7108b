-- `nucleotides::two_bit::write_mixed`: one byte more each turn, by the bases that were made. Assumes nothing.
use mathlib.Core.Path.{◌≡◌, ap, ◌∙◌}
use mathlib.Core.List.{List}
use Prim.Native.Nat.{ℕ, ◌+◌, ◌*◌, ◌<◌}
use native.Mathlib.Omega.{arith}
use lib.ListN.{length, get_or, length-set}
use Rattle.laws.proofs.Places.{list_to_at}
use Rattle.sequence.proofs.Blocks.{begins-next, all_stored}
use Rattle.nucleotides.specs.TwoBit.{placeholder, placeholder_at, two_bit_byte}
use Rattle.nucleotides.specs.Scan.{code_at}
use Rattle.nucleotides.proofs.Packing.{placeholder-small, byte_of}
use Rattle.nucleotides.proofs.two_bit.write_mixed.Goals as goal

pub joined-requires : goal.joined-requires
joined-requires c =
    let codes = c.args.codes.now in
    let size = c.requires.four_to_a_byte in
    let place = 4 * c.loop-j.j in
    let base : (i : ℕ) → i < length codes → get_or c.placeholders-bases.result (code_at codes i) 0 ≡ placeholder_at codes i =
    λ i h. ap (λ (bases : List ℕ). get_or bases (code_at codes i) 0) c.placeholders-bases.ensures
    ∙ list_to_at placeholder 16 (code_at codes i) 0 (c.requires.by_index i h) in
    let small : (i : ℕ) → i < length codes → get_or c.placeholders-bases.result (code_at codes i) 0 < 4 =
    λ i h. rw (base i h) (placeholder-small (code_at codes i)) in (
      small place (omega (arith, size)),
      small (place + 1) (omega (arith, size)),
      small (place + 2) (omega (arith, size)),
      small (place + 3) (omega (arith, size)),
    )

pub loop-j-preserved : goal.loop-j-preserved
loop-j-preserved c =
    let codes = c.args.codes.now in
    let size = c.requires.four_to_a_byte in
    let place = 4 * c.loop-j.j in
    let base : (i : ℕ) → i < length codes → get_or c.placeholders-bases.result (code_at codes i) 0 ≡ placeholder_at codes i =
    λ i h. ap (λ (bases : List ℕ). get_or bases (code_at codes i) 0) c.placeholders-bases.ensures
    ∙ list_to_at placeholder 16 (code_at codes i) 0 (c.requires.by_index i h) in
    let l = c.loop-j in
    let byte = c.joined.ensures
    ∙ byte_of codes l.j (base place (omega (arith, size))) (base (place + 1) (omega (arith, size))) (base (place + 2) (omega (arith, size)))
    (base (place + 3) (omega (arith, size))) in
    (simp length-set l.invariant.0, begins-next (two_bit_byte codes) l.j _ l.out (omega (arith, l.invariant.0)) byte l.invariant.1)

pub returns : goal.returns
returns c =
    let l = c.loop-j in
    let n = length c.args.out.now in
    let e : l.j ≡ n = omega arith in
    (rw e at l.invariant.1) ∙ all_stored (two_bit_byte c.args.codes.now) n l.out l.invariant.0
