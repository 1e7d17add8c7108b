-- `sequence::entries::decode_protein`: the places, the bytes and the room are asked, in this order, before anything is written. Assumes nothing.
use mathlib.Core.Path.{refl, sym, ap, ◌∙◌}
use mathlib.Core.List.{List}
use native.Mathlib.Omega.{arith}
use Prim.Native.Nat.{ℕ}
use borrow.Author.Tests.{leb-true}
use lib.ListN.{length}
use Rattle.std.specs.Prelude.{Ok}
use Rattle.laws.specs.Writing.{written_at}
use Rattle.laws.proofs.Places.{every_at}
use Rattle.sequence.specs.Sequence.{is_protein_byte, most_protein_byte}
use Rattle.sequence.proofs.Answers.{protein_passed}
use Rattle.sequence.proofs.Parts.{own_bytes}
use Rattle.sequence.proofs.entries.decode_protein.Goals as goal

pub returns-then-not-are_proteins : goal.returns-then-not-are_proteins
returns-then-not-are_proteins c =
    let p = protein_passed c.args.sequence.now c.args.e (length c.args.out.now) _ c.check_protein_places.ensures c.in_ok-check_protein_places.was in
    let part = own_bytes c.args.sequence.now c.args.e p.rises p.inside in
    record { value = p.bad (sym part.tests ∙ sym c.are_proteins.ensures ∙ c.if-not-are_proteins.true); out_after = refl }

pub returns-then-out-bytes : goal.returns-then-out-bytes
returns-then-out-bytes c =
    let p = protein_passed c.args.sequence.now c.args.e (length c.args.out.now) _ c.check_protein_places.ensures c.in_ok-check_protein_places.was in
    let part = own_bytes c.args.sequence.now c.args.e p.rises p.inside in
    let good = sym part.tests ∙ sym c.are_proteins.ensures ∙ c.if-not-are_proteins.false in
    record { value = p.short good (omega (arith, part.size, c.if-out-bytes.true)); out_after = refl }

pub write_proteins-requires : goal.write_proteins-requires
write_proteins-requires c =
    let p = protein_passed c.args.sequence.now c.args.e (length c.args.out.now) _ c.check_protein_places.ensures c.in_ok-check_protein_places.was in
    let part = own_bytes c.args.sequence.now c.args.e p.rises p.inside in
    let good = sym c.are_proteins.ensures ∙ c.if-not-are_proteins.false in
    (λ i h. leb-true _ most_protein_byte (every_at (is_protein_byte _ 0) _ i h good), c.if-out-bytes.false)

pub returns : goal.returns
returns c =
    let p = protein_passed c.args.sequence.now c.args.e (length c.args.out.now) _ c.check_protein_places.ensures c.in_ok-check_protein_places.was in
    let part = own_bytes c.args.sequence.now c.args.e p.rises p.inside in
    let good = sym part.tests ∙ sym c.are_proteins.ensures ∙ c.if-not-are_proteins.false in record {
      value = ap Ok part.size ∙ p.enough good (omega (arith, part.size, c.if-out-bytes.false));
      out_after = c.write_proteins.ensures ∙ ap (λ (l : List ℕ). written_at 0 l c.args.out.now) part.residues;
    }
