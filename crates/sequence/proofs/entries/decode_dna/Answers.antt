-- `sequence::entries::decode_dna`: the places, the ambiguity range and the room are asked, in this order, before anything is written. Assumes nothing.
use mathlib.Core.Path.{ap, ◌∙◌}
use native.Mathlib.Omega.{arith}
use mathlib.Core.List.{List}
use Prim.Native.Nat.{ℕ}
use lib.ListN.{length}
use Rattle.laws.specs.Writing.{written_at}
use Rattle.sequence.specs.Sequence.{dna_residues}
use Rattle.sequence.proofs.Answers.{dna_passed, range-enough, ranges-hold, entries-told}
use Rattle.sequence.proofs.Corrected.{residues_written}
use Rattle.sequence.proofs.Parts.{behind_bases}
use Rattle.sequence.proofs.Ranges.{at_width, entries-lie, table-ends}
use Rattle.sequence.proofs.entries.decode_dna.Goals as goal

pub correct-requires : goal.correct-requires
correct-requires c =
    let s = c.args.sequence.now in
    let e = c.args.e in
    let room = length c.args.out.now in
    let p = dna_passed s e room _ c.check_dna_places.ensures c.in_ok-check_dna_places.was in
    let h = ranges-hold s e room _ c.check_dna_places.ensures c.in_ok-check_dna_places.was _ c.two_bit_length-l.ensures _ c.check_table.ensures _ c.in_ok-entries.was in
    let told = entries-told s e room _ c.check_dna_places.ensures c.in_ok-check_dna_places.was _ c.two_bit_length-l.ensures _ c.check_table.ensures _ c.in_ok-entries.was in
    let size = c.write_bases.auto.out in record {
      lie = rw told (entries-lie s e.end e.next h.0 p.inside);
      end_within = rw told (λ j i. rw (at_width s e.end e.next j i) (let within = table-ends s e.end e.next _ h j i in omega arith));
    }

pub returns : goal.returns
returns c =
    let s = c.args.sequence.now in
    let e = c.args.e in
    let o = c.args.out.now in
    let room = length o in
    let l = c.two_bit_length-l in
    let answer =
    range-enough s e room _ c.check_dna_places.ensures c.in_ok-check_dna_places.was _ l.ensures _ c.check_table.ensures _ c.in_ok-entries.was c.if-out-l.false in
    let h = ranges-hold s e room _ c.check_dna_places.ensures c.in_ok-check_dna_places.was _ l.ensures _ c.check_table.ensures _ c.in_ok-entries.was in
    let told = entries-told s e room _ c.check_dna_places.ensures c.in_ok-check_dna_places.was _ l.ensures _ c.check_table.ensures _ c.in_ok-entries.was in
    let bases = c.write_bases.ensures ∙ ap (λ (r : List ℕ). written_at 0 r o) (behind_bases s e.start l.result) in
    let written = residues_written s e.start e.end e.next l.result h _ o _ _ told bases c.correct.ensures in
    record { value = answer; out_after = written ∙ ap (λ (n : ℕ). written_at 0 (dna_residues s e.start e.end e.next n) o) l.ensures }
