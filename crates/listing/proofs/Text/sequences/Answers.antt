-- `listing::Text::sequences`: the lines of the sequences so far are put. Assumes nothing.
use mathlib.Core.Path.{◌∙◌}
use mathlib.Core.List.{◌++◌}
use Prim.Native.Nat.{◌+◌, ◌≤◌}
use native.Mathlib.Numerals.{add-one}
use native.Mathlib.Omega.{arith}
use lib.ListN.{length, length-append}
use Rattle.volume.specs.Tables.{length_of_number}
use Rattle.listing.specs.Listing.{length_text, lengths_text}
use Rattle.listing.proofs.Texts.{put_then, put_size, lengths_grow}
use Rattle.listing.proofs.Text.sequences.Goals as goal

pub sequence-requires : goal.sequence-requires
sequence-requires c =
    let f = length_of_number c.args.index.now c.args.sequence.now in
    let i = c.loop-i.i in
    let l = c.loop-i.invariant.1 in
    let g = lengths_grow f i c.args.n c.loop-i-test.true in
    rw c.sequence_length.ensures
    (omega (arith, length-append (lengths_text f i) (length_text i (f i)), l.place, put_size l (omega (arith, length-append (lengths_text f i) (length_text i (f i))))))

pub loop-i-preserved : goal.loop-i-preserved
loop-i-preserved c =
    let f = length_of_number c.args.index.now c.args.sequence.now in
    let i = c.loop-i.i in
    let g = lengths_grow f i c.args.n c.loop-i-test.true in
    let h : c.args.self.now.at + length (lengths_text f i ++ length_text i (f i)) ≤ length c.args.self.now.out.now = omega arith in (
      c.sequence.ensures.same_reference ∙ c.loop-i.invariant.0,
      rw add-one (put_then h c.loop-i.invariant.1 (rw (← c.sequence_length.ensures) c.sequence.ensures.put)),
    )
