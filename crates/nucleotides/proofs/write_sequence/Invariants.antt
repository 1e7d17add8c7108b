-- `nucleotides::write_sequence`: block by block, both parts go on; the word comes last. Assumes nothing.
use mathlib.Core.Path.{◌≡◌}
use Prim.Native.Nat.{◌+◌, ◌-◌, ◌/◌}
use lib.ListN.{length}
use Rattle.nucleotides.specs.Pieces.{bytes_of, most_repeat}
use Rattle.nucleotides.specs.Table.{word_size}
use Rattle.nucleotides.proofs.Turns.{Going}
use Rattle.nucleotides.proofs.write_sequence.Given as goal

abbrev pub invariant-loop-m : goal.invariant-loop-m
invariant-loop-m l =
    let w = bytes_of l.width in
    (l.w ≡ w)
    × (l.whole ≡ length l.codes / 4)
    × (l.entries ≡ length l.codes / 4 + 1 + word_size l.n)
    × Going l.codes l.initial.out w (most_repeat w) l.n l.out l.next l.done l.m

abbrev pub decreases-loop-m : goal.decreases-loop-m
decreases-loop-m l = l.whole - l.m
