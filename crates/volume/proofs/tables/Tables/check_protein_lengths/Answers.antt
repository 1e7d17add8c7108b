-- `volume::tables::Tables::check_protein_lengths`: the loop keeps S[i], the sum and the largest of the lengths passed, and that every separator
-- passed is NUL. Assumes nothing.
use mathlib.Core.Path.{◌≡◌, sym, ◌∙◌}
use mathlib.Core.Bool.{true}
use native.Mathlib.Omega.{arith}
use borrow.Author.Tests.{eq-eqb, ne_eqb}
use lib.Dec.{eqb}
use lib.ListN.{get_or}
use Rattle.laws.proofs.Places.{every_more, every-fails, largest-more}
use Rattle.volume.specs.Index.{sequences}
use Rattle.volume.specs.Tables.{protein_length}
use Rattle.volume.proofs.Lengths.{protein-read, protein_turn, sum_step}
use Rattle.volume.proofs.Named.{nul_behind}
use Rattle.volume.proofs.tables.Tables.check_protein_lengths.Goals as goal

pub place-next-requires : goal.place-next-requires
place-next-requires c =
    (omega arith, protein-read c.args.self.now.index.now c.args.sequence.now c.requires c.starts-table.ensures.index c.starts-table.ensures.start _ (omega arith))

pub overflow_sub-end : goal.overflow_sub-end
overflow_sub-end c =
    let turn =
    protein_turn c.args.self.now.index.now c.args.sequence.now c.requires c.starts-table.ensures.index c.starts-table.ensures.start c.loop-i.i _ _
    (omega arith) c.loop-i.invariant.0 c.place-next.ensures.value in
    omega (arith, turn.rises)

pub bounds-sequence-end : goal.bounds-sequence-end
bounds-sequence-end c =
    let turn =
    protein_turn c.args.self.now.index.now c.args.sequence.now c.requires c.starts-table.ensures.index c.starts-table.ensures.start c.loop-i.i _ _
    (omega arith) c.loop-i.invariant.0 c.place-next.ensures.value in
    omega (arith, turn.rises, turn.inside)

pub returns-then-sequence-end-ne0 : goal.returns-then-sequence-end-ne0
returns-then-sequence-end-ne0 c =
    let turn =
    protein_turn c.args.self.now.index.now c.args.sequence.now c.requires c.starts-table.ensures.index c.starts-table.ensures.start c.loop-i.i _ _
    (omega arith) c.loop-i.invariant.0 c.place-next.ensures.value in
    let first : eqb (get_or c.args.sequence.now 0 0) 0 ≡ true = eq-eqb _ _ (sym c.byte.ensures ∙ c.if-byte-ne0.false) in
    let bad = sym turn.nul ∙ ne_eqb _ _ c.if-sequence-end-ne0.true in
    rw (first, every-fails (nul_behind c.args.self.now.index.now c.args.sequence.now) (sequences c.args.self.now.index.now) c.loop-i.i (omega arith) bad)

pub overflow_sub-len : goal.overflow_sub-len
overflow_sub-len c =
    let turn =
    protein_turn c.args.self.now.index.now c.args.sequence.now c.requires c.starts-table.ensures.index c.starts-table.ensures.start c.loop-i.i _ _
    (omega arith) c.loop-i.invariant.0 c.place-next.ensures.value in
    omega (arith, turn.rises)

pub loop-i-preserved : goal.loop-i-preserved
loop-i-preserved c =
    let turn =
    protein_turn c.args.self.now.index.now c.args.sequence.now c.requires c.starts-table.ensures.index c.starts-table.ensures.start c.loop-i.i _ _
    (omega arith) c.loop-i.invariant.0 c.place-next.ensures.value in
    let l = c.loop-i.invariant in
    let good = sym turn.nul ∙ eq-eqb _ _ c.if-sequence-end-ne0.false in (
      turn.next_is,
      sum_step (protein_length c.args.self.now.index.now) c.loop-i.i _ _ l.1 turn.long,
      c.max-largest.ensures ∙ largest-more (protein_length c.args.self.now.index.now) c.loop-i.i _ _ l.2 turn.long,
      omega arith,
      every_more (nul_behind c.args.self.now.index.now c.args.sequence.now) c.loop-i.i l.4 good,
    )
