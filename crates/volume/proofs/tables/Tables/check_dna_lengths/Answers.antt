-- `volume::tables::Tables::check_dna_lengths`: the loop keeps the sum and the largest of the lengths passed. Assumes nothing.
use mathlib.Core.Path.{◌∙◌}
use native.Mathlib.Omega.{arith}
use Rattle.laws.proofs.Places.{largest-more}
use Rattle.volume.specs.Tables.{dna_length}
use Rattle.volume.proofs.Lengths.{start-read, end_read, dna_turn, sum_step}
use Rattle.volume.proofs.tables.Tables.check_dna_lengths.Goals as goal

pub place-start-requires : goal.place-start-requires
place-start-requires c =
    (omega arith, start-read c.args.self.now.index.now c.args.sequence.now c.requires.offsets c.loop-i.i (omega arith) c.starts-starts.ensures.index c.starts-starts.ensures.start)

pub place-last-requires : goal.place-last-requires
place-last-requires c =
    (omega arith, end_read c.args.self.now.index.now c.args.sequence.now c.requires.offsets c.loop-i.i (omega arith) c.ends-ends.ensures.index c.ends-ends.ensures.start)

pub overflow_sub-last : goal.overflow_sub-last
overflow_sub-last c =
    let turn =
    dna_turn c.args.self.now.index.now c.args.sequence.now c.requires.offsets c.loop-i.i (omega arith) _ _ c.starts-starts.ensures.index
    c.starts-starts.ensures.start c.ends-ends.ensures.index c.ends-ends.ensures.start c.place-start.ensures.value c.place-last.ensures.value in
    omega (arith, turn.rises)

pub overflow_sub-len : goal.overflow_sub-len
overflow_sub-len c =
    let turn =
    dna_turn c.args.self.now.index.now c.args.sequence.now c.requires.offsets c.loop-i.i (omega arith) _ _ c.starts-starts.ensures.index
    c.starts-starts.ensures.start c.ends-ends.ensures.index c.ends-ends.ensures.start c.place-start.ensures.value c.place-last.ensures.value in
    omega (arith, turn.rises)

pub bounds-sequence-last : goal.bounds-sequence-last
bounds-sequence-last c =
    let turn =
    dna_turn c.args.self.now.index.now c.args.sequence.now c.requires.offsets c.loop-i.i (omega arith) _ _ c.starts-starts.ensures.index
    c.starts-starts.ensures.start c.ends-ends.ensures.index c.ends-ends.ensures.start c.place-start.ensures.value c.place-last.ensures.value in
    omega (arith, turn.rises, turn.inside)

pub loop-i-preserved : goal.loop-i-preserved
loop-i-preserved c =
    let turn =
    dna_turn c.args.self.now.index.now c.args.sequence.now c.requires.offsets c.loop-i.i (omega arith) _ _ c.starts-starts.ensures.index
    c.starts-starts.ensures.start c.ends-ends.ensures.index c.ends-ends.ensures.start c.place-start.ensures.value c.place-last.ensures.value in
    let f = dna_length c.args.self.now.index.now c.args.sequence.now in (
      sum_step f c.loop-i.i _ _ c.loop-i.invariant.0 turn.long,
      c.max-largest.ensures ∙ largest-more f c.loop-i.i _ _ c.loop-i.invariant.1 turn.long,
      omega arith,
    )
