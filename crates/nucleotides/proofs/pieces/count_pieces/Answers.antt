-- `nucleotides::pieces::count_pieces`: the scan goes on past a code or past a piece. Assumes nothing.
use native.Mathlib.Omega.{arith}
use Rattle.nucleotides.proofs.Stretches.{met_step, met_piece}
use Rattle.nucleotides.specs.Pieces.{limit_of}
use Rattle.nucleotides.proofs.Entries.{limit-positive}
use Rattle.nucleotides.proofs.pieces.count_pieces.Goals as goal

pub loop-k-preserved-then-codes-k-lt4 : goal.loop-k-preserved-then-codes-k-lt4
loop-k-preserved-then-codes-k-lt4 c =
    let asked = c.requires in
    let a = c.args in
    let l = c.loop-k in
    (omega arith, met_step (limit_of a.width) a.codes.now a.from l.n l.k l.invariant.1 (omega (arith, asked.1)) c.if-codes-k-lt4.true)

pub loop-k-preserved : goal.loop-k-preserved
loop-k-preserved c =
    let asked = c.requires in
    let if1 = c.if-codes-k-lt4 in
    let a = c.args in
    let l = c.loop-k in
    let p = c.piece_length-k in
    let b = p.ensures.bounds in (
      omega arith,
      met_piece (limit_of a.width) a.codes.now a.from l.n l.k p.result l.invariant.1 (limit-positive a.width) (omega (arith, asked.1)) if1.false p.ensures.value,
    )
