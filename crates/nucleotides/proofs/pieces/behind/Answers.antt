-- `nucleotides::pieces::behind`: past a code below 4, or past the piece of the stretch that was found. Assumes nothing.
use native.Mathlib.Omega.{arith}
use Rattle.nucleotides.proofs.Starts.{past-plain, past_found}
use Rattle.nucleotides.specs.Pieces.{limit_of}
use Rattle.nucleotides.proofs.Entries.{limit-positive}
use Rattle.nucleotides.proofs.pieces.behind.Goals as goal

pub returns-then-codes-at-lt4 : goal.returns-then-codes-at-lt4
returns-then-codes-at-lt4 c =
    let asked = c.requires in
    let a = c.args in
    λ s m b met short. (past-plain (limit_of a.width) a.codes.now a.from s a.at m (limit-positive a.width) asked.1 b met c.if-codes-at-lt4.true, omega arith)

pub returns : goal.returns
returns c =
    let asked = c.requires in
    let stretch-start = c.stretch_start-s in
    let if1 = c.if-codes-at-lt4 in
    let a = c.args in
    past_found (limit_of a.width) a.codes.now a.from a.at stretch-start.result c.piece_length.result
    (limit-positive a.width) asked.1 if1.false stretch-start.ensures c.piece_length.ensures.value
