-- `nucleotides::pieces::cut_stretch`: pieces of as many codes as the limit allows, then the rest. Assumes nothing.
use native.Mathlib.Omega.{arith}
use Rattle.nucleotides.proofs.Stretches.{met_join}
use Rattle.nucleotides.proofs.Starts.{cuts_met, pieces-from-count}
use Rattle.nucleotides.specs.Pieces.{limit_of}
use Rattle.nucleotides.proofs.Entries.{limit-positive}
use Rattle.nucleotides.proofs.pieces.cut_stretch.Goals as goal

pub overflow_add-result : goal.overflow_add-result
overflow_add-result c =
    let a = c.args in
    let limit = limit_of a.width in
    let r = c.count_pieces-rest in
    let cut = cuts_met limit a.codes.now a.from a.end (limit-positive a.width) c.requires.from_le_end.1 c.requires.by_index c.requires.from_le_end.0 in
    let rest = rw c.most_repeat-limit.ensures.value at r.ensures.met in
    let m = (met_join limit a.codes.now a.from _ _ r.result.pieces r.result.next cut rest).some in
    let n = pieces-from-count limit a.codes.now a.from in
    rw c.most_repeat-limit.ensures.value (record { fits = omega arith })

pub returns-clause-met : goal.returns-clause-met
returns-clause-met c =
    let a = c.args in
    let limit = limit_of a.width in
    let r = c.count_pieces-rest in
    let cut = cuts_met limit a.codes.now a.from a.end (limit-positive a.width) c.requires.from_le_end.1 c.requires.by_index c.requires.from_le_end.0 in
    let rest = rw c.most_repeat-limit.ensures.value at r.ensures.met in
    rw c.most_repeat-limit.ensures.value (met_join limit a.codes.now a.from _ _ r.result.pieces r.result.next cut rest)
