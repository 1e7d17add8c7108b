-- `nucleotides::table::put_block`: no piece begins among codes below 4, and nothing is put. Assumes nothing.
use native.Mathlib.Omega.{arith}
use Rattle.nucleotides.specs.Pieces.{limit_of}
use Rattle.nucleotides.proofs.Stretches.{met_block}
use Rattle.nucleotides.proofs.table.put_block.Goals as goal

pub returns-then-largest-lt4-clause-met : goal.returns-then-largest-lt4-clause-met
returns-then-largest-lt4-clause-met c =
    let asked = c.requires in
    let a = c.args in
    let m = met_block (limit_of a.width) a.codes.now a.from a.end asked.from_in_bounds.0 asked.from_in_bounds.1 (λ i p q. let h = asked.by_index i p q in omega arith) in
    rw c.max.ensures m.0
