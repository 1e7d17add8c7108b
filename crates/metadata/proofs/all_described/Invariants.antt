-- `metadata::all_described`: the least so far is not 0 where every byte so far stands in a description. Assumes nothing.
use Rattle.std.proofs.Common.{◌≡◌, false, not, eqb}
use Rattle.metadata.specs.Record.{all_stay}
use Rattle.metadata.proofs.all_described.Given as goal

abbrev pub invariant-loop-b : goal.invariant-loop-b
invariant-loop-b l = not (eqb l.least 0) ≡ all_stay false l.text 0 l.b-index
