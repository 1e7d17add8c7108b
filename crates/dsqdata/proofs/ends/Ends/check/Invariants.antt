-- `dsqdata::ends::check_ends`: the ends passed rise from -1 on, and `before` is the last of them. Assumes nothing.
use Rattle.std.proofs.Common.{◌≡◌, true}
use Rattle.laws.specs.Places.{every}
use Rattle.dsqdata.specs.Ends.{end_before, rises_at}
use Rattle.dsqdata.proofs.ends.Ends.check.Given as goal

abbrev pub invariant-loop-k : goal.invariant-loop-k
invariant-loop-k l = (l.before ≡ end_before l.self.order l.self.index.now l.self.table l.k) × (every (rises_at l.self.order l.self.index.now l.self.table) l.k ≡ true)
