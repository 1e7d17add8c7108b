-- `metadata::closing_at`: what closes the text from `p` on closes it from the start on. Assumes nothing.
use Rattle.std.proofs.Common.{◌≡◌, true, ◌-◌, ◌≤◌, max}
use Rattle.metadata.specs.Record.{closing}
use Rattle.metadata.proofs.closing_at.Given as goal

abbrev pub invariant-loop-p : goal.invariant-loop-p
invariant-loop-p l = (l.p ≤ max l.from l.end) × (closing true l.file (l.to - l.p) l.p ≡ closing true l.file (l.to - l.from) l.from)
