-- `headers::check_record`: the sizes are tested in the order of the rules, and the element is read in the part up to the end. Assumes nothing.
use Rattle.std.proofs.Common.{rules}
use Rattle.headers.specs.Record.{check_record}
use Rattle.headers.proofs.check_record.Goals as goal
use Rattle.headers.proofs.check_record.Goals.{then-end-start-via-then-end-start, then-end-start-via-else-end-start+then-header-end}

pub returns-then-header-gt-MOST_BYTES : goal.returns-then-header-gt-MOST_BYTES
unfolding check_record
returns-then-header-gt-MOST_BYTES c = search rules

pub returns-then-end-start : goal.returns-then-end-start
unfolding check_record
returns-then-end-start c =
    elim c.then-end-start.branch [ then-end-start-via-then-end-start w ↦ search rules | then-end-start-via-else-end-start+then-header-end w ↦ search rules ]

pub returns : goal.returns
unfolding check_record
returns c = search rules
