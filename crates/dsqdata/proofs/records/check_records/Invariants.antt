-- `dsqdata::records::check_records`: the records passed keep their rules, and the lengths of their texts are compared. Assumes nothing.
use Rattle.std.proofs.Common.{◌≡◌}
use Rattle.laws.specs.Places.{largest_to}
use Rattle.laws.specs.Rules.{AllHold}
use Rattle.dsqdata.specs.Ends.{metadata_start}
use Rattle.dsqdata.specs.Records.{name_at, accession_at, description_at}
use Rattle.dsqdata.specs.Check.{rules_to, rules_of_record}
use Rattle.dsqdata.proofs.records.check_records.Given as goal

abbrev pub invariant-loop-k : goal.invariant-loop-k
invariant-loop-k l = (l.from.0 ≡ metadata_start l.stated.order l.files.index.now l.k)
    × (l.name ≡ largest_to (name_at l.stated.order l.files.index.now l.files.metadata.now) l.k)
    × (l.accession ≡ largest_to (accession_at l.stated.order l.files.index.now l.files.metadata.now) l.k)
    × (l.description ≡ largest_to (description_at l.stated.order l.files.index.now l.files.metadata.now) l.k)
    × AllHold (rules_to (rules_of_record l.stated.order l.files.index.now l.files.metadata.now) l.k)
