-- `dsqdata::set_runs::check_runs`: the runs passed keep their rules, and their residues are added up and compared. Assumes nothing.
use Rattle.std.proofs.Common.{◌≡◌, ◌*◌, ◌≤◌}
use Rattle.laws.specs.Places.{sum_to, largest_to}
use Rattle.laws.specs.Rules.{AllHold}
use Rattle.dsqdata.specs.Ends.{packet_table, residues_at}
use Rattle.dsqdata.specs.Lookup.{start_at}
use Rattle.dsqdata.specs.Check.{run_rules_to}
use Rattle.dsqdata.proofs.set_runs.check_runs.Given as goal

abbrev pub invariant-loop-k : goal.invariant-loop-k
invariant-loop-k l = (l.from.0 ≡ start_at l.stated.order l.files.index.now packet_table l.k)
    × (l.residues ≡ sum_to (residues_at l.stated.order l.files.index.now l.files.sequence.now) l.k)
    × (l.longest ≡ largest_to (residues_at l.stated.order l.files.index.now l.files.sequence.now) l.k)
    × (l.residues ≤ l.k * 8053063680)
    × AllHold (run_rules_to l.stated.order l.files.index.now l.files.sequence.now l.stated.alphabet l.k)
