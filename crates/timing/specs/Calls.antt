-- What the exported set check answers: the set check, and last the room of the results range, as in the console's calls; and the results of writing.
-- Assumes nothing.
use Rattle.answers.specs.declared.Refusal.{Refusal}
use Rattle.nucleotides.specs.declared.Written.{Written}
use Rattle.dsqdata.specs.declared.SetRecord.{SetRecord}
use Rattle.std.specs.Prelude.{List, ◌++◌, ℕ, Err, Ok, Result}
use Rattle.laws.specs.Rules.{verdict}
use Rattle.dsqdata.specs.Header.{set_order, record_of}
use Rattle.dsqdata.specs.Check.{set_rules, set_values}
use Rattle.fields.specs.Number.{little}
use Rattle.fields.specs.Written.{number_put}
use Rattle.console.specs.Results.{results_put}
use Rattle.console.specs.Calls.{results_rule}

unfoldable pub timed_set : List ℕ → List ℕ → List ℕ → ℕ → Result SetRecord Refusal
timed_set index metadata sequence room =
    verdict Err (Ok (record_of (set_order index) index)) (set_rules (set_order index) index metadata sequence ++ results_rule 11 room)

-- The results after the call: the ten header fields and the number of the byte order; on a refusal, which has none, the range as it was.
abbrev pub set_results : Result SetRecord Refusal → List ℕ → List ℕ
set_results answer results = results_put (set_values answer) results

-- The results after writing nucleotides: the sizes of both parts, each where it fits; on a refusal the range as it was.
abbrev pub sizes_put : Result Written Refusal → List ℕ → List ℕ
sizes_put (Ok written) results = number_put little 8 8 written.table (number_put little 8 0 written.two_bit results)
sizes_put (Err r) results = results
