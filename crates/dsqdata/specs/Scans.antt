-- What one pass over all runs and over all metadata records finds.
-- Assumes nothing.
use Rattle.std.specs.Prelude.{List, ℕ, Result, Ok, Err}
use Rattle.laws.specs.Places.{sum_to, largest_to}
use Rattle.laws.specs.Rules.{verdict}
use Rattle.fields.specs.declared.Order.{Order}
use Rattle.answers.specs.declared.Refusal.{Refusal}
use Rattle.metadata.specs.declared.Texts.{Texts}
use Rattle.dsqdata.specs.declared.set_runs.Totals.{Totals}
use Rattle.dsqdata.specs.Ends.{residues_at}
use Rattle.dsqdata.specs.Records.{name_at, accession_at, description_at}
use Rattle.dsqdata.specs.Check.{rules_to, run_rules_to, rules_of_record}

module _ (order : Order) where
  -- The total of residues and the longest of the first n runs.
  abbrev pub totals_to : List ℕ → List ℕ → ℕ → Totals
  totals_to index sequence n =
      record { residues = sum_to (residues_at order index sequence) n; longest = largest_to (residues_at order index sequence) n }

  -- The first n runs: their totals, or the first refusal.
  unfoldable pub runs_to : List ℕ → List ℕ → ℕ → ℕ → Result Totals Refusal
  runs_to index sequence alphabet n = verdict Err (Ok (totals_to index sequence n)) (run_rules_to order index sequence alphabet n)

  -- The longest name, accession and description of the first n metadata records.
  abbrev pub longest_to : List ℕ → List ℕ → ℕ → Texts
  longest_to index metadata n =
      record {
        name = largest_to (name_at order index metadata) n;
        accession = largest_to (accession_at order index metadata) n;
        description = largest_to (description_at order index metadata) n;
      }

  -- The first n metadata records: the longest texts, or the first refusal.
  unfoldable pub records_to : List ℕ → List ℕ → ℕ → Result Texts Refusal
  records_to index metadata n = verdict Err (Ok (longest_to index metadata n)) (rules_to (rules_of_record order index metadata) n)
