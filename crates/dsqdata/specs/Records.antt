-- The metadata records of a set, by the numbers of its sequences (document 01, "A dsqdata set").
-- Assumes nothing.
use Rattle.std.specs.Prelude.{List, ℕ, suc, Option}
use Rattle.fields.specs.declared.Order.{Order}
use Rattle.metadata.specs.declared.Texts.{Texts}
use Rattle.metadata.specs.Record.{texts_in, name_length, accession_length, description_length}
use Rattle.dsqdata.specs.Ends.{metadata_start}

module _ (order : Order) where
  -- The lengths of the texts of number k.
  unfoldable pub texts_at : List ℕ → List ℕ → ℕ → Option Texts
  texts_at index metadata k = texts_in order metadata (metadata_start order index k) (metadata_start order index (suc k))

  -- The lengths of name, accession and description of number k.
  abbrev pub name_at : List ℕ → List ℕ → ℕ → ℕ
  name_at index metadata k = name_length (texts_at index metadata k)

  abbrev pub accession_at : List ℕ → List ℕ → ℕ → ℕ
  accession_at index metadata k = accession_length (texts_at index metadata k)

  abbrev pub description_at : List ℕ → List ℕ → ℕ → ℕ
  description_at index metadata k = description_length (texts_at index metadata k)
