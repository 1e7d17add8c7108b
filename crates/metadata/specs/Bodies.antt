-- A metadata body: records one behind another from its first byte on, and nothing more (request 2026-09).
-- Assumes nothing.
use Rattle.std.specs.Prelude.{Bool, cond, ◌&&◌, List, [], ◌∷◌, ℕ, zero, suc, ◌+◌, ◌-◌, eqb, leb, ltb, length, get_or, Option, Some, None}
use Rattle.laws.specs.Places.{every, largest_to}
use Rattle.fields.specs.declared.Order.{Order}
use Rattle.answers.specs.Numbers.{number_of}
use Rattle.answers.specs.declared.Refusal.TheVariants.{BadMetadata}
use Rattle.metadata.specs.declared.Texts.{Texts}
use Rattle.metadata.specs.Record.{texts_in, is_good, name_length, accession_length, description_length}

-- The place of the first NUL from a place on, with n bytes left; past the file's end every byte is NUL.
abbrev pub nul_from : List ℕ → ℕ → ℕ → ℕ
nul_from file zero place = place
nul_from file (suc n) place = cond (eqb (get_or file place 0) 0) place (nul_from file n (suc place))

abbrev pub first_nul : List ℕ → ℕ → ℕ
first_nul file from = nul_from file (length file - from) from

-- A record is cut behind the four bytes that follow its third NUL. From behind the file's end on nothing is cut.
unfoldable pub record_end : List ℕ → ℕ → ℕ
record_end file from = cond (ltb (length file) from) from (first_nul file (first_nul file (first_nul file from + 1) + 1) + 5)

-- Record k begins where the one before it is cut, the first at the first byte.
unfoldable pub record_start : List ℕ → ℕ → ℕ
record_start file zero = 0
record_start file (suc k) = record_end file (record_start file k)

-- A body of a set of a byte order.
module _ (order : Order) where
  -- The lengths of the texts of record k; None where it does not lie inside the body or is no metadata record.
  unfoldable pub record_texts : List ℕ → ℕ → Option Texts
  record_texts file k =
      cond (leb (record_start file (suc k)) (length file)) (texts_in order file (record_start file k) (record_start file (suc k))) None

  -- The body is exactly n good records: each is good, and nothing follows the last.
  unfoldable pub is_body : List ℕ → ℕ → Bool
  is_body file n = every (λ k. is_good (record_texts file k)) n && eqb (record_start file n) (length file)

  -- The longest name, accession and description of the first n records, without their NULs; 0 with none.
  abbrev pub longest_name : List ℕ → ℕ → ℕ
  longest_name file n = largest_to (λ k. name_length (record_texts file k)) n

  abbrev pub longest_accession : List ℕ → ℕ → ℕ
  longest_accession file n = largest_to (λ k. accession_length (record_texts file k)) n

  abbrev pub longest_description : List ℕ → ℕ → ℕ
  longest_description file n = largest_to (λ k. description_length (record_texts file k)) n

  -- What reading a body of n records finds: the longest lengths, or that it is none.
  unfoldable pub body_answer : List ℕ → ℕ → Option Texts
  body_answer file n =
      cond (is_body file n) (Some (record { name = longest_name file n; accession = longest_accession file n; description = longest_description file n })) None

-- Document 01's number of an answer, and its values: the longest name, accession and description.
abbrev pub body_number : Option Texts → ℕ
body_number (Some t) = 0
body_number None = number_of BadMetadata

abbrev pub body_values : Option Texts → List ℕ
body_values (Some t) = t.name ∷ t.accession ∷ t.description ∷ []
body_values None = []
