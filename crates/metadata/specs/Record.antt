-- One metadata record (document 01, "Metadata").
-- Assumes nothing.
use Rattle.std.specs.Prelude.{Bool, true, false, not, cond, ◌&&◌, List, [], ◌∷◌, ℕ, zero, suc, ◌+◌, ◌-◌, eqb, leb, ℤ, pos, negsuc, get_or, Option, Some, None}
use Rattle.laws.specs.Places.{every}
use Rattle.fields.specs.declared.Order.{Order}
use Rattle.fields.specs.Number.{signed_at}
use Rattle.answers.specs.Numbers.{number_of}
use Rattle.answers.specs.declared.Refusal.TheVariants.{BadMetadata}
use Rattle.metadata.specs.declared.Texts.{Texts}

-- A name and an accession have no byte 9 to 13 and none 32.
abbrev pub name_byte : ℕ → Bool
name_byte b = not (leb 9 b && leb b 13) && not (eqb b 32)

-- A description has no byte 10.
abbrev pub description_byte : ℕ → Bool
description_byte b = not (eqb b 10)

-- A byte may stand in a text: in a name or an accession, or in a description.
abbrev pub text_byte : Bool → ℕ → Bool
text_byte name b = cond name (name_byte b) (description_byte b)

-- A byte stands in a text: it does not close it, and it may stand there.
abbrev pub stays_in : Bool → ℕ → Bool
stays_in name b = not (eqb b 0) && text_byte name b

-- So many bytes from a place on all stand in a text.
abbrev pub all_stay : Bool → List ℕ → ℕ → ℕ → Bool
all_stay name file from n = every (λ k. stays_in name (get_or file (from + k) 0)) n

-- The bytes from one place up to another are a text that the NUL there closes.
abbrev pub is_text : Bool → List ℕ → ℕ → ℕ → Bool
is_text name file from nul = eqb (get_or file nul 0) 0 && all_stay name file from (nul - from)

-- Where the text from a place on is closed by NUL, with n bytes left; None where a byte before may not stand in it, or no NUL comes.
abbrev pub closing : Bool → List ℕ → ℕ → ℕ → Option ℕ
closing name file zero place = None
closing name file (suc n) place =
    cond (eqb (get_or file place 0) 0) (Some place) (cond (text_byte name (get_or file place 0)) (closing name file n (suc place)) None)

-- A taxonomy id is -1 for unset or at least 1.
abbrev pub is_taxonomy : ℤ → Bool
is_taxonomy (pos zero) = false
is_taxonomy (pos (suc n)) = true
is_taxonomy (negsuc zero) = true
is_taxonomy (negsuc (suc n)) = false

-- A record of a set of a byte order: its taxonomy id is read in that order, its texts are not.
module _ (order : Order) where
  -- Behind the description, closed at d: a taxonomy id of four bytes; nothing more. n and a are where name and accession are closed.
  abbrev pub behind_description : List ℕ → ℕ → ℕ → ℕ → ℕ → Option ℕ → Option Texts
  behind_description file from to n a None = None
  behind_description file from to n a (Some d) =
      cond (eqb (d + 5) to) (cond (is_taxonomy (signed_at order 4 file (d + 1))) (Some (record { name = n - from; accession = a - (n + 1); description = d - (a + 1) })) None) None

  -- Behind the accession, closed at a: the description.
  abbrev pub behind_accession : List ℕ → ℕ → ℕ → ℕ → Option ℕ → Option Texts
  behind_accession file from to n None = None
  behind_accession file from to n (Some a) = behind_description file from to n a (closing false file (to - (a + 1)) (a + 1))

  -- Behind the name, which is not empty and closed at n: the accession.
  abbrev pub behind_name : List ℕ → ℕ → ℕ → Option ℕ → Option Texts
  behind_name file from to None = None
  behind_name file from to (Some n) = cond (eqb n from) None (behind_accession file from to n (closing true file (to - (n + 1)) (n + 1)))

  -- The lengths of the texts of the metadata record from one byte up to, not including, another; None where these are no metadata record.
  unfoldable pub texts_in : List ℕ → ℕ → ℕ → Option Texts
  texts_in file from to = behind_name file from to (closing true file (to - from) from)

-- Whether bytes are a metadata record, and the lengths of its name, accession and description; 0 where they are none.
abbrev pub is_good : Option Texts → Bool
is_good (Some t) = true
is_good None = false

abbrev pub name_length : Option Texts → ℕ
name_length (Some t) = t.name
name_length None = 0

abbrev pub accession_length : Option Texts → ℕ
accession_length (Some t) = t.accession
accession_length None = 0

abbrev pub description_length : Option Texts → ℕ
description_length (Some t) = t.description
description_length None = 0

-- Document 01's number of an answer, and its values: the lengths of name, accession and description.
abbrev pub texts_number : Option Texts → ℕ
texts_number (Some t) = 0
texts_number None = number_of BadMetadata

abbrev pub texts_values : Option Texts → List ℕ
texts_values (Some t) = t.name ∷ t.accession ∷ t.description ∷ []
texts_values None = []
