-- What document 01 asks of a metadata record, rule by rule.
-- proofs/Rules.antt shows that bytes are read as a record exactly where these rules hold.
-- Assumes nothing.
use Rattle.std.specs.Prelude.{◌≡◌, Bool, true, false, ◌⊎◌, List, ℕ, suc, ◌+◌, ◌≤◌, ◌<◌, length, get_or, ℤ, pos, negsuc, ◌≤ℤ◌}
use Rattle.fields.specs.declared.Order.{Order}
use Rattle.fields.specs.Number.{signed_at}

-- A text's byte is no NUL, which closes it; in a name or an accession none of 9 to 13 and 32, in a description not 10.
abbrev pub TextByte : Bool → ℕ → Type 0
TextByte true b = (b ≡ 0 → ⊥) × (9 ≤ b → b ≤ 13 → ⊥) × (b ≡ 32 → ⊥)
TextByte false b = (b ≡ 0 → ⊥) × (b ≡ 10 → ⊥)

-- The text of the bytes from one place up to another is closed by the NUL there. The Bool tells a name or an accession from a description.
pub record Text (name : Bool) (file : List ℕ) (from nul : ℕ) : Type 0 where
  pub bytes : (k : ℕ) → from ≤ k → k < nul → TextByte name (get_or file k 0)
  pub closed : get_or file nul 0 ≡ 0

-- A taxonomy id: -1 for unset, or at least 1.
abbrev pub Taxonomy : ℤ → Type 0
Taxonomy id = (id ≡ negsuc 0) ⊎ (pos 1 ≤ℤ id)

-- The bytes from one place up to, not including, another are a metadata record of a set of a byte order, with texts of these lengths.
pub record MetadataRule (order : Order) (file : List ℕ) (from to name accession description : ℕ) : Type 0 where
  -- name, not empty
  pub named : 0 < name
  pub name_text : Text true file from (from + name)
  -- accession
  pub accession_text : Text true file (from + name + 1) (from + name + 1 + accession)
  -- description
  pub description_text : Text false file (from + name + 1 + accession + 1) (from + name + 1 + accession + 1 + description)
  -- then a signed taxonomy id, in that order
  pub taxonomy : Taxonomy (signed_at order 4 file (from + name + 1 + accession + 1 + description + 1))
  -- nothing more
  pub whole : from + name + 1 + accession + 1 + description + 1 + 4 ≡ to

-- Bytes are exactly n metadata records, one behind another: record k stands from start k up to the next one's start, with texts of these lengths.
pub record BodyRule (order : Order) (file : List ℕ) (n : ℕ) (start name accession description : ℕ → ℕ) : Type 0 where
  pub first : start 0 ≡ 0
  pub records : (k : ℕ) → k < n → MetadataRule order file (start k) (start (suc k)) (name k) (accession k) (description k)
  -- no byte is left over or missing
  pub last : start n ≡ length file
