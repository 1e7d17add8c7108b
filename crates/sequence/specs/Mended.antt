-- Protein bytes translated without a table, sixteen at once: private contracts alone cite these.
-- Assumes nothing.
use Rattle.std.specs.Prelude.{cond, List, ℕ, ◌+◌, ◌≤◌, ◌<◌, eqb, length}
use Rattle.laws.specs.Places.{list_to}
use Rattle.residues.specs.Tables.{protein_code}
use Rattle.sequence.specs.Sequence.{byte_from, most_protein_byte}

-- A number where a byte is a given one, else 0.
abbrev pub where_is : ℕ → ℕ → ℕ → ℕ
where_is byte given number = cond (eqb byte given) number 0

-- No byte is above the largest protein byte.
abbrev pub AreProteins : List ℕ → Type 0
AreProteins bytes = (i : ℕ) → i < length bytes → byte_from bytes 0 i ≤ most_protein_byte

-- The residues of n of the protein bytes from a start on, from the k-th on.
abbrev pub residues_from : List ℕ → ℕ → ℕ → ℕ → List ℕ
residues_from sequence start k n = list_to (λ i. protein_code (byte_from sequence start (k + i))) n
