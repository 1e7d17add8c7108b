-- The bases of whole bytes from a table: private contracts alone cite these.
-- Assumes nothing.
use Rattle.std.specs.Prelude.{◌≡◌, Bool, ◌&&◌, List, ℕ, ◌<◌, eqb, length, get_or}
use Rattle.laws.specs.Places.{every}
use Rattle.fields.specs.Number.{number, little}
use Rattle.sequence.specs.Bases.{bases_of}

-- A table of 256 entries. Entry b holds the four codes of byte b, the highest first: it is the number whose bytes they are, little-endian.
pub record BaseTable (table : List ℕ) : Type 0 where
  pub size : length table ≡ 256
  pub codes : (b : ℕ) → b < 256 → get_or table b 0 ≡ number little (bases_of b)

-- The same as a test, which the checker computes over all entries.
abbrev pub is_base_table : List ℕ → Bool
is_base_table table = eqb (length table) 256 && every (λ b. eqb (get_or table b 0) (number little (bases_of b))) 256
