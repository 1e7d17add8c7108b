-- A number written as bytes, in a byte order, into a lent range.
-- Assumes nothing.
use Rattle.std.specs.Prelude.{ℕ, zero, suc, ◌+◌, ◌/◌, ◌%◌, cond, List, [], ◌∷◌, length, leb}
use Rattle.laws.specs.Digits.{digits}
use Rattle.laws.specs.Writing.{written_at}
use Rattle.fields.specs.declared.Order.{Order}
use Rattle.fields.specs.declared.Order.TheVariants.{Big, Little}

-- The w bytes of a number, the lowest first.
abbrev pub little_bytes : ℕ → ℕ → List ℕ
little_bytes zero n = []
little_bytes (suc w) n = n % 256 ∷ little_bytes w (n / 256)

-- The w bytes of a number: big-endian, the highest first; little-endian, the lowest first.
abbrev pub number_bytes : Order → ℕ → ℕ → List ℕ
number_bytes Big w n = digits 8 w n
number_bytes Little w n = little_bytes w n

-- The range with some bytes at a place; as it was where they do not fit.
abbrev pub bytes_put : ℕ → List ℕ → List ℕ → List ℕ
bytes_put at bytes range = cond (leb (at + length bytes) (length range)) (written_at at bytes range) range

-- The range with the w bytes of a number at a place; as it was where they do not fit.
unfoldable pub number_put : Order → ℕ → ℕ → ℕ → List ℕ → List ℕ
number_put order w at n range = cond (leb (at + w) (length range)) (written_at at (number_bytes order w n) range) range
