-- The shortest form of an integer, as X.690 wants it (request 2026-06): said of all bytes, not of the first nine bits.
-- Assumes nothing.
use Rattle.std.specs.Prelude.{◌≡◌, true, List, ℕ, ◌≤◌, length, ℤ}
use Rattle.laws.specs.Digits.{value, all_below}
use Rattle.fields.specs.Number.{signed}

-- The number that some bytes write in two's complement, the first one highest.
abbrev pub twos_complement : List ℕ → ℤ
twos_complement bytes = signed (length bytes) (value 8 0 bytes)

-- No fewer bytes, of one or more, write the same number.
abbrev pub Shortest : List ℕ → Type 0
Shortest bytes =
    (other : List ℕ) → all_below 256 other ≡ true → 1 ≤ length other → twos_complement other ≡ twos_complement bytes → length bytes ≤ length other
