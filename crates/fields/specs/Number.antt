-- A field of a file: w bytes at a place, read as a number in a byte order, unsigned or in two's complement.
-- A byte past the end of the file reads as 0.
-- Assumes nothing.
use Rattle.std.specs.Prelude.{ℕ, zero, suc, ◌+◌, ◌*◌, ◌-◌, ◌/◌, ◌^◌, cond, List, [], ◌∷◌, get_or, ltb, ℤ, pos, negsuc}
use Rattle.laws.specs.Digits.{value}
use Rattle.fields.specs.declared.Order.{Order}
use Rattle.fields.specs.declared.Order.TheVariants.{Big, Little}

-- The two byte orders.
abbrev pub big : Order
big = Big

abbrev pub little : Order
little = Little

-- The number that some bytes write: big-endian, the first byte is the highest; little-endian, it is the lowest.
abbrev pub number : Order → List ℕ → ℕ
number Big bytes = value 8 0 bytes
number Little [] = 0
number Little (b ∷ bytes) = b + 256 * number Little bytes

-- The w bytes of `file` from place at + k on.
abbrev pub bytes_at : ℕ → List ℕ → ℕ → ℕ → List ℕ
bytes_at zero file at k = []
bytes_at (suc w) file at k = get_or file (at + k) 0 ∷ bytes_at w file at (suc k)

-- The unsigned field of w bytes at a place.
unfoldable pub unsigned_at : Order → ℕ → List ℕ → ℕ → ℕ
unsigned_at order w file at = number order (bytes_at w file at 0)

-- Two's complement over w bytes: the upper half of the numbers are the negative ones.
abbrev pub signed : ℕ → ℕ → ℤ
signed w n = cond (ltb n (256 ^ w / 2)) (pos n) (negsuc (256 ^ w - suc n))

-- The signed field of w bytes at a place.
unfoldable pub signed_at : Order → ℕ → List ℕ → ℕ → ℤ
signed_at order w file at = signed w (unsigned_at order w file at)
