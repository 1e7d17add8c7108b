-- The two-bit bytes of nucleic codes (request 2026-03): four codes to a byte, the first highest, and a last byte that tells how many it holds.
-- Assumes nothing.
use Rattle.std.specs.Prelude.{cond, List, [], ◌∷◌, ◌++◌, ℕ, ◌+◌, ◌*◌, ◌/◌, ◌%◌, eqb, length, get_or}
use Rattle.std.specs.Int.Count.{count_trailing_zeros}
use Rattle.laws.specs.Digits.{value}
use Rattle.laws.specs.Places.{list_to}
use Rattle.residues.specs.Tables.{ambiguity_value}

-- The base that stands for a code in two bits: the first one its ambiguity value stands for, by its lowest set bit, and A for '-'.
-- A, C, G and T stand for themselves.
unfoldable pub placeholder : ℕ → ℕ
placeholder code = cond (eqb (ambiguity_value code) 0) 0 (count_trailing_zeros 32 (ambiguity_value code))

-- The base at a place; behind the last code no bit is set.
abbrev pub placeholder_at : List ℕ → ℕ → ℕ
placeholder_at codes k = placeholder (get_or codes k 0)

-- Byte m: the bases at four places, the first highest.
unfoldable pub two_bit_byte : List ℕ → ℕ → ℕ
two_bit_byte codes m = value 2 0 (list_to (λ j. placeholder_at codes (4 * m + j)) 4)

-- The bytes of L codes: L/4 whole ones, and one that holds the codes left and, in its low two bits, L mod 4.
abbrev pub two_bit_size : ℕ → ℕ
two_bit_size l = l / 4 + 1

abbrev pub last_byte : List ℕ → ℕ
last_byte codes = two_bit_byte codes (length codes / 4) + length codes % 4

abbrev pub two_bit_bytes : List ℕ → List ℕ
two_bit_bytes codes = list_to (two_bit_byte codes) (length codes / 4) ++ (last_byte codes ∷ [])
