-- Two-bit residues: four to a byte, highest first; A, C, G, T are 0 to 3.
-- Assumes nothing.
use Rattle.std.specs.Prelude.{List, ℕ, ◌+◌, ◌/◌, ◌%◌, get_or}
use Rattle.laws.specs.Digits.{digits}
use Rattle.laws.specs.Places.{list_to}

-- The four bases of a byte.
abbrev pub bases_of : ℕ → List ℕ
bases_of byte = digits 2 4 byte

-- Residue k of the two-bit bytes from a start on.
unfoldable pub base_at : List ℕ → ℕ → ℕ → ℕ
base_at sequence start k = get_or (bases_of (get_or sequence (start + k / 4) 0)) (k % 4) 0

-- The first l residues of the two-bit bytes from a start on; the other bits of the last byte are ignored.
abbrev pub two_bit_residues : List ℕ → ℕ → ℕ → List ℕ
two_bit_residues sequence start l = list_to (base_at sequence start) l
