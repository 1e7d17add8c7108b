-- Places counted in packets and places counted in bytes.
-- Assumes nothing.
use Rattle.std.specs.Prelude.{ℕ, ◌+◌, ◌*◌, min}

-- The byte at which a packet begins, behind a header of so many bytes: four bytes to a packet; the largest number where that does not fit.
abbrev pub byte_of : ℕ → ℕ → ℕ
byte_of header place = min (4 * place + header) 18446744073709551615
