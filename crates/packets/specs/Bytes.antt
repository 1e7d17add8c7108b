-- Packets as bytes, four to a packet: read in either byte order, and written the lowest byte first.
-- Assumes nothing.
use Rattle.std.specs.Prelude.{List, [], ◌∷◌, ◌++◌, ℕ, ◌*◌, ◌/◌, length}
use Rattle.laws.specs.Places.{list_to}
use Rattle.fields.specs.declared.Order.{Order}
use Rattle.fields.specs.Number.{little, unsigned_at}
use Rattle.fields.specs.Written.{little_bytes}

-- The packets that bytes stand for in a byte order; what is past the last whole packet is unused.
unfoldable pub packets_by : Order → List ℕ → List ℕ
packets_by order bytes = list_to (λ k. unsigned_at order 4 bytes (4 * k)) (length bytes / 4)

-- The packets that little-endian bytes stand for.
abbrev pub packets_of : List ℕ → List ℕ
packets_of bytes = packets_by little bytes

-- The bytes of packets.
unfoldable pub bytes_of : List ℕ → List ℕ
bytes_of [] = []
bytes_of (p ∷ packets) = little_bytes 4 p ++ bytes_of packets
