-- The packets of codes that are taken in parts of one size, and of six codes that are the bytes of two numbers.
-- Assumes nothing.
use Rattle.std.specs.Prelude.{◌≡◌, Bool, List, ℕ, ◌+◌, ◌*◌, ◌-◌, ◌/◌, ◌%◌, ◌≤◌, ◌<◌, length, take, drop}
use Rattle.laws.specs.Places.{every, list_to}
use Rattle.laws.specs.Writing.{written_at}
use Rattle.packets.specs.Packing.{plain, two_bit_part, five_bit_part, run}
use Rattle.packets.specs.Bytes.{bytes_of}

-- What f makes of each of n parts of so many codes, one part behind another.
unfoldable pub parts_by : (List ℕ → ℕ) → ℕ → List ℕ → ℕ → List ℕ
parts_by f size codes n = list_to (λ k. f (drop (size * k) codes)) n

-- The first n packets where six codes make a 5-bit packet.
abbrev pub fives : List ℕ → ℕ → List ℕ
fives = parts_by (λ next. five_bit_part next) 6

-- The first n packets where fifteen codes make a 2-bit packet ..
abbrev pub twos : List ℕ → ℕ → List ℕ
twos = parts_by (λ next. two_bit_part next) 15

-- .. which they do where all of them are below 4.
abbrev pub plain_parts : List ℕ → ℕ → Bool
plain_parts codes n = every (λ k. plain 15 (drop (15 * k) codes)) n

-- Four bytes of a number and two of another are codes ..
abbrev pub SixCodes : ℕ → ℕ → Type 0
SixCodes four two =
    (four % 256 < 28) × (four / 256 % 256 < 28) × (four / 65536 % 256 < 28) × (four / 16777216 < 28) × (two % 256 < 28) × (two / 256 < 28)

-- .. and their packet: bit 30, and each code at its place.
abbrev pub six_packet : ℕ → ℕ → ℕ
six_packet four two =
    1073741824 + four % 256 * 33554432 + four / 256 % 256 * 1048576 + four / 65536 % 256 * 32768 + four / 16777216 * 1024 + two % 256 * 32 + two / 256

-- The four bytes of a number are 2-bit codes ..
abbrev pub FourBases : ℕ → Type 0
FourBases codes = (codes % 256 < 4) × (codes / 256 % 256 < 4) × (codes / 65536 % 256 < 4) × (codes / 16777216 < 4)

-- .. and the number of four digits that they make, by a product.
abbrev pub moved : ℕ → ℕ
moved codes = codes * 0x40100401 / 16777216 % 256

-- The first packets of a nucleic run are written at the start of an output that was `old` at first and is `new` now; the packets that are left
-- are those of the codes behind the codes that are taken.
abbrev pub RunBegun : List ℕ → List ℕ → ℕ → ℕ → List ℕ → Type 0
RunBegun codes old packets taken new =
    (taken ≤ length codes - 1) × (packets ≤ length (run 1 codes)) × (length new ≡ length old)
    × (new ≡ written_at 0 (bytes_of (take packets (run 1 codes))) old) × (drop packets (run 1 codes) ≡ run 1 (drop taken codes))
