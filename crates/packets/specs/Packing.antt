-- The packing rule (document 01, "Packets"). A residue is its code, a packet its 32-bit number.
-- `next` are the next codes, of which fifteen are enough, and `left` is how many residues remain.
-- Assumes nothing.
use Rattle.std.specs.Prelude.{Bool, true, false, not, cond, ◌&&◌, List, [], ◌∷◌, Option, Some, None, ℕ, zero, suc, pred, ◌+◌, ◌*◌, ◌/◌, ◌%◌, ◌^◌, min, max, leb, ltb, length, take, get_or}
use Rattle.laws.specs.Digits.{value}
use Rattle.residues.specs.Alphabets.{is_amino}

-- At least n residues remain and the next n codes are all below 4.
unfoldable pub plain : ℕ → List ℕ → Bool
plain zero next = true
plain (suc n) [] = false
plain (suc n) (c ∷ next) = ltb c 4 && plain n next

-- Four codes from a place on, as the bytes of a number, the first in the lowest.
abbrev pub four_from : List ℕ → ℕ → ℕ
four_from next at = get_or next at 0 + get_or next (at + 1) 0 * 256 + get_or next (at + 2) 0 * 65536 + get_or next (at + 3) 0 * 16777216

-- For nucleic, if at least 15 remain and the next 15 codes are all below 4, a 2-bit packet; otherwise a 5-bit packet.
unfoldable pub is_two_bit : ℕ → List ℕ → Bool
is_two_bit alphabet next = not (is_amino alphabet) && plain 15 next

-- A 2-bit packet takes fifteen residues, a 5-bit packet up to six.
unfoldable pub size_of : ℕ → List ℕ → ℕ → ℕ
size_of alphabet next left = cond (is_two_bit alphabet next) 15 (min 6 left)

-- Up to n codes, the rest filled with 31.
unfoldable pub filled : ℕ → List ℕ → List ℕ
filled zero next = []
filled (suc n) [] = 31 ∷ filled n []
filled (suc n) (c ∷ next) = c ∷ filled n next

-- Fifteen 2-bit codes, the first highest; bit 30 is clear.
abbrev pub two_bit_part : List ℕ → ℕ
two_bit_part next = value 2 0 (take 15 next)

-- The 2-bit packet, with bit 31 clear, where fifteen codes below 4 come next.
unfoldable pub next_two_bit : List ℕ → Option ℕ
next_two_bit next = cond (plain 15 next) (Some (two_bit_part next)) None

-- Bit 30, and six 5-bit codes from bit 29 down.
abbrev pub five_bit_part : List ℕ → ℕ
five_bit_part next = 2 ^ 30 + value 5 0 (filled 6 next)

-- Only the last packet has bit 31: the one that takes all residues that remain.
abbrev pub end_bit : Bool → ℕ
end_bit last = cond last (2 ^ 31) 0

-- The next packet.
unfoldable pub packet_of : ℕ → List ℕ → ℕ → ℕ
packet_of alphabet next left =
    end_bit (leb left (size_of alphabet next left)) + cond (is_two_bit alphabet next) (two_bit_part next) (five_bit_part next)

-- The same where all codes that remain are at hand.
abbrev pub size : ℕ → List ℕ → ℕ
size alphabet codes = size_of alphabet codes (length codes)

abbrev pub packet : ℕ → List ℕ → ℕ
packet alphabet codes = packet_of alphabet codes (length codes)

-- The packets that follow after the next k residues.
unfoldable pub later : ℕ → ℕ → List ℕ → List ℕ
later alphabet k [] = []
later alphabet zero (c ∷ codes) = packet alphabet (c ∷ codes) ∷ later alphabet (pred (size alphabet (c ∷ codes))) codes
later alphabet (suc k) (c ∷ codes) = later alphabet k codes

-- The run of a sequence: packet after packet as long as residues remain; no residues give one packet.
unfoldable pub run : ℕ → List ℕ → List ℕ
run alphabet codes = packet alphabet codes ∷ later alphabet (size alphabet codes) codes

-- n/6 rounded up.
abbrev pub sixths : ℕ → ℕ
sixths n = (n + 5) / 6

-- How many packets take all residues where each takes six: the larger of 1 and L/6 rounded up.
abbrev pub sixes : ℕ → ℕ
sixes left = max 1 (sixths left)

-- How many packets nucleic codes take that are all below 4, where there is one: L/15 rounded down plus (L mod 15)/6 rounded up.
abbrev pub plain_packets : ℕ → ℕ
plain_packets left = left / 15 + sixths (left % 15)
