-- Numbers as digits of k bits: the codes of a packet, the bases of a byte, the bytes of a field.
-- Assumes nothing.
use Rattle.std.specs.Prelude.{Bool, true, ◌&&◌, List, [], ◌∷◌, ltb, ℕ, zero, suc, ◌+◌, ◌*◌, ◌/◌, ◌%◌, ◌^◌}

-- The lowest n digits of p, of k bits each, the highest first.
unfoldable pub digits : ℕ → ℕ → ℕ → List ℕ
digits k zero p = []
digits k (suc n) p = p / 2 ^ (k * n) % 2 ^ k ∷ digits k n p

-- The number that digits of k bits write after those of acc, the first one highest.
unfoldable pub value : ℕ → ℕ → List ℕ → ℕ
value k acc [] = acc
value k acc (d ∷ ds) = value k (acc * 2 ^ k + d) ds

-- Every number of the list is below m.
unfoldable pub all_below : ℕ → List ℕ → Bool
all_below m [] = true
all_below m (x ∷ xs) = ltb x m && all_below m xs
