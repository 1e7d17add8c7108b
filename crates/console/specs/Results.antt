-- The results of a call for the console: its values as eight-byte little-endian numbers in a lent range.
-- Assumes nothing.
use Rattle.std.specs.Prelude.{Bool, cond, List, [], ◌∷◌, ◌++◌, ℕ, ◌*◌, leb, length}
use Rattle.laws.specs.Writing.{written_at}
use Rattle.fields.specs.Written.{little_bytes}

-- Values as eight-byte little-endian numbers, one after another.
abbrev pub result_bytes : List ℕ → List ℕ
result_bytes [] = []
result_bytes (v ∷ values) = little_bytes 8 v ++ result_bytes values

-- A results range of so many bytes has room for so many values.
abbrev pub room_for : ℕ → ℕ → Bool
room_for values bytes = leb (8 * values) bytes

-- The results range with the values at its start; as it was where it has no room.
unfoldable pub results_put : List ℕ → List ℕ → List ℕ
results_put values results = cond (room_for (length values) (length results)) (written_at 0 (result_bytes values) results) results
