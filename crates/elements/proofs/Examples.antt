-- The depth of a record, and padded integers before and behind it, computed. The marked cases of document 01's table are in crate demands. Assumes
-- nothing.
use mathlib.Core.Path.{◌≡◌, refl}
use mathlib.Core.List.{List, [], ◌∷◌, ◌++◌}
use Prim.Native.Nat.{ℕ, zero, suc}
use Rattle.laws.specs.Digits.{value}
use Rattle.answers.specs.declared.Refusal.TheVariants.{BadHeader, TooDeep}
use Rattle.std.specs.Prelude.{Ok, Err}
use Rattle.elements.specs.declared.Form.TheVariants as F
use Rattle.elements.specs.Parts.{part_at, integer_allowed, integer_part, long_part, text_part}
use Rattle.elements.specs.Reading.{opens, closes, too_deep, start_of, list_end, read}

-- n lists within one another
abbrev pub nested : ℕ → List ℕ → List ℕ
nested zero inner = inner
nested (suc n) inner = (48 ∷ 128 ∷ nested n inner) ++ (0 ∷ 0 ∷ [])

-- depth 16 passes
pub sixteen : read 16 F.Any (nested 15 (2 ∷ 1 ∷ 0 ∷ [])) 0 ≡ Ok 63
unfolding read start_of list_end integer_part integer_allowed text_part long_part part_at value opens closes too_deep
sixteen = refl

-- 17 is 21
pub seventeen : read 16 F.Any (nested 16 (2 ∷ [])) 0 ≡ Err TooDeep
unfolding read start_of list_end integer_part integer_allowed text_part long_part part_at value opens closes too_deep
seventeen = refl

-- another wrong byte there is 20
pub wrong_byte : read 16 F.Any (nested 16 (5 ∷ [])) 0 ≡ Err BadHeader
unfolding read start_of list_end integer_part integer_allowed text_part long_part part_at value opens closes too_deep
wrong_byte = refl

-- a padded integer is 20 where it stands left of an element at depth 17; right of one it is not met, and at depth 17 its first byte is 21
pub padded_met :
    (read 16 F.Any (48 ∷ 128 ∷ 2 ∷ 2 ∷ 0 ∷ 5 ∷ nested 15 (2 ∷ [])) 0 ≡ Err BadHeader)
    × (read 16 F.Any (48 ∷ 128 ∷ nested 15 (2 ∷ []) ++ (2 ∷ 2 ∷ 0 ∷ 5 ∷ 0 ∷ 0 ∷ [])) 0 ≡ Err TooDeep)
    × (read 16 F.Any (nested 16 (2 ∷ 2 ∷ 0 ∷ 5 ∷ [])) 0 ≡ Err TooDeep)
unfolding read start_of list_end integer_part integer_allowed text_part long_part part_at value opens closes too_deep
padded_met = (refl, refl, refl)
