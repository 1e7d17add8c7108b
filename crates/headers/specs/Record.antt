-- The check of one header record, the part from start up to end of a header file.
-- Assumes nothing.
use Rattle.std.specs.Prelude.{ℕ, Bool, true, false, List, [], ◌∷◌, length, take, leb, eqb, Result, Ok, Err}
use Rattle.laws.specs.Rules.{Rule, ask}
use Rattle.answers.specs.Limits.{bytes_fit, checked_by}
use Rattle.answers.specs.declared.Refusal.{Refusal}
use Rattle.answers.specs.declared.Refusal.TheVariants.{TooShort, BadHeader, TooLarge}
use Rattle.elements.specs.declared.Form.TheVariants.{Any, DefLines}
use Rattle.elements.specs.Reading.{read}

-- An element is read to its end.
abbrev pub is_read : Result ℕ Refusal → Bool
is_read (Ok n) = true
is_read (Err r) = false

-- An element ends at a place.
abbrev pub ends_at : ℕ → Result ℕ Refusal → Bool
ends_at place (Ok n) = eqb n place
ends_at place (Err r) = false

-- The refusal of an element that is not read.
abbrev pub refusal_in : Result ℕ Refusal → Refusal
refusal_in (Ok n) = BadHeader
refusal_in (Err r) = r

-- The nesting of a record, and its shape: the outermost element is at depth 1, and depth 16 is the last allowed.
abbrev pub nesting_at : List ℕ → ℕ → Result ℕ Refusal
nesting_at s start = read 16 Any s start

abbrev pub shape_at : List ℕ → ℕ → Result ℕ Refusal
shape_at s start = read 16 DefLines s start

-- The record from a place to the end of s: first the nesting is read (20 or 21), the record is one element and nothing more (20), then comes the shape (20).
abbrev pub element_rules : List ℕ → ℕ → List (Rule Refusal)
element_rules s start =
    ask (is_read (nesting_at s start)) (refusal_in (nesting_at s start))
    ∷ ask (ends_at (length s) (nesting_at s start)) BadHeader
    ∷ ask (is_read (shape_at s start)) BadHeader
    ∷ []

-- The rules of the record from start up to end of a header file: 22; 1 where it doesn't fit the file; the element.
abbrev pub record_rules : List ℕ → ℕ → ℕ → List (Rule Refusal)
record_rules header start end =
    ask (bytes_fit header) TooLarge
    ∷ ask (leb start end) TooShort
    ∷ ask (leb end (length header)) TooShort
    ∷ element_rules (take end header) start

-- The record check.
unfoldable pub check_record : List ℕ → ℕ → ℕ → Result Unit Refusal
check_record header start end = checked_by (record_rules header start end)
