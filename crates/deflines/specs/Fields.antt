-- What stands inside a record: its def-lines, their fields, titles and identifiers, from left to right. Places are counted in the header file.
-- Assumes nothing.
use Rattle.std.specs.Prelude.{ℕ, zero, suc, ◌+◌, cond, length, get_or, take, eqb, Option, Some, None, Result, Ok, Err}
use Rattle.answers.specs.declared.Refusal.{Refusal}
use mathlib.Core.List.{List, [], ◌∷◌, flat_map}
use Rattle.std.specs.Result.{result_ok}
use Rattle.elements.specs.declared.Span.{Span}
use Rattle.elements.specs.declared.Form.TheVariants.{Any}
use Rattle.elements.specs.Parts.{text_at}
use Rattle.elements.specs.Reading.{closes, read}
use Rattle.deflines.specs.declared.Field.{Field}
use Rattle.deflines.specs.declared.Field.TheVariants as F

-- Where the element at a place of a list ends: none at 00 00, or where no element is read.
unfoldable pub next_at : List ℕ → ℕ → Option ℕ
next_at s p = cond (closes s p) None (result_ok (read 16 Any s p))

-- The places from what comes next on.
abbrev pub from_next : Option ℕ → (ℕ → List ℕ) → List ℕ
from_next (Some n) more = more n
from_next None more = []

-- The places of the next elements, so many at most.
unfoldable pub elements_from : ℕ → List ℕ → ℕ → List ℕ
elements_from zero s p = []
elements_from (suc turns) s p = from_next (next_at s p) (λ n. p ∷ elements_from turns s n)

-- The places of the elements from p on, what is left of a list. Each takes a byte, so as many turns as there are bytes are enough.
abbrev pub elements_left : List ℕ → ℕ → List ℕ
elements_left s p = elements_from (suc (length s)) s p

-- The places of the elements inside the list at a place, whose first two bytes are 30 80.
abbrev pub elements_in : List ℕ → ℕ → List ℕ
elements_in s at = elements_left s (at + 2)

-- A title field holds a text.
abbrev pub title_field : Result Span Refusal → Field
title_field (Ok t) = F.Title t
title_field (Err r) = F.Other

-- The field of a def-line at a place, by its tag: A0 is the title, A1 the list of identifiers; behind a tag stands 80, then what it holds.
unfoldable pub field_at : List ℕ → ℕ → Field
field_at s p =
    cond (eqb (get_or s p 0) 161) (F.Identifiers (p + 2))
    (cond (eqb (get_or s p 0) 160) (title_field (text_at s (p + 2))) F.Other)

-- The titles and the identifiers that a field holds.
abbrev pub field_titles : Field → List Span
field_titles (F.Title t) = t ∷ []
field_titles (F.Identifiers p) = []
field_titles F.Other = []

abbrev pub field_identifiers : List ℕ → Field → List ℕ
field_identifiers s (F.Title t) = []
field_identifiers s (F.Identifiers p) = elements_in s p
field_identifiers s F.Other = []

-- The titles of the def-line at a place, and of the record at a place.
unfoldable pub titles_in : List ℕ → ℕ → List Span
titles_in s line = flat_map (λ p. field_titles (field_at s p)) (elements_in s line)

unfoldable pub titles_of : List ℕ → ℕ → List Span
titles_of s start = flat_map (titles_in s) (elements_in s start)

-- The places of the identifiers of the def-line at a place, and of the record at a place.
unfoldable pub identifiers_in : List ℕ → ℕ → List ℕ
identifiers_in s line = flat_map (λ p. field_identifiers s (field_at s p)) (elements_in s line)

unfoldable pub identifiers_of : List ℕ → ℕ → List ℕ
identifiers_of s start = flat_map (identifiers_in s) (elements_in s start)

-- The titles of the first def-line alone.
unfoldable pub first_titles : List ℕ → ℕ → List Span
first_titles s start = flat_map (titles_in s) (take 1 (elements_in s start))
