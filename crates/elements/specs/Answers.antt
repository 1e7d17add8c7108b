-- Document 01's number and the values of each answer of this crate.
-- Assumes nothing.
use Rattle.std.specs.Prelude.{ℕ, List, [], ◌∷◌, ℤ, Result, Ok, Err}
use Rattle.answers.specs.Numbers.{number_of}
use Rattle.answers.specs.declared.Refusal.{Refusal}
use Rattle.elements.specs.declared.Span.{Span}

abbrev pub element_number : Result ℕ Refusal → ℕ
element_number (Ok n) = 0
element_number (Err r) = number_of r

-- The place behind the element.
abbrev pub element_values : Result ℕ Refusal → List ℕ
element_values (Ok n) = n ∷ []
element_values (Err r) = []

abbrev pub span_number : Result Span Refusal → ℕ
span_number (Ok t) = 0
span_number (Err r) = number_of r

-- A text's start and length.
abbrev pub span_values : Result Span Refusal → List ℕ
span_values (Ok t) = t.start ∷ t.len ∷ []
span_values (Err r) = []

abbrev pub integer_number : Result ℤ Refusal → ℕ
integer_number (Ok z) = 0
integer_number (Err r) = number_of r

-- The integer.
abbrev pub integer_values : Result ℤ Refusal → List ℤ
integer_values (Ok z) = z ∷ []
integer_values (Err r) = []
