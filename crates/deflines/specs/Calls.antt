-- What the calls over one record answer: a title after so many, an identifier by its number, the first def-line's title.
-- Assumes nothing.
use Rattle.std.specs.Prelude.{ℕ, List, take, Option, Result, Ok, Err}
use Rattle.std.specs.Option.{ok_or}
use Rattle.std.specs.ControlFlow.{break_value}
use Rattle.std.specs.declared.ops.ControlFlow.{ControlFlow}
use Rattle.std.specs.declared.ops.ControlFlow.TheVariants.{Break, Continue}
use Rattle.answers.specs.declared.Refusal.{Refusal}
use Rattle.answers.specs.declared.Refusal.TheVariants.{NoSuchSequence}
use Rattle.headers.specs.Record.{check_record}
use Rattle.elements.specs.declared.Span.{Span}
use Rattle.deflines.specs.declared.Identifier.{Identifier}
use Rattle.deflines.specs.Numbered.{item_from}
use Rattle.deflines.specs.Fields.{titles_of, identifiers_of, first_titles}
use Rattle.deflines.specs.Identifiers.{identifier_at}

-- ---- titles

-- 10 where no title is left.
abbrev pub title_given : ControlFlow Span ℕ → Result Span Refusal
title_given x = ok_or (break_value x) NoSuchSequence

abbrev pub title_in : List ℕ → ℕ → ℕ → Result Unit Refusal → Result Span Refusal
title_in s start given (Ok tt) = title_given (item_from (titles_of s start) given)
title_in s start given (Err r) = Err r

-- The title after so many others of the record from start up to end: the record's check (22, 1, 20, 21), then 10.
unfoldable pub title_of : List ℕ → ℕ → ℕ → ℕ → Result Span Refusal
title_of header start end given = title_in (take end header) start given (check_record header start end)

-- ---- identifiers

-- 10 where there is no identifier of that number.
abbrev pub identifier_given : List ℕ → ControlFlow ℕ ℕ → Result Identifier Refusal
identifier_given s (Break p) = Ok (identifier_at s p)
identifier_given s (Continue k) = Err NoSuchSequence

abbrev pub identifier_in : List ℕ → ℕ → ℕ → Result Unit Refusal → Result Identifier Refusal
identifier_in s start number (Ok tt) = identifier_given s (item_from (identifiers_of s start) number)
identifier_in s start number (Err r) = Err r

-- The identifier of a number, from 0 over all def-lines of the record from start up to end: the record's check (22, 1, 20, 21), then 10.
unfoldable pub identifier_of : List ℕ → ℕ → ℕ → ℕ → Result Identifier Refusal
identifier_of header start end number = identifier_in (take end header) start number (check_record header start end)

-- ---- the first def-line's title

abbrev pub first_given : ControlFlow Span ℕ → Result (Option Span) Refusal
first_given x = Ok (break_value x)

abbrev pub first_in : List ℕ → ℕ → Result Unit Refusal → Result (Option Span) Refusal
first_in s start (Ok tt) = first_given (item_from (first_titles s start) 0)
first_in s start (Err r) = Err r

-- The first def-line's title of the record from start up to end, where there is a def-line and it has one.
unfoldable pub first_of : List ℕ → ℕ → ℕ → Result (Option Span) Refusal
first_of header start end = first_in (take end header) start (check_record header start end)
