-- The titles and the identifiers that a good record writes, by the plain statement: from left to right over all def-lines.
-- Assumes nothing.
use Rattle.std.specs.Prelude.{List, [], ◌∷◌, ◌++◌, ℕ, Option, Some, None}
use Rattle.elements.specs.declared.Span.{Span}
use Rattle.elements.specs.Statement.{TextElement, Items, ListElement, ChoiceElement, Maybe}
use Rattle.elements.specs.Statement as E
use Rattle.elements.specs.DefLines.{IdentifierElement, DefLineElement}
use Rattle.elements.specs.Written.{text_written}
use Rattle.headers.specs.Statement.{GoodRecord}
use Rattle.deflines.specs.declared.Identifier.{Identifier}
use Rattle.deflines.specs.Kinds.{identifier_written}

-- A def-line writes a title where its first field is given.
abbrev pub title_written : {s : List ℕ} {tag p q : ℕ} → Maybe (ChoiceElement (TextElement s) s tag) p q → List Span
title_written (E.given c) = text_written c.one ∷ []
title_written (E.absent e) = []

abbrev pub line_titles : {s : List ℕ} {p n : ℕ} → DefLineElement s p n → List Span
line_titles line = title_written line.fields.first

abbrev pub set_titles : {s : List ℕ} {p n : ℕ} → Items (DefLineElement s) s p n → List Span
set_titles (E.close c e) = []
set_titles (E.item line rest) = line_titles line ++ set_titles rest

abbrev pub titles_written : {header : List ℕ} {start end : ℕ} → GoodRecord header start end → List Span
titles_written good = set_titles good.shape.items

-- The first def-line's title, where there is a def-line and it has one.
abbrev pub first_title : List Span → Option Span
first_title [] = None
first_title (t ∷ ts) = Some t

abbrev pub first_line : {s : List ℕ} {p n : ℕ} → Items (DefLineElement s) s p n → Option Span
first_line (E.close c e) = None
first_line (E.item line rest) = first_title (line_titles line)

abbrev pub first_written : {header : List ℕ} {start end : ℕ} → GoodRecord header start end → Option Span
first_written good = first_line good.shape.items

-- The identifiers of a list, and of a def-line: its second field's, where that is given.
abbrev pub list_identifiers : {s : List ℕ} {p n : ℕ} → Items (IdentifierElement s) s p n → List Identifier
list_identifiers (E.close c e) = []
list_identifiers (E.item i rest) = identifier_written i ∷ list_identifiers rest

abbrev pub list_written : {s : List ℕ} {tag p q : ℕ} → Maybe (ChoiceElement (ListElement (IdentifierElement s) s) s tag) p q → List Identifier
list_written (E.given c) = list_identifiers c.one.items
list_written (E.absent e) = []

abbrev pub line_identifiers : {s : List ℕ} {p n : ℕ} → DefLineElement s p n → List Identifier
line_identifiers line = list_written line.fields.more.first

abbrev pub set_identifiers : {s : List ℕ} {p n : ℕ} → Items (DefLineElement s) s p n → List Identifier
set_identifiers (E.close c e) = []
set_identifiers (E.item line rest) = line_identifiers line ++ set_identifiers rest

abbrev pub identifiers_written : {header : List ℕ} {start end : ℕ} → GoodRecord header start end → List Identifier
identifiers_written good = set_identifiers good.shape.items
