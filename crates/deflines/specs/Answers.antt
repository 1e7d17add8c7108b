-- Document 01's number and the values of each answer of this crate.
-- Assumes nothing.
use Rattle.std.specs.Prelude.{ℕ, List, [], ◌∷◌, ◌++◌, ℤ, pos, Option, Some, None, Result, Ok, Err}
use Rattle.answers.specs.Numbers.{number_of}
use Rattle.answers.specs.declared.Refusal.{Refusal}
use Rattle.elements.specs.declared.Span.{Span}
use Rattle.deflines.specs.declared.ObjectId.{ObjectId}
use Rattle.deflines.specs.declared.ObjectId.TheVariants as B
use Rattle.deflines.specs.declared.TextId.{TextId}
use Rattle.deflines.specs.declared.Import.{Import}
use Rattle.deflines.specs.declared.PatentNumber.{PatentNumber}
use Rattle.deflines.specs.declared.PatentNumber.TheVariants as A
use Rattle.deflines.specs.declared.Patent.{Patent}
use Rattle.deflines.specs.declared.DatabaseTag.{DatabaseTag}
use Rattle.deflines.specs.declared.DateFields.{DateFields}
use Rattle.deflines.specs.declared.Date.{Date}
use Rattle.deflines.specs.declared.Date.TheVariants as E
use Rattle.deflines.specs.declared.Structure.{Structure}
use Rattle.deflines.specs.declared.Identifier.{Identifier}
use Rattle.deflines.specs.declared.Identifier.TheVariants as D

abbrev pub title_number : Result Span Refusal → ℕ
title_number (Ok t) = 0
title_number (Err r) = number_of r

-- A title's start and length.
abbrev pub title_values : Result Span Refusal → List ℕ
title_values (Ok t) = t.start ∷ t.len ∷ []
title_values (Err r) = []

-- A value of an identifier: a number, or that an optional field is absent.
pub data Value : Type 0 where
  number : ℤ → Value
  absent : Value

abbrev pub counted : ℕ → Value
counted n = number (pos n)

-- A text's values: its start and length.
abbrev pub text_values : Span → List Value
text_values t = counted t.start ∷ counted t.len ∷ []

-- An optional field's values: those of its text or integer, or that it is absent.
abbrev pub optional_text_values : Option Span → List Value
optional_text_values None = absent ∷ []
optional_text_values (Some t) = text_values t

abbrev pub optional_integer_value : Option ℤ → Value
optional_integer_value None = absent
optional_integer_value (Some z) = number z

-- An object-id's values: 0 and the number, or 1 and the text.
abbrev pub object_id_values : ObjectId → List Value
object_id_values (B.Number z) = counted 0 ∷ number z ∷ []
object_id_values (B.Text t) = counted 1 ∷ text_values t

abbrev pub import_values : Import → List Value
import_values x = number x.id ∷ optional_text_values x.db ++ optional_text_values x.release

abbrev pub text_id_values : TextId → List Value
text_id_values x =
    optional_text_values x.name ++ optional_text_values x.accession ++ optional_text_values x.release ++ (optional_integer_value x.version ∷ [])

-- A patent number's values: 0 and the document's, or 1 and the application's.
abbrev pub patent_number_values : PatentNumber → List Value
patent_number_values (A.Number t) = counted 0 ∷ text_values t
patent_number_values (A.Application t) = counted 1 ∷ text_values t

abbrev pub patent_values : Patent → List Value
patent_values x = number x.seqid ∷ text_values x.country ++ patent_number_values x.number ++ optional_text_values x.doc_type

abbrev pub database_tag_values : DatabaseTag → List Value
database_tag_values x = text_values x.db ++ object_id_values x.tag

abbrev pub date_fields_values : DateFields → List Value
date_fields_values x =
    number x.year ∷ optional_integer_value x.month ∷ optional_integer_value x.day
    ∷ optional_text_values x.season ++ (optional_integer_value x.hour ∷ optional_integer_value x.minute ∷ optional_integer_value x.second ∷ [])

-- A date's values: that it is absent, 0 and its text, or 1 and its fields.
abbrev pub date_values : Option Date → List Value
date_values None = absent ∷ []
date_values (Some (E.Text t)) = counted 0 ∷ text_values t
date_values (Some (E.Fields x)) = counted 1 ∷ date_fields_values x

abbrev pub structure_values : Structure → List Value
structure_values x = text_values x.mol ++ (number x.chain ∷ date_values x.release)

-- An identifier's values: its tag, and what its body says.
abbrev pub values_of : Identifier → List Value
values_of (D.Local x) = counted 160 ∷ object_id_values x
values_of (D.Gibbsq x) = counted 161 ∷ number x ∷ []
values_of (D.Gibbmt x) = counted 162 ∷ number x ∷ []
values_of (D.Giim x) = counted 163 ∷ import_values x
values_of (D.Genbank x) = counted 164 ∷ text_id_values x
values_of (D.Embl x) = counted 165 ∷ text_id_values x
values_of (D.Pir x) = counted 166 ∷ text_id_values x
values_of (D.Swissprot x) = counted 167 ∷ text_id_values x
values_of (D.Patent x) = counted 168 ∷ patent_values x
values_of (D.Other x) = counted 169 ∷ text_id_values x
values_of (D.General x) = counted 170 ∷ database_tag_values x
values_of (D.Gi x) = counted 171 ∷ number x ∷ []
values_of (D.Ddbj x) = counted 172 ∷ text_id_values x
values_of (D.Prf x) = counted 173 ∷ text_id_values x
values_of (D.Pdb x) = counted 174 ∷ structure_values x
values_of (D.Tpg x) = counted 175 ∷ text_id_values x
values_of (D.Tpe x) = counted 176 ∷ text_id_values x
values_of (D.Tpd x) = counted 177 ∷ text_id_values x
values_of (D.Gpipe x) = counted 178 ∷ text_id_values x
values_of (D.NamedAnnotTrack x) = counted 179 ∷ text_id_values x

abbrev pub identifier_number : Result Identifier Refusal → ℕ
identifier_number (Ok i) = 0
identifier_number (Err r) = number_of r

abbrev pub identifier_values : Result Identifier Refusal → List Value
identifier_values (Ok i) = values_of i
identifier_values (Err r) = []

abbrev pub first_number : Result (Option Span) Refusal → ℕ
first_number (Ok (Some t)) = 0
first_number (Ok None) = 0
first_number (Err r) = number_of r

-- The start and the length of the first def-line's title, where it has one.
abbrev pub first_values : Result (Option Span) Refusal → List ℕ
first_values (Ok (Some t)) = t.start ∷ t.len ∷ []
first_values (Ok None) = []
first_values (Err r) = []
