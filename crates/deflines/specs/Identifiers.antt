-- The identifier at a place of a record that passed its check, by its kind in source 001. A record's fields are found by their tags, and behind a tag
-- stands 80, then what the field holds. What a place or a required field has to hold is there in such a record (`identifier_is`): the answers for where
-- it is not, an empty text and 0, are never given.
-- Assumes nothing.
use Rattle.std.specs.Prelude.{ℕ, ◌+◌, cond, get_or, eqb, ℤ, pos, Option, Some, None}
use mathlib.Core.List.{List}
use Rattle.std.specs.List.{find}
use Rattle.std.specs.Option.{option_map, unwrap_or}
use Rattle.std.specs.Result.{result_unwrap_or}
use Rattle.elements.specs.declared.Span.{Span}
use Rattle.elements.specs.Parts.{span, integer_at, text_at}
use Rattle.deflines.specs.declared.ObjectId.{ObjectId}
use Rattle.deflines.specs.declared.ObjectId.TheVariants as O
use Rattle.deflines.specs.declared.TextId.{TextId}
use Rattle.deflines.specs.declared.Import.{Import}
use Rattle.deflines.specs.declared.PatentNumber.{PatentNumber}
use Rattle.deflines.specs.declared.PatentNumber.TheVariants as A
use Rattle.deflines.specs.declared.Patent.{Patent}
use Rattle.deflines.specs.declared.DatabaseTag.{DatabaseTag}
use Rattle.deflines.specs.declared.DateFields.{DateFields}
use Rattle.deflines.specs.declared.Date.{Date}
use Rattle.deflines.specs.declared.Date.TheVariants as E
use Rattle.deflines.specs.declared.Structure.{Structure}
use Rattle.deflines.specs.declared.Identifier.{Identifier}
use Rattle.deflines.specs.declared.Identifier.TheVariants as D
use Rattle.deflines.specs.Fields.{elements_in}

-- ---- texts and integers

-- The text and the integer at a place.
abbrev pub text_held : List ℕ → ℕ → Span
text_held s p = result_unwrap_or (text_at s p) (span 0 0)

abbrev pub integer_held : List ℕ → ℕ → ℤ
integer_held s p = result_unwrap_or (integer_at s p) (pos 0)

-- ---- fields by their tags

-- The place of the field with a tag, of the record at a place.
unfoldable pub field_in : List ℕ → ℕ → ℕ → Option ℕ
field_in s list tag = find (λ p. eqb (get_or s p 0) tag) (elements_in s list)

-- What a required field holds stands behind its tag and 80.
abbrev pub held_at : ℕ → Option ℕ → ℕ
held_at list (Some p) = p + 2
held_at list None = list

abbrev pub held_in : List ℕ → ℕ → ℕ → ℕ
held_in s list tag = held_at list (field_in s list tag)

-- A text and an integer that may be left out.
abbrev pub optional_text : List ℕ → Option ℕ → Option Span
optional_text s found = option_map (λ p. text_held s (p + 2)) found

abbrev pub optional_integer : List ℕ → Option ℕ → Option ℤ
optional_integer s found = option_map (λ p. integer_held s (p + 2)) found

-- ---- the bodies of identifiers

-- Object-id: A0 and an integer, or A1 and a text.
unfoldable pub object_id_at : List ℕ → ℕ → ObjectId
object_id_at s p = cond (eqb (get_or s p 0) 160) (O.Number (integer_held s (p + 2))) (O.Text (text_held s (p + 2)))

-- Giimport-id.
unfoldable pub import_at : List ℕ → ℕ → Import
import_at s p =
    record {
      id = integer_held s (held_in s p 160);
      db = optional_text s (field_in s p 161);
      release = optional_text s (field_in s p 162);
    }

-- Textseq-id.
unfoldable pub text_id_at : List ℕ → ℕ → TextId
text_id_at s p =
    record {
      name = optional_text s (field_in s p 160);
      accession = optional_text s (field_in s p 161);
      release = optional_text s (field_in s p 162);
      version = optional_integer s (field_in s p 163);
    }

-- A patent's number: A0 and the document's, or A1 and the application's.
unfoldable pub patent_number_at : List ℕ → ℕ → PatentNumber
patent_number_at s p = cond (eqb (get_or s p 0) 160) (A.Number (text_held s (p + 2))) (A.Application (text_held s (p + 2)))

-- Patent-seq-id, with the Id-pat that it cites.
unfoldable pub patent_at : List ℕ → ℕ → Patent
patent_at s p =
    record {
      seqid = integer_held s (held_in s p 160);
      country = text_held s (held_in s (held_in s p 161) 160);
      number = patent_number_at s (held_in s (held_in s p 161) 161);
      doc_type = optional_text s (field_in s (held_in s p 161) 162);
    }

-- Dbtag.
unfoldable pub database_tag_at : List ℕ → ℕ → DatabaseTag
database_tag_at s p = record { db = text_held s (held_in s p 160); tag = object_id_at s (held_in s p 161) }

-- Date-std.
unfoldable pub date_fields_at : List ℕ → ℕ → DateFields
date_fields_at s p =
    record {
      year = integer_held s (held_in s p 160);
      month = optional_integer s (field_in s p 161);
      day = optional_integer s (field_in s p 162);
      season = optional_text s (field_in s p 163);
      hour = optional_integer s (field_in s p 164);
      minute = optional_integer s (field_in s p 165);
      second = optional_integer s (field_in s p 166);
    }

-- Date: A0 and a text, or A1 and a Date-std.
unfoldable pub date_at : List ℕ → ℕ → Date
date_at s p = cond (eqb (get_or s p 0) 160) (E.Text (text_held s (p + 2))) (E.Fields (date_fields_at s (p + 2)))

-- A date that may be left out.
abbrev pub optional_date : List ℕ → Option ℕ → Option Date
optional_date s found = option_map (λ p. date_at s (p + 2)) found

-- A chain; one that is absent is 32.
abbrev pub chain_of : Option ℤ → ℤ
chain_of chain = unwrap_or chain (pos 32)

-- PDB-seq-id.
unfoldable pub structure_at : List ℕ → ℕ → Structure
structure_at s p =
    record {
      mol = text_held s (held_in s p 160);
      chain = chain_of (optional_integer s (field_in s p 161));
      release = optional_date s (field_in s p 162);
    }

-- ---- the identifier

-- A text id by its kind's tag; B3 is the last.
abbrev pub text_identifier : ℕ → TextId → Identifier
text_identifier tag id =
    cond (eqb tag 164) (D.Genbank id)
    (cond (eqb tag 165) (D.Embl id)
    (cond (eqb tag 166) (D.Pir id)
    (cond (eqb tag 167) (D.Swissprot id)
    (cond (eqb tag 169) (D.Other id)
    (cond (eqb tag 172) (D.Ddbj id)
    (cond (eqb tag 173) (D.Prf id)
    (cond (eqb tag 175) (D.Tpg id)
    (cond (eqb tag 176) (D.Tpe id)
    (cond (eqb tag 177) (D.Tpd id)
    (cond (eqb tag 178) (D.Gpipe id) (D.NamedAnnotTrack id)))))))))))

-- The identifier of a tag with its body at a place.
abbrev pub identifier_with : List ℕ → ℕ → ℕ → Identifier
identifier_with s tag p =
    cond (eqb tag 160) (D.Local (object_id_at s p))
    (cond (eqb tag 161) (D.Gibbsq (integer_held s p))
    (cond (eqb tag 162) (D.Gibbmt (integer_held s p))
    (cond (eqb tag 163) (D.Giim (import_at s p))
    (cond (eqb tag 168) (D.Patent (patent_at s p))
    (cond (eqb tag 170) (D.General (database_tag_at s p))
    (cond (eqb tag 171) (D.Gi (integer_held s p))
    (cond (eqb tag 174) (D.Pdb (structure_at s p)) (text_identifier tag (text_id_at s p)))))))))

-- The identifier at a place: its tag, 80, its body.
unfoldable pub identifier_at : List ℕ → ℕ → Identifier
identifier_at s p = identifier_with s (get_or s p 0) (p + 2)
