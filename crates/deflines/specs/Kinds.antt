-- What an identifier writes by the plain statement, kind by kind: the values of its body's fields. A field that is absent is told apart from one that
-- holds an empty text.
-- Assumes nothing.
use Rattle.std.specs.Prelude.{List, ℕ, ℤ, Option, Some, None}
use Rattle.elements.specs.Statement.{IntegerElement, TextElement, ChoiceElement, Maybe}
use Rattle.elements.specs.Statement as E
use Rattle.elements.specs.DefLines.{DateStdElement, DateElement, PatentNumberElement, PdbSeqIdElement, GiimportIdElement, TextseqIdElement}
use Rattle.elements.specs.DefLines.{PatentSeqIdElement, ObjectIdElement, DbtagElement, IdentifierElement}
use Rattle.elements.specs.DefLines as Z
use Rattle.elements.specs.Written.{text_written, integer_written}
use Rattle.deflines.specs.declared.ObjectId.{ObjectId}
use Rattle.deflines.specs.declared.ObjectId.TheVariants as O
use Rattle.deflines.specs.declared.TextId.{TextId}
use Rattle.deflines.specs.declared.Import.{Import}
use Rattle.deflines.specs.declared.PatentNumber.{PatentNumber}
use Rattle.deflines.specs.declared.PatentNumber.TheVariants as A
use Rattle.deflines.specs.declared.Patent.{Patent}
use Rattle.deflines.specs.declared.DatabaseTag.{DatabaseTag}
use Rattle.deflines.specs.declared.DateFields.{DateFields}
use Rattle.elements.specs.declared.Span.{Span}
use Rattle.deflines.specs.declared.Date.{Date}
use Rattle.deflines.specs.declared.Date.TheVariants as G
use Rattle.deflines.specs.declared.Structure.{Structure}
use Rattle.deflines.specs.declared.Identifier.{Identifier}
use Rattle.deflines.specs.declared.Identifier.TheVariants as D
use Rattle.deflines.specs.Identifiers.{chain_of}

-- A field that may be left out.
abbrev pub text_given : {s : List ℕ} {tag p q : ℕ} → Maybe (ChoiceElement (TextElement s) s tag) p q → Option Span
text_given (E.given c) = Some (text_written c.one)
text_given (E.absent e) = None

abbrev pub integer_given : {s : List ℕ} {tag p q : ℕ} → Maybe (ChoiceElement (IntegerElement s) s tag) p q → Option ℤ
integer_given (E.given c) = Some (integer_written c.one)
integer_given (E.absent e) = None

-- Object-id: id, or str.
abbrev pub object_id_written : {s : List ℕ} {at n : ℕ} → ObjectIdElement s at n → ObjectId
object_id_written (E.first c) = O.Number (integer_written c.one)
object_id_written (E.second c) = O.Text (text_written c.one)

-- Giimport-id: id, db, release.
abbrev pub import_written : {s : List ℕ} {at n : ℕ} → GiimportIdElement s at n → Import
import_written x =
    let id = x.fields in
    let db = id.more in
    let release = db.more in
    record { id = integer_written id.first.one; db = text_given db.first; release = text_given release.first }

-- Textseq-id: name, accession, release, version.
abbrev pub text_id_written : {s : List ℕ} {at n : ℕ} → TextseqIdElement s at n → TextId
text_id_written x =
    let name = x.fields in
    let accession = name.more in
    let release = accession.more in
    let version = release.more in
    record {
      name = text_given name.first;
      accession = text_given accession.first;
      release = text_given release.first;
      version = integer_given version.first;
    }

-- A patent's number: number, or app-number.
abbrev pub patent_number_written : {s : List ℕ} {at n : ℕ} → PatentNumberElement s at n → PatentNumber
patent_number_written (E.first c) = A.Number (text_written c.one)
patent_number_written (E.second c) = A.Application (text_written c.one)

-- Patent-seq-id: seqid, and of cit, an Id-pat, country, id and doc-type.
abbrev pub patent_written : {s : List ℕ} {at n : ℕ} → PatentSeqIdElement s at n → Patent
patent_written x =
    let seqid = x.fields in
    let cit = seqid.more in
    let country = cit.first.one.fields in
    let id = country.more in
    let doc-type = id.more in
    record {
      seqid = integer_written seqid.first.one;
      country = text_written country.first.one;
      number = patent_number_written id.first.one;
      doc_type = text_given doc-type.first;
    }

-- Dbtag: db, tag.
abbrev pub database_tag_written : {s : List ℕ} {at n : ℕ} → DbtagElement s at n → DatabaseTag
database_tag_written x =
    let db = x.fields in
    let tag = db.more in
    record { db = text_written db.first.one; tag = object_id_written tag.first.one }

-- Date-std: year, month, day, season, hour, minute, second.
abbrev pub date_fields_written : {s : List ℕ} {at n : ℕ} → DateStdElement s at n → DateFields
date_fields_written x =
    let year = x.fields in
    let month = year.more in
    let day = month.more in
    let season = day.more in
    let hour = season.more in
    let minute = hour.more in
    let second = minute.more in
    record {
      year = integer_written year.first.one;
      month = integer_given month.first;
      day = integer_given day.first;
      season = text_given season.first;
      hour = integer_given hour.first;
      minute = integer_given minute.first;
      second = integer_given second.first;
    }

-- Date: str, or std.
abbrev pub date_written : {s : List ℕ} {at n : ℕ} → DateElement s at n → Date
date_written (E.first c) = G.Text (text_written c.one)
date_written (E.second c) = G.Fields (date_fields_written c.one)

abbrev pub date_given : {s : List ℕ} {tag p q : ℕ} → Maybe (ChoiceElement (DateElement s) s tag) p q → Option Date
date_given (E.given c) = Some (date_written c.one)
date_given (E.absent e) = None

-- PDB-seq-id: mol, chain (32 where it is absent), rel.
abbrev pub structure_written : {s : List ℕ} {at n : ℕ} → PdbSeqIdElement s at n → Structure
structure_written x =
    let mol = x.fields in
    let chain = mol.more in
    let rel = chain.more in
    record { mol = text_written mol.first.one; chain = chain_of (integer_given chain.first); release = date_given rel.first }

-- Seq-id, by its kind.
abbrev pub identifier_written : {s : List ℕ} {at n : ℕ} → IdentifierElement s at n → Identifier
identifier_written (Z.local c) = D.Local (object_id_written c.one)
identifier_written (Z.gibbsq c) = D.Gibbsq (integer_written c.one)
identifier_written (Z.gibbmt c) = D.Gibbmt (integer_written c.one)
identifier_written (Z.giim c) = D.Giim (import_written c.one)
identifier_written (Z.genbank c) = D.Genbank (text_id_written c.one)
identifier_written (Z.embl c) = D.Embl (text_id_written c.one)
identifier_written (Z.pir c) = D.Pir (text_id_written c.one)
identifier_written (Z.swissprot c) = D.Swissprot (text_id_written c.one)
identifier_written (Z.patent c) = D.Patent (patent_written c.one)
identifier_written (Z.other c) = D.Other (text_id_written c.one)
identifier_written (Z.general c) = D.General (database_tag_written c.one)
identifier_written (Z.gi c) = D.Gi (integer_written c.one)
identifier_written (Z.ddbj c) = D.Ddbj (text_id_written c.one)
identifier_written (Z.prf c) = D.Prf (text_id_written c.one)
identifier_written (Z.pdb c) = D.Pdb (structure_written c.one)
identifier_written (Z.tpg c) = D.Tpg (text_id_written c.one)
identifier_written (Z.tpe c) = D.Tpe (text_id_written c.one)
identifier_written (Z.tpd c) = D.Tpd (text_id_written c.one)
identifier_written (Z.gpipe c) = D.Gpipe (text_id_written c.one)
identifier_written (Z.named_annot_track c) = D.NamedAnnotTrack (text_id_written c.one)
