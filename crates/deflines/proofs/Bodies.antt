-- An identifier of a good record is the one that it writes, kind by kind. Assumes nothing.
use mathlib.Core.Path.{◌≡◌, refl, ap}
use mathlib.Core.List.{List}
use Prim.Native.Nat.{ℕ, ◌+◌}
use native.Mathlib.Omega.{arith}
use borrow.Author.Tests.{eq-eqb, ne_eqb}
use lib.ListN.{get_or}
use Rattle.elements.specs.declared.RecordKind.TheVariants as R
use Rattle.elements.specs.declared.Form.TheVariants as F
use Rattle.elements.specs.Statement.{ChoiceElement}
use Rattle.elements.specs.Statement as E
use Rattle.std.specs.Prelude.{Some}
use Rattle.elements.specs.DefLines.{DateStdElement, DateElement, PatentNumberElement, IdPatElement, PdbSeqIdElement, GiimportIdElement}
use Rattle.elements.specs.DefLines.{TextseqIdElement, PatentSeqIdElement, ObjectIdElement, DbtagElement, IdentifierElement}
use Rattle.elements.specs.DefLines as Z
use Rattle.elements.proofs.Shape.{object_id_reads, patent-number-reads, id_pat_reads, date_reads}
use Rattle.deflines.specs.declared.Date.TheVariants as G
use Rattle.deflines.specs.declared.Identifier.TheVariants as D
use Rattle.deflines.specs.Identifiers.{object_id_at, import_at, text_id_at, patent_number_at, patent_at, database_tag_at, date_fields_at}
use Rattle.deflines.specs.Identifiers.{date_at, optional_date, structure_at, identifier_at}
use Rattle.deflines.specs.Kinds.{object_id_written, import_written, text_id_written, patent_number_written, patent_written, database_tag_written}
use Rattle.deflines.specs.Kinds.{date_fields_written, date_written, date_given, structure_written, identifier_written}
use Rattle.deflines.proofs.Chains.{Whole, whole, text-whole, integer-whole, from_first, from_next, later_ended, later_optional, held_is}
use Rattle.deflines.proofs.Chains.{optional_is, text_held_lem, integer_held_lem, required_text, required_integer, optional_text_lem, optional_integer_lem}

-- ---- what stands in a field, the nesting reads

module _ (s : List ℕ) where
  object_id_whole : Whole s (ObjectIdElement s)
  object_id_whole = whole s 2 F.ObjectId (omega arith) (object_id_reads 0 s)

  patent-number-whole : Whole s (PatentNumberElement s)
  patent-number-whole = whole s 2 F.PatentNumber (omega arith) (patent-number-reads 0 s)

  id_pat_whole : Whole s (IdPatElement s)
  id_pat_whole = whole s 4 (F.Record R.IdPat) (omega arith) (id_pat_reads 0 s)

  date_whole : Whole s (DateElement s)
  date_whole = whole s 4 F.Date (omega arith) (date_reads 0 s)

-- ---- the sides of a choice

second_side : {One : ℕ → ℕ → Type 0} {s : List ℕ} {p q : ℕ} → ChoiceElement One s 161 p q → get_or s p 0 ≡ 160 → ⊥
second_side c z = let e = c.tagged.is in omega arith

object_id_known : {s : List ℕ} {p q : ℕ} (o : ObjectIdElement s p q) → object_id_at s p ≡ object_id_written o
unfolding object_id_at
object_id_known {s} (E.first c) = rw (eq-eqb _ _ c.tagged.is, integer_held_lem s c.one)
object_id_known {s} (E.second c) = rw (ne_eqb _ _ (second_side c), text_held_lem s c.one)

patent-number-known : {s : List ℕ} {p q : ℕ} (o : PatentNumberElement s p q) → patent_number_at s p ≡ patent_number_written o
unfolding patent_number_at
patent-number-known {s} (E.first c) = rw (eq-eqb _ _ c.tagged.is, text_held_lem s c.one)
patent-number-known {s} (E.second c) = rw (ne_eqb _ _ (second_side c), text_held_lem s c.one)

-- ---- records, field by field

import_known : {s : List ℕ} {p q : ℕ} (x : GiimportIdElement s p q) → import_at s p ≡ import_written x
unfolding import_at
import_known {s} {p} x =
    let id = x.fields in
    let db = id.more in
    let release = db.more in
    let at-id = from_first s p in
    let at-db = from_next s (integer-whole s) refl at-id (E.given id.first) in
    let at-release = from_next s (text-whole s) refl at-db db.first in
    let behind-release = later_ended s 163 in
    let behind-db = later_optional s (text-whole s) refl behind-release in
    rw (required_integer s refl at-id id, optional_text_lem s refl at-db behind-db db, optional_text_lem s refl at-release behind-release release)

text_id_known : {s : List ℕ} {p q : ℕ} (x : TextseqIdElement s p q) → text_id_at s p ≡ text_id_written x
unfolding text_id_at
text_id_known {s} {p} x =
    let name = x.fields in
    let accession = name.more in
    let release = accession.more in
    let version = release.more in
    let at_name = from_first s p in
    let at-accession = from_next s (text-whole s) refl at_name name.first in
    let at-release = from_next s (text-whole s) refl at-accession accession.first in
    let at-version = from_next s (text-whole s) refl at-release release.first in
    let behind-version = later_ended s 164 in
    let behind-release = later_optional s (integer-whole s) refl behind-version in
    let behind-accession = later_optional s (text-whole s) refl behind-release in
    let behind-name = later_optional s (text-whole s) refl behind-accession in
    rw (
      optional_text_lem s refl at_name behind-name name,
      optional_text_lem s refl at-accession behind-accession accession,
      optional_text_lem s refl at-release behind-release release,
      optional_integer_lem s refl at-version behind-version version,
    )

patent-known : {s : List ℕ} {p q : ℕ} (x : PatentSeqIdElement s p q) → patent_at s p ≡ patent_written x
unfolding patent_at
patent-known {s} {p} x =
    let seqid = x.fields in
    let cit = seqid.more in
    let country = cit.first.one.fields in
    let id = country.more in
    let doc-type = id.more in
    let at-seqid = from_first s p in
    let at-cit = from_next s (integer-whole s) refl at-seqid (E.given seqid.first) in
    let at-country = from_first s (seqid.stop + 2) in
    let at-id = from_next s (text-whole s) refl at-country (E.given country.first) in
    let at-doc-type = from_next s (patent-number-whole s) refl at-id (E.given id.first) in
    rw (
      required_integer s refl at-seqid seqid,
      held_is s (id_pat_whole s) refl at-cit cit.first,
      required_text s refl at-country country,
      held_is s (patent-number-whole s) refl at-id id.first,
      patent-number-known id.first.one,
      optional_text_lem s refl at-doc-type (later_ended s 163) doc-type,
    )

database_tag_known : {s : List ℕ} {p q : ℕ} (x : DbtagElement s p q) → database_tag_at s p ≡ database_tag_written x
unfolding database_tag_at
database_tag_known {s} {p} x =
    let db = x.fields in
    let tag = db.more in
    let at-db = from_first s p in
    let at_tag = from_next s (text-whole s) refl at-db (E.given db.first) in
    rw (
      required_text s refl at-db db,
      held_is s (object_id_whole s) refl at_tag tag.first,
      object_id_known tag.first.one,
    )

date_fields_known : {s : List ℕ} {p q : ℕ} (x : DateStdElement s p q) → date_fields_at s p ≡ date_fields_written x
unfolding date_fields_at
date_fields_known {s} {p} x =
    let year = x.fields in
    let month = year.more in
    let day = month.more in
    let season = day.more in
    let hour = season.more in
    let minute = hour.more in
    let second = minute.more in
    let at-year = from_first s p in
    let at-month = from_next s (integer-whole s) refl at-year (E.given year.first) in
    let at-day = from_next s (integer-whole s) refl at-month month.first in
    let at-season = from_next s (integer-whole s) refl at-day day.first in
    let at-hour = from_next s (text-whole s) refl at-season season.first in
    let at-minute = from_next s (integer-whole s) refl at-hour hour.first in
    let at_second = from_next s (integer-whole s) refl at-minute minute.first in
    let behind-second = later_ended s 167 in
    let behind-minute = later_optional s (integer-whole s) refl behind-second in
    let behind-hour = later_optional s (integer-whole s) refl behind-minute in
    let behind-season = later_optional s (integer-whole s) refl behind-hour in
    let behind-day = later_optional s (text-whole s) refl behind-season in
    let behind-month = later_optional s (integer-whole s) refl behind-day in
    rw (
      required_integer s refl at-year year,
      optional_integer_lem s refl at-month behind-month month,
      optional_integer_lem s refl at-day behind-day day,
      optional_text_lem s refl at-season behind-season season,
      optional_integer_lem s refl at-hour behind-hour hour,
      optional_integer_lem s refl at-minute behind-minute minute,
      optional_integer_lem s refl at_second behind-second second,
    )

date_known : {s : List ℕ} {p q : ℕ} (x : DateElement s p q) → date_at s p ≡ date_written x
unfolding date_at
date_known {s} (E.first c) = rw (eq-eqb _ _ c.tagged.is, text_held_lem s c.one)
date_known {s} (E.second c) = rw (ne_eqb _ _ (second_side c)) (ap G.Fields (date_fields_known c.one))

structure_known : {s : List ℕ} {p q : ℕ} (x : PdbSeqIdElement s p q) → structure_at s p ≡ structure_written x
unfolding structure_at
structure_known {s} {p} x =
    let mol = x.fields in
    let chain = mol.more in
    let rel = chain.more in
    let at-mol = from_first s p in
    let at-chain = from_next s (text-whole s) refl at-mol (E.given mol.first) in
    let at-rel = from_next s (integer-whole s) refl at-chain chain.first in
    let behind-rel = later_ended s 163 in
    let behind-chain = later_optional s (date_whole s) refl behind-rel in
    rw (
      required_text s refl at-mol mol,
      optional_integer_lem s refl at-chain behind-chain chain,
      optional_is s (date_whole s) refl at-rel behind-rel (optional_date s) (λ q m. date_given m) (λ q c. ap Some (date_known c.one)) (λ q e. refl) rel,
    )

-- ---- by its kind

pub identifier_known : {s : List ℕ} {p q : ℕ} (i : IdentifierElement s p q) → identifier_at s p ≡ identifier_written i
unfolding identifier_at
identifier_known {s} {p} (Z.local c) = rw c.tagged.is (ap D.Local (object_id_known c.one))
identifier_known {s} {p} (Z.gibbsq c) = rw c.tagged.is (ap D.Gibbsq (integer_held_lem s c.one))
identifier_known {s} {p} (Z.gibbmt c) = rw c.tagged.is (ap D.Gibbmt (integer_held_lem s c.one))
identifier_known {s} {p} (Z.giim c) = rw c.tagged.is (ap D.Giim (import_known c.one))
identifier_known {s} {p} (Z.genbank c) = rw c.tagged.is (ap D.Genbank (text_id_known c.one))
identifier_known {s} {p} (Z.embl c) = rw c.tagged.is (ap D.Embl (text_id_known c.one))
identifier_known {s} {p} (Z.pir c) = rw c.tagged.is (ap D.Pir (text_id_known c.one))
identifier_known {s} {p} (Z.swissprot c) = rw c.tagged.is (ap D.Swissprot (text_id_known c.one))
identifier_known {s} {p} (Z.patent c) = rw c.tagged.is (ap D.Patent (patent-known c.one))
identifier_known {s} {p} (Z.other c) = rw c.tagged.is (ap D.Other (text_id_known c.one))
identifier_known {s} {p} (Z.general c) = rw c.tagged.is (ap D.General (database_tag_known c.one))
identifier_known {s} {p} (Z.gi c) = rw c.tagged.is (ap D.Gi (integer_held_lem s c.one))
identifier_known {s} {p} (Z.ddbj c) = rw c.tagged.is (ap D.Ddbj (text_id_known c.one))
identifier_known {s} {p} (Z.prf c) = rw c.tagged.is (ap D.Prf (text_id_known c.one))
identifier_known {s} {p} (Z.pdb c) = rw c.tagged.is (ap D.Pdb (structure_known c.one))
identifier_known {s} {p} (Z.tpg c) = rw c.tagged.is (ap D.Tpg (text_id_known c.one))
identifier_known {s} {p} (Z.tpe c) = rw c.tagged.is (ap D.Tpe (text_id_known c.one))
identifier_known {s} {p} (Z.tpd c) = rw c.tagged.is (ap D.Tpd (text_id_known c.one))
identifier_known {s} {p} (Z.gpipe c) = rw c.tagged.is (ap D.Gpipe (text_id_known c.one))
identifier_known {s} {p} (Z.named_annot_track c) = rw c.tagged.is (ap D.NamedAnnotTrack (text_id_known c.one))
