-- The plain statement of a header record's shape: the definitions of source 001. What a definition uses stands above it, so 001's last comes first.
-- Assumes nothing.
use Rattle.std.specs.Prelude.{List, ℕ}
use Rattle.elements.specs.Statement.{IntegerElement, TextElement, ListElement, ChoiceElement, EitherElement, Required, Optional, Ended, RecordElement}

-- Date-std ::= SEQUENCE { year INTEGER, then all OPTIONAL: month, day INTEGER, season VisibleString, hour, minute, second INTEGER }
abbrev pub DateStdElement : List ℕ → ℕ → ℕ → Type 0
DateStdElement s at n =
    RecordElement
    (Required s 160 (IntegerElement s)
    (Optional s 161 (IntegerElement s)
    (Optional s 162 (IntegerElement s)
    (Optional s 163 (TextElement s)
    (Optional s 164 (IntegerElement s)
    (Optional s 165 (IntegerElement s)
    (Optional s 166 (IntegerElement s)
    (Ended s)))))))) s at n

-- Date ::= CHOICE { str VisibleString, std Date-std }
abbrev pub DateElement : List ℕ → ℕ → ℕ → Type 0
DateElement s at n = EitherElement (TextElement s) (DateStdElement s) s at n

-- The number of a patent, in Id-pat: id CHOICE { number VisibleString, app-number VisibleString }
abbrev pub PatentNumberElement : List ℕ → ℕ → ℕ → Type 0
PatentNumberElement s at n = EitherElement (TextElement s) (TextElement s) s at n

-- Id-pat ::= SEQUENCE { country VisibleString, id (the choice above), doc-type VisibleString OPTIONAL }
abbrev pub IdPatElement : List ℕ → ℕ → ℕ → Type 0
IdPatElement s at n =
    RecordElement
    (Required s 160 (TextElement s)
    (Required s 161 (PatentNumberElement s)
    (Optional s 162 (TextElement s)
    (Ended s)))) s at n

-- PDB-seq-id ::= SEQUENCE { mol PDB-mol-id, chain INTEGER DEFAULT 32, rel Date OPTIONAL }; PDB-mol-id ::= VisibleString
abbrev pub PdbSeqIdElement : List ℕ → ℕ → ℕ → Type 0
PdbSeqIdElement s at n =
    RecordElement
    (Required s 160 (TextElement s)
    (Optional s 161 (IntegerElement s)
    (Optional s 162 (DateElement s)
    (Ended s)))) s at n

-- Giimport-id ::= SEQUENCE { id INTEGER, db VisibleString OPTIONAL, release VisibleString OPTIONAL }
abbrev pub GiimportIdElement : List ℕ → ℕ → ℕ → Type 0
GiimportIdElement s at n =
    RecordElement
    (Required s 160 (IntegerElement s)
    (Optional s 161 (TextElement s)
    (Optional s 162 (TextElement s)
    (Ended s)))) s at n

-- Textseq-id ::= SEQUENCE { all OPTIONAL: name, accession, release VisibleString, version INTEGER }
abbrev pub TextseqIdElement : List ℕ → ℕ → ℕ → Type 0
TextseqIdElement s at n =
    RecordElement
    (Optional s 160 (TextElement s)
    (Optional s 161 (TextElement s)
    (Optional s 162 (TextElement s)
    (Optional s 163 (IntegerElement s)
    (Ended s))))) s at n

-- Patent-seq-id ::= SEQUENCE { seqid INTEGER, cit Id-pat }
abbrev pub PatentSeqIdElement : List ℕ → ℕ → ℕ → Type 0
PatentSeqIdElement s at n =
    RecordElement
    (Required s 160 (IntegerElement s)
    (Required s 161 (IdPatElement s)
    (Ended s))) s at n

-- Object-id ::= CHOICE { id INTEGER, str VisibleString }
abbrev pub ObjectIdElement : List ℕ → ℕ → ℕ → Type 0
ObjectIdElement s at n = EitherElement (IntegerElement s) (TextElement s) s at n

-- Dbtag ::= SEQUENCE { db VisibleString, tag Object-id }
abbrev pub DbtagElement : List ℕ → ℕ → ℕ → Type 0
DbtagElement s at n =
    RecordElement
    (Required s 160 (TextElement s)
    (Required s 161 (ObjectIdElement s)
    (Ended s))) s at n

-- Seq-id ::= CHOICE of twenty kinds, A0 to B3.
pub data IdentifierElement (s : List ℕ) (at n : ℕ) : Type 0 where
  local : ChoiceElement (ObjectIdElement s) s 160 at n → IdentifierElement s at n
  gibbsq : ChoiceElement (IntegerElement s) s 161 at n → IdentifierElement s at n
  gibbmt : ChoiceElement (IntegerElement s) s 162 at n → IdentifierElement s at n
  giim : ChoiceElement (GiimportIdElement s) s 163 at n → IdentifierElement s at n
  genbank : ChoiceElement (TextseqIdElement s) s 164 at n → IdentifierElement s at n
  embl : ChoiceElement (TextseqIdElement s) s 165 at n → IdentifierElement s at n
  pir : ChoiceElement (TextseqIdElement s) s 166 at n → IdentifierElement s at n
  swissprot : ChoiceElement (TextseqIdElement s) s 167 at n → IdentifierElement s at n
  patent : ChoiceElement (PatentSeqIdElement s) s 168 at n → IdentifierElement s at n
  other : ChoiceElement (TextseqIdElement s) s 169 at n → IdentifierElement s at n
  general : ChoiceElement (DbtagElement s) s 170 at n → IdentifierElement s at n
  gi : ChoiceElement (IntegerElement s) s 171 at n → IdentifierElement s at n
  ddbj : ChoiceElement (TextseqIdElement s) s 172 at n → IdentifierElement s at n
  prf : ChoiceElement (TextseqIdElement s) s 173 at n → IdentifierElement s at n
  pdb : ChoiceElement (PdbSeqIdElement s) s 174 at n → IdentifierElement s at n
  tpg : ChoiceElement (TextseqIdElement s) s 175 at n → IdentifierElement s at n
  tpe : ChoiceElement (TextseqIdElement s) s 176 at n → IdentifierElement s at n
  tpd : ChoiceElement (TextseqIdElement s) s 177 at n → IdentifierElement s at n
  gpipe : ChoiceElement (TextseqIdElement s) s 178 at n → IdentifierElement s at n
  named_annot_track : ChoiceElement (TextseqIdElement s) s 179 at n → IdentifierElement s at n

-- Blast-def-line ::= SEQUENCE { all OPTIONAL: title VisibleString, seqid SEQUENCE OF Seq-id, taxid INTEGER, memberships, links and other-info, each a
-- SEQUENCE OF INTEGER }
abbrev pub DefLineElement : List ℕ → ℕ → ℕ → Type 0
DefLineElement s at n =
    RecordElement
    (Optional s 160 (TextElement s)
    (Optional s 161 (ListElement (IdentifierElement s) s)
    (Optional s 162 (IntegerElement s)
    (Optional s 163 (ListElement (IntegerElement s) s)
    (Optional s 164 (ListElement (IntegerElement s) s)
    (Optional s 165 (ListElement (IntegerElement s) s)
    (Ended s))))))) s at n

-- Blast-def-line-set ::= SEQUENCE OF Blast-def-line
abbrev pub DefLinesElement : List ℕ → ℕ → ℕ → Type 0
DefLinesElement s at n = ListElement (DefLineElement s) s at n
