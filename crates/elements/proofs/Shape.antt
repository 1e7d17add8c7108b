-- The forms of a header record are read exactly where source 001 has them. Assumes nothing.
use mathlib.Core.Path.{◌≡◌, refl, sym, ◌∙◌}
use mathlib.Core.List.{List}
use mathlib.Core.Bool.{true}
use Prim.Native.Nat.{ℕ, suc, ◌≤◌}
use native.Mathlib.Omega.{arith}
use lib.Dec.{eqb}
use Rattle.laws.proofs.Tests.{never}
use Rattle.std.specs.Prelude.{Ok}
use Rattle.elements.specs.declared.RecordKind.TheVariants as R
use Rattle.elements.specs.declared.Form.{Form}
use Rattle.elements.specs.declared.Form.TheVariants as F
use Rattle.elements.specs.Grammar.{may_begin, inside, may_follow, may_close}
use Rattle.elements.specs.Reading.{read}
use Rattle.elements.specs.Statement.{IntegerElement, ListElement, ChoiceElement}
use Rattle.elements.specs.DefLines.{DateStdElement, DateElement, PatentNumberElement, IdPatElement, PdbSeqIdElement, GiimportIdElement}
use Rattle.elements.specs.DefLines.{TextseqIdElement, PatentSeqIdElement, ObjectIdElement, DbtagElement, IdentifierElement}
use Rattle.elements.specs.DefLines.{DefLineElement, DefLinesElement}
use Rattle.elements.specs.DefLines as Z
use Rattle.elements.proofs.Began.{Began, read_began, began_read}
use Rattle.elements.proofs.Began as B
use Rattle.elements.proofs.Exact.{Reads, list_sound, list_full, no_choice, integer-reads, text-reads}
use Rattle.elements.proofs.Tagged.{read-tagged, tagged-read, tag-choice, tag_cases, either_reads}
use Rattle.elements.proofs.Records.{required, optional, ended, record-reads}

-- ---- lists of one form

-- a form that begins with 30, lets any element follow any, and any be the last
module _ (depth : ℕ) (s : List ℕ) (form : Form) (One : ℕ → ℕ → Type 0) (begin : (b : ℕ) → may_begin form b ≡ eqb b 48)
    (follow : (low b : ℕ) → may_follow form low b ≡ true) (last : (low : ℕ) → may_close form low ≡ true) (r : Reads (read depth (inside form 48) s) One) where
  pub list-reads : Reads (read (suc depth) form s) (ListElement One s)
  list-reads =
      record {
        sound = λ at n e. go at n (read_began depth form s at n e);
        full = λ at n l. began_read depth form s at n
            (B.list (begin 48) l.tag l.opened (list_full depth (inside form 48) s One r form follow last at n l));
      }
    where
      go : (at n : ℕ) → Began (λ i p. read depth i s p) form s at n → ListElement One s at n
      go at n (B.integer m y e) = never (sym (begin 2) ∙ m)
      go at n (B.text m y e) = never (sym (begin 26) ∙ m)
      go at n (B.list m y o e) = list_sound depth (inside form 48) s One r form follow last at n y o e
      go at n (B.choice tag l h m y o e) = no_choice 48 tag (omega arith) l (sym (begin tag) ∙ m)

pub integers_reads : (depth : ℕ) (s : List ℕ) → Reads (read (suc (suc depth)) F.Integers s) (ListElement (IntegerElement s) s)
integers_reads depth s = list-reads (suc depth) s F.Integers (IntegerElement s) (λ b. refl) (λ low b. refl) (λ low. refl) (integer-reads depth s)

-- ---- source 001's definitions, with depths left for what is inside

module _ (depth : ℕ) (s : List ℕ) where
  pub date_std_reads : Reads (read (suc (suc (suc depth))) (F.Record R.DateStd) s) (DateStdElement s)
  date_std_reads =
      let d = suc depth in
      let number = integer-reads depth s in
      let k = R.DateStd in
      record-reads d s k
      (required d s k 160 number
      (optional d s k 161 number
      (optional d s k 162 number
      (optional d s k 163 (text-reads depth s)
      (optional d s k 164 number
      (optional d s k 165 number
      (optional d s k 166 number
      (ended d s k 167 refl) refl) refl) refl) refl) refl) refl) refl)

  pub giimport_id_reads : Reads (read (suc (suc (suc depth))) (F.Record R.GiimportId) s) (GiimportIdElement s)
  giimport_id_reads =
      let d = suc depth in
      let k = R.GiimportId in
      record-reads d s k
      (required d s k 160 (integer-reads depth s)
      (optional d s k 161 (text-reads depth s)
      (optional d s k 162 (text-reads depth s)
      (ended d s k 163 refl) refl) refl) refl)

  pub textseq_id_reads : Reads (read (suc (suc (suc depth))) (F.Record R.TextseqId) s) (TextseqIdElement s)
  textseq_id_reads =
      let d = suc depth in
      let k = R.TextseqId in
      record-reads d s k
      (optional d s k 160 (text-reads depth s)
      (optional d s k 161 (text-reads depth s)
      (optional d s k 162 (text-reads depth s)
      (optional d s k 163 (integer-reads depth s)
      (ended d s k 164 refl) refl) refl) refl) refl)

  pub object_id_reads : Reads (read (suc (suc depth)) F.ObjectId s) (ObjectIdElement s)
  object_id_reads = either_reads (suc depth) s F.ObjectId (λ b. refl) (integer-reads depth s) (text-reads depth s)

  pub patent-number-reads : Reads (read (suc (suc depth)) F.PatentNumber s) (PatentNumberElement s)
  patent-number-reads = either_reads (suc depth) s F.PatentNumber (λ b. refl) (text-reads depth s) (text-reads depth s)

  pub date_reads : Reads (read (suc (suc (suc (suc depth)))) F.Date s) (DateElement s)
  date_reads = either_reads (suc (suc (suc depth))) s F.Date (λ b. refl) (text-reads (suc (suc depth)) s) date_std_reads

pub id_pat_reads : (depth : ℕ) (s : List ℕ) → Reads (read (suc (suc (suc (suc depth)))) (F.Record R.IdPat) s) (IdPatElement s)
id_pat_reads depth s =
    let d = suc (suc depth) in
    let k = R.IdPat in
    let text = text-reads (suc depth) s in
    record-reads d s k
    (required d s k 160 text
    (required d s k 161 (patent-number-reads depth s)
    (optional d s k 162 text
    (ended d s k 163 refl) refl) refl) refl)

pub dbtag_reads : (depth : ℕ) (s : List ℕ) → Reads (read (suc (suc (suc (suc depth)))) (F.Record R.Dbtag) s) (DbtagElement s)
dbtag_reads depth s =
    let d = suc (suc depth) in
    let k = R.Dbtag in
    record-reads d s k
    (required d s k 160 (text-reads (suc depth) s)
    (required d s k 161 (object_id_reads depth s)
    (ended d s k 162 refl) refl) refl)

-- the citation is a record inside a record
pub patent_seq_id_reads : (depth : ℕ) (s : List ℕ)
    → Reads (read (suc (suc (suc (suc (suc (suc depth)))))) (F.Record R.PatentSeqId) s) (PatentSeqIdElement s)
patent_seq_id_reads depth s =
    let d = suc (suc (suc (suc depth))) in
    let k = R.PatentSeqId in
    record-reads d s k
    (required d s k 160 (integer-reads (suc (suc (suc depth))) s)
    (required d s k 161 (id_pat_reads depth s)
    (ended d s k 162 refl) refl) refl)

-- and so is the date
pub pdb_seq_id_reads : (depth : ℕ) (s : List ℕ)
    → Reads (read (suc (suc (suc (suc (suc (suc depth)))))) (F.Record R.PdbSeqId) s) (PdbSeqIdElement s)
pdb_seq_id_reads depth s =
    let d = suc (suc (suc (suc depth))) in
    let k = R.PdbSeqId in
    record-reads d s k
    (required d s k 160 (text-reads (suc (suc (suc depth))) s)
    (optional d s k 161 (integer-reads (suc (suc (suc depth))) s)
    (optional d s k 162 (date_reads depth s)
    (ended d s k 163 refl) refl) refl) refl)

-- ---- def-lines and their identifiers, which stand at depth 5

module _ (s : List ℕ) where
  pub identifier_reads : Reads (read 12 F.Identifier s) (IdentifierElement s)
  identifier_reads = record { sound = go; full = back }
    where
      go : (at n : ℕ) → read 12 F.Identifier s at ≡ Ok n → IdentifierElement s at n
      go at n e =
          let x = read-tagged 11 s F.Identifier 179 (λ b. refl) at n e in
          tag_cases 160 x.tag x.first (λ q. Z.local (tag-choice x 160 q (object_id_reads 9 s)))
          (λ l. tag_cases 161 x.tag l (λ q. Z.gibbsq (tag-choice x 161 q (integer-reads 10 s)))
          (λ l. tag_cases 162 x.tag l (λ q. Z.gibbmt (tag-choice x 162 q (integer-reads 10 s)))
          (λ l. tag_cases 163 x.tag l (λ q. Z.giim (tag-choice x 163 q (giimport_id_reads 8 s)))
          (λ l. tag_cases 164 x.tag l (λ q. Z.genbank (tag-choice x 164 q (textseq_id_reads 8 s)))
          (λ l. tag_cases 165 x.tag l (λ q. Z.embl (tag-choice x 165 q (textseq_id_reads 8 s)))
          (λ l. tag_cases 166 x.tag l (λ q. Z.pir (tag-choice x 166 q (textseq_id_reads 8 s)))
          (λ l. tag_cases 167 x.tag l (λ q. Z.swissprot (tag-choice x 167 q (textseq_id_reads 8 s)))
          (λ l. tag_cases 168 x.tag l (λ q. Z.patent (tag-choice x 168 q (patent_seq_id_reads 5 s)))
          (λ l. tag_cases 169 x.tag l (λ q. Z.other (tag-choice x 169 q (textseq_id_reads 8 s)))
          (λ l. tag_cases 170 x.tag l (λ q. Z.general (tag-choice x 170 q (dbtag_reads 7 s)))
          (λ l. tag_cases 171 x.tag l (λ q. Z.gi (tag-choice x 171 q (integer-reads 10 s)))
          (λ l. tag_cases 172 x.tag l (λ q. Z.ddbj (tag-choice x 172 q (textseq_id_reads 8 s)))
          (λ l. tag_cases 173 x.tag l (λ q. Z.prf (tag-choice x 173 q (textseq_id_reads 8 s)))
          (λ l. tag_cases 174 x.tag l (λ q. Z.pdb (tag-choice x 174 q (pdb_seq_id_reads 5 s)))
          (λ l. tag_cases 175 x.tag l (λ q. Z.tpg (tag-choice x 175 q (textseq_id_reads 8 s)))
          (λ l. tag_cases 176 x.tag l (λ q. Z.tpe (tag-choice x 176 q (textseq_id_reads 8 s)))
          (λ l. tag_cases 177 x.tag l (λ q. Z.tpd (tag-choice x 177 q (textseq_id_reads 8 s)))
          (λ l. tag_cases 178 x.tag l (λ q. Z.gpipe (tag-choice x 178 q (textseq_id_reads 8 s)))
          (λ l. let m = x.most in let q : x.tag ≡ 179 = omega arith in Z.named_annot_track (tag-choice x 179 q (textseq_id_reads 8 s)))))))))))))))))))))

      choose : {One : ℕ → ℕ → Type 0} (tag at n : ℕ) → 160 ≤ tag → tag ≤ 179 → Reads (read 11 (inside F.Identifier tag) s) One → ChoiceElement One s tag at n
          → read 12 F.Identifier s at ≡ Ok n
      choose tag at n l h r c = tagged-read 11 s F.Identifier 179 (λ b. refl) tag at n (omega arith) l h r c

      back : (at n : ℕ) → IdentifierElement s at n → read 12 F.Identifier s at ≡ Ok n
      back at n (Z.local c) = choose 160 at n (omega arith) (omega arith) (object_id_reads 9 s) c
      back at n (Z.gibbsq c) = choose 161 at n (omega arith) (omega arith) (integer-reads 10 s) c
      back at n (Z.gibbmt c) = choose 162 at n (omega arith) (omega arith) (integer-reads 10 s) c
      back at n (Z.giim c) = choose 163 at n (omega arith) (omega arith) (giimport_id_reads 8 s) c
      back at n (Z.genbank c) = choose 164 at n (omega arith) (omega arith) (textseq_id_reads 8 s) c
      back at n (Z.embl c) = choose 165 at n (omega arith) (omega arith) (textseq_id_reads 8 s) c
      back at n (Z.pir c) = choose 166 at n (omega arith) (omega arith) (textseq_id_reads 8 s) c
      back at n (Z.swissprot c) = choose 167 at n (omega arith) (omega arith) (textseq_id_reads 8 s) c
      back at n (Z.patent c) = choose 168 at n (omega arith) (omega arith) (patent_seq_id_reads 5 s) c
      back at n (Z.other c) = choose 169 at n (omega arith) (omega arith) (textseq_id_reads 8 s) c
      back at n (Z.general c) = choose 170 at n (omega arith) (omega arith) (dbtag_reads 7 s) c
      back at n (Z.gi c) = choose 171 at n (omega arith) (omega arith) (integer-reads 10 s) c
      back at n (Z.ddbj c) = choose 172 at n (omega arith) (omega arith) (textseq_id_reads 8 s) c
      back at n (Z.prf c) = choose 173 at n (omega arith) (omega arith) (textseq_id_reads 8 s) c
      back at n (Z.pdb c) = choose 174 at n (omega arith) (omega arith) (pdb_seq_id_reads 5 s) c
      back at n (Z.tpg c) = choose 175 at n (omega arith) (omega arith) (textseq_id_reads 8 s) c
      back at n (Z.tpe c) = choose 176 at n (omega arith) (omega arith) (textseq_id_reads 8 s) c
      back at n (Z.tpd c) = choose 177 at n (omega arith) (omega arith) (textseq_id_reads 8 s) c
      back at n (Z.gpipe c) = choose 178 at n (omega arith) (omega arith) (textseq_id_reads 8 s) c
      back at n (Z.named_annot_track c) = choose 179 at n (omega arith) (omega arith) (textseq_id_reads 8 s) c

  pub identifiers_reads : Reads (read 13 F.Identifiers s) (ListElement (IdentifierElement s) s)
  identifiers_reads = list-reads 12 s F.Identifiers (IdentifierElement s) (λ b. refl) (λ low b. refl) (λ low. refl) identifier_reads

  pub def_line_reads : Reads (read 15 (F.Record R.DefLine) s) (DefLineElement s)
  def_line_reads =
      let k = R.DefLine in
      record-reads 13 s k
      (optional 13 s k 160 (text-reads 12 s)
      (optional 13 s k 161 identifiers_reads
      (optional 13 s k 162 (integer-reads 12 s)
      (optional 13 s k 163 (integers_reads 11 s)
      (optional 13 s k 164 (integers_reads 11 s)
      (optional 13 s k 165 (integers_reads 11 s)
      (ended 13 s k 166 refl) refl) refl) refl) refl) refl) refl)

  -- a set of def-lines, at depth 1
  pub def_lines_reads : Reads (read 16 F.DefLines s) (DefLinesElement s)
  def_lines_reads = list-reads 15 s F.DefLines (DefLineElement s) (λ b. refl) (λ low b. refl) (λ low. refl) def_line_reads
