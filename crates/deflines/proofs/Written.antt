-- The titles and the identifiers of a good record are those that it writes, none missed and none added. Assumes nothing.
use mathlib.Core.Path.{◌≡◌, refl, sym, ap, ◌∙◌}
use mathlib.Core.List.{List, [], ◌∷◌, append-nil, map, map-append, flat_map}
use Prim.Native.Nat.{ℕ, ◌+◌, ◌≤◌}
use native.Mathlib.Omega.{arith}
use borrow.Author.Tests.{ne_eqb}
use lib.ListN.{length, length-map, get_or, take}
use Rattle.answers.specs.declared.Refusal.TheVariants.{NoSuchSequence}
use Rattle.elements.specs.declared.Span.{Span}
use Rattle.answers.specs.declared.Refusal.{Refusal}
use Rattle.std.specs.Prelude.{Result, Ok, Err}
use Rattle.std.specs.ControlFlow.{break_value}
use Rattle.std.specs.declared.ops.ControlFlow.TheVariants.{Break, Continue}
use Rattle.elements.specs.declared.RecordKind.TheVariants as R
use Rattle.elements.specs.declared.Form.TheVariants as F
use Rattle.elements.specs.Parts.{text_at}
use Rattle.elements.specs.Statement.{IntegerElement, TextElement, Items, ListElement, ChoiceElement, Maybe}
use Rattle.elements.specs.Statement as E
use Rattle.elements.specs.DefLines.{IdentifierElement, DefLineElement}
use Rattle.elements.proofs.Shape.{integers_reads, identifier_reads, identifiers_reads, def_line_reads}
use Rattle.elements.proofs.Written.{text_written_lem}
use Rattle.headers.specs.Statement.{GoodRecord}
use Rattle.headers.proofs.Record.{good-passes}
use Rattle.deflines.specs.declared.Identifier.{Identifier}
use Rattle.deflines.specs.declared.Field.TheVariants as L
use Rattle.deflines.specs.Fields.{elements_left, elements_in, field_at, title_field, field_titles, field_identifiers}
use Rattle.deflines.specs.Fields.{titles_in, titles_of, identifiers_in, identifiers_of, first_titles}
use Rattle.deflines.specs.Numbered.{numbered, item_from}
use Rattle.deflines.specs.Calls.{title_given, title_of, identifier_given, identifier_of, first_of}
use Rattle.deflines.specs.Identifiers.{identifier_at}
use Rattle.deflines.specs.Written.{title_written, line_titles, set_titles, titles_written, first_title, first_line, first_written}
use Rattle.deflines.specs.Written.{list_identifiers, list_written, line_identifiers, set_identifiers, identifiers_written}
use Rattle.deflines.proofs.Lists.{numbered_then, numbered-map}
use Rattle.deflines.proofs.Chains.{Whole, whole, text-whole, integer-whole, whole-next, element_next, none_left}
use Rattle.deflines.proofs.Chains.{left, left_one, left_ended, left_field, passed}
use Rattle.deflines.proofs.Bodies.{identifier_known}
use Rattle.deflines.proofs.Calls.{title_passed, identifier_passed, first_passed}

-- ---- fields by their tags

module _ (s : List ℕ) (p : ℕ) where
  title_field_lem : (t : Span) → get_or s p 0 ≡ 160 → text_at s (p + 2) ≡ Ok t → field_at s p ≡ L.Title t
  unfolding field_at
  title_field_lem t e h = rw (e, h)

  list_field : get_or s p 0 ≡ 161 → field_at s p ≡ L.Identifiers (p + 2)
  unfolding field_at
  list_field e = rw e

  other_field : (tag : ℕ) → 162 ≤ tag → get_or s p 0 ≡ tag → field_at s p ≡ L.Other
  unfolding field_at
  other_field tag h e =
      let a : tag ≡ 161 → ⊥ = λ z. omega arith in
      let b : tag ≡ 160 → ⊥ = λ z. omega arith in
      rw (e, ne_eqb _ _ a, ne_eqb _ _ b)

  -- a title field holds no identifiers
  no_list : (x : Result Span Refusal) → field_identifiers s (title_field x) ≡ []
  no_list (Ok t) = refl
  no_list (Err r) = refl

  title_no_list : get_or s p 0 ≡ 160 → field_identifiers s (field_at s p) ≡ []
  unfolding field_at
  title_no_list e = rw e (no_list (text_at s (p + 2)))

-- ---- the fields of a def-line

module _ (s : List ℕ) where
  identifiers_whole : Whole s (ListElement (IdentifierElement s) s)
  identifiers_whole = whole s 13 F.Identifiers (omega arith) (identifiers_reads s)

  integers_whole : Whole s (ListElement (IntegerElement s) s)
  integers_whole = whole s 2 F.Integers (omega arith) (integers_reads 0 s)

  line_whole : Whole s (DefLineElement s)
  line_whole = whole s 15 (F.Record R.DefLine) (omega arith) (def_line_reads s)

  -- where nothing that is looked for stands in the taxonomy id and the lists of integers, the identifiers are the last
  after_list : {X : Type 0} (f : ℕ → List X) → ((p tag : ℕ) → 162 ≤ tag → get_or s p 0 ≡ tag → f p ≡ []) → {p n : ℕ} (x : DefLineElement s p n)
      → left s f x.fields.more.stop ≡ []
  after_list f z x =
      let taxid = x.fields.more.more in
      let memberships = taxid.more in
      let links = memberships.more in
      let info = links.more in
      passed s f (integer-whole s) 162 refl (λ p e. z p 162 (omega arith) e) _ _ taxid.first
      ∙ passed s f integers_whole 163 refl (λ p e. z p 163 (omega arith) e) _ _ memberships.first
      ∙ passed s f integers_whole 164 refl (λ p e. z p 164 (omega arith) e) _ _ links.first
      ∙ passed s f integers_whole 165 refl (λ p e. z p 165 (omega arith) e) _ _ info.first
      ∙ left_ended s f _ info.more.close

-- ---- titles

module _ (s : List ℕ) where
  abbrev titles_at : ℕ → List Span
  titles_at p = field_titles (field_at s p)

  line_titles_lem : {p n : ℕ} (x : DefLineElement s p n) → titles_in s p ≡ line_titles x
  unfolding titles_in
  line_titles_lem {p} x = go x.fields.stop x.fields.first behind
    where
      behind : left s titles_at x.fields.stop ≡ []
      behind =
          passed s titles_at (identifiers_whole s) 161 refl (λ q e. ap field_titles (list_field s q e)) _ _ x.fields.more.first
          ∙ after_list s titles_at (λ q tag h e. ap field_titles (other_field s q tag h e)) x

      go : (q : ℕ) (m : Maybe (ChoiceElement (TextElement s) s 160) (p + 2) q) → left s titles_at q ≡ [] → left s titles_at (p + 2) ≡ title_written m
      go q (E.given c) b =
          left_field s titles_at (text-whole s) 160 refl (p + 2) q c
          ∙ rw (ap field_titles (title_field_lem s (p + 2) _ c.tagged.is (text_written_lem c.one)), b)
      go q (E.absent e) b = ap (left s titles_at) e ∙ b

  set_titles_lem : {p n : ℕ} (x : Items (DefLineElement s) s p n) → left s (titles_in s) p ≡ set_titles x
  set_titles_lem {p} (E.close c e) = left_ended s (titles_in s) p c
  set_titles_lem {p} (E.item {q} line rest) =
      left_one s (titles_in s) p q (whole-next s (line_whole s) p q line) ∙ rw (line_titles_lem line, set_titles_lem rest)

-- the first def-line alone
first-number : (ts : List Span) → break_value (item_from ts 0) ≡ first_title ts
first-number [] = refl
first-number (t ∷ ts) = refl

set_first : {s : List ℕ} {p n : ℕ} (x : Items (DefLineElement s) s p n)
    → break_value (item_from (flat_map (titles_in s) (take 1 (elements_left s p))) 0) ≡ first_line x
unfolding flat_map
set_first {s} {p} (E.close c e) = rw (none_left s p c)
set_first {s} {p} (E.item {q} line rest) =
    rw (element_next s p q (whole-next s (line_whole s) p q line), append-nil)
    (ap (λ (ts : List Span). break_value (item_from ts 0)) (line_titles_lem s line) ∙ first-number (line_titles line))

-- ---- identifiers

module _ (s : List ℕ) where
  abbrev identifiers_at : ℕ → List ℕ
  identifiers_at p = field_identifiers s (field_at s p)

  -- the identifiers at the places of a list
  list-known : {p n : ℕ} (x : Items (IdentifierElement s) s p n) → map (identifier_at s) (elements_left s p) ≡ list_identifiers x
  list-known {p} (E.close c e) = rw (none_left s p c)
  list-known {p} (E.item {q} i rest) =
      let w = whole s 12 F.Identifier (omega arith) (identifier_reads s) in
      rw (element_next s p q (whole-next s w p q i), identifier_known i, list-known rest)

  line_known : {p n : ℕ} (x : DefLineElement s p n) → map (identifier_at s) (identifiers_in s p) ≡ line_identifiers x
  unfolding identifiers_in
  line_known {p} x =
      ap (map (identifier_at s)) (passed s identifiers_at (text-whole s) 160 refl (λ q e. title_no_list s q e) (p + 2) x.fields.stop x.fields.first)
      ∙ go x.fields.stop x.fields.more.stop x.fields.more.first
      (after_list s identifiers_at (λ q tag h e. ap (field_identifiers s) (other_field s q tag h e)) x)
    where
      go : (p q : ℕ) (m : Maybe (ChoiceElement (ListElement (IdentifierElement s) s) s 161) p q) → left s identifiers_at q ≡ []
          → map (identifier_at s) (left s identifiers_at p) ≡ list_written m
      go p q (E.given c) b =
          let e : left s identifiers_at p ≡ elements_in s (p + 2) =
          left_field s identifiers_at (identifiers_whole s) 161 refl p q c ∙ rw (b, append-nil, list_field s p c.tagged.is) in
          rw e (list-known c.one.items)
      go p q (E.absent e) b = rw (ap (left s identifiers_at) e ∙ b)

  set_known : {p n : ℕ} (x : Items (DefLineElement s) s p n) → map (identifier_at s) (left s (identifiers_in s) p) ≡ set_identifiers x
  set_known {p} (E.close c e) = rw (left_ended s (identifiers_in s) p c)
  set_known {p} (E.item {q} line rest) =
      rw (left_one s (identifiers_in s) p q (whole-next s (line_whole s) p q line), map-append, line_known line, set_known rest)

-- ---- the calls

module _ (header : List ℕ) (start end : ℕ) (good : GoodRecord header start end) where
  pub titles_are : titles_of (take end header) start ≡ titles_written good
  unfolding titles_of
  titles_are = set_titles_lem (take end header) good.shape.items

  -- the title call gives title k of those that a good record writes, or 10
  pub title-is : (k : ℕ) → title_of header start end k ≡ numbered (titles_written good) k Ok (λ _. Err NoSuchSequence)
  title-is k =
      sym (title_passed header start end k _ (good-passes header start end good) refl)
      ∙ numbered_then title_given Break Continue (titles_of (take end header) start) k
      ∙ ap (λ (ts : List Span). numbered ts k Ok (λ _. Err NoSuchSequence)) titles_are

  identifiers_known : map (identifier_at (take end header)) (identifiers_of (take end header) start) ≡ identifiers_written good
  unfolding identifiers_of
  identifiers_known = set_known (take end header) good.shape.items

  pub identifiers_count : length (identifiers_of (take end header) start) ≡ length (identifiers_written good)
  identifiers_count = simp length-map at (ap length identifiers_known)

  -- the identifier call gives identifier k of those that a good record writes, or 10
  pub identifier_is : (k : ℕ) → identifier_of header start end k ≡ numbered (identifiers_written good) k Ok (λ _. Err NoSuchSequence)
  identifier_is k =
      let s = take end header in
      let places = identifiers_of s start in
      let none : ℕ → Result Identifier Refusal = λ _. Err NoSuchSequence in
      sym (identifier_passed header start end k _ (good-passes header start end good) refl)
      ∙ numbered_then (identifier_given s) Break Continue places k
      ∙ sym (numbered-map (identifier_at s) Ok none places k)
      ∙ ap (λ (xs : List Identifier). numbered xs k Ok none) identifiers_known

  -- the first title call gives the title of the first def-line that a good record writes
  pub first-is : first_of header start end ≡ Ok (first_written good)
  unfolding first_titles
  first-is =
      sym (first_passed header start end _ (good-passes header start end good) refl)
      ∙ ap Ok (set_first good.shape.items)
