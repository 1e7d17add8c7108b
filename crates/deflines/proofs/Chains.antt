-- The fields of a record that the plain statement gives, found by their tags. Assumes nothing.
use mathlib.Core.Path.{◌≡◌, refl, sym, ap, ◌∙◌}
use mathlib.Core.Bool.{true}
use mathlib.Core.List.{List, [], ◌∷◌, ◌++◌, flat_map}
use Prim.Native.Nat.{ℕ, ◌+◌, ◌≤◌, ◌<◌}
use native.Mathlib.Omega.{arith}
use borrow.Author.Tests.{eq-eqb, ne_eqb}
use lib.ListN.{get_or}
use lib.Dec.{eqb}
use Rattle.std.specs.Prelude.{Option, Some, None, Ok}
use Rattle.std.specs.List.{find}
use Rattle.std.specs.Result.{result_unwrap_or}
use Rattle.elements.specs.Parts.{span}
use lib.IntN.{pos}
use Rattle.elements.specs.declared.Form.{Form}
use Rattle.elements.specs.declared.Form.TheVariants as F
use Rattle.elements.specs.Grammar.{in_range}
use Rattle.elements.specs.Reading.{closed_at, read}
use Rattle.elements.specs.Statement.{IntegerElement, TextElement, ChoiceElement, Maybe, Required, Optional, Ended}
use Rattle.elements.specs.Statement as E
use Rattle.elements.specs.Written.{text_written, integer_written}
use Rattle.elements.proofs.Parts.{range_parts}
use Rattle.elements.proofs.Began.{bytes-close, byte_not_close, began_read, read_byte}
use Rattle.elements.proofs.Began as B
use Rattle.elements.proofs.Exact.{Reads, integer-reads, text-reads}
use Rattle.elements.proofs.Nesting.{any_reads}
use Rattle.elements.proofs.Written.{text_written_lem, integer_written_lem}
use Rattle.deflines.specs.Fields.{elements_left}
use Rattle.deflines.specs.Identifiers.{text_held, integer_held, field_in, held_at, held_in, optional_text, optional_integer}
use Rattle.deflines.specs.Kinds.{text_given, integer_given}
use Rattle.deflines.proofs.Walks.{next-closed, next-read, left-none, left-next}

module _ (s : List ℕ) where
  -- ---- what is left of a list

  -- what the plain statement has there, the nesting reads
  abbrev pub Whole : (ℕ → ℕ → Type 0) → Type 0
  Whole One = (p q : ℕ) → One p q → read 15 F.Any s p ≡ Ok q

  pub whole : (depth : ℕ) (form : Form) {One : ℕ → ℕ → Type 0} → depth ≤ 15 → Reads (read depth form s) One → Whole One
  whole depth form h r p q o = any_reads s depth 15 form p q h (r.full p q o)

  pub text-whole : Whole (TextElement s)
  text-whole = whole 1 F.Text (omega arith) (text-reads 0 s)

  pub integer-whole : Whole (IntegerElement s)
  integer-whole = whole 1 F.Integer (omega arith) (integer-reads 0 s)

  pub element_next : (p q : ℕ) → read 16 F.Any s p ≡ Ok q → elements_left s p ≡ p ∷ elements_left s q
  element_next p q e = left-next s p q (next-read s p q (byte_not_close s p (read_byte 16 F.Any s p q e)) e)

  -- an element that is not in a field
  pub whole-next : {One : ℕ → ℕ → Type 0} → Whole One → (p q : ℕ) → One p q → read 16 F.Any s p ≡ Ok q
  whole-next w p q o = any_reads s 15 16 F.Any p q (omega arith) (w p q o)

  pub none_left : (p : ℕ) → E.Close s p → elements_left s p ≡ []
  none_left p c = left-none s p (next-closed s p (bytes-close s p c))

  -- a field is one element
  field_whole : {One : ℕ → ℕ → Type 0} → Whole One → (tag : ℕ) → in_range 160 179 tag ≡ true → (p q : ℕ) → ChoiceElement One s tag p q
      → read 16 F.Any s p ≡ Ok q
  field_whole w tag g p q c =
      let r = range_parts 160 179 tag g in
      let e : closed_at s (read 15 F.Any s (p + 2)) ≡ Ok q = rw (w (p + 2) c.stop c.one, bytes-close s c.stop c.closed) (ap Ok c.ends) in
      began_read 15 F.Any s p q (B.choice tag r.0 r.1 refl c.tagged c.opened e)

  -- f is what an element holds of what is looked for
  module _ {X : Type 0} (f : ℕ → List X) where
    abbrev pub left : ℕ → List X
    left p = flat_map f (elements_left s p)

    pub left_one : (p q : ℕ) → read 16 F.Any s p ≡ Ok q → left p ≡ f p ++ left q
    unfolding flat_map
    left_one p q e = rw (element_next p q e)

    pub left_ended : (p : ℕ) → E.Close s p → left p ≡ []
    unfolding flat_map
    left_ended p c = rw (none_left p c)

    module _ {One : ℕ → ℕ → Type 0} (w : Whole One) (tag : ℕ) (g : in_range 160 179 tag ≡ true) where
      pub left_field : (p q : ℕ) → ChoiceElement One s tag p q → left p ≡ f p ++ left q
      left_field p q c = left_one p q (field_whole w tag g p q c)

      -- a field that holds nothing of it is passed
      pub passed : ((p : ℕ) → get_or s p 0 ≡ tag → f p ≡ []) → (p q : ℕ) → Maybe (ChoiceElement One s tag) p q → left p ≡ left q
      passed z p q (E.given c) = left_field p q c ∙ rw (z p c.tagged.is)
      passed z p q (E.absent e) = ap left e

  -- ---- a record's fields by their tags

  -- the first field with a tag, from p on
  abbrev found : ℕ → ℕ → Option ℕ
  found tag p = find (λ q. eqb (get_or s q 0) tag) (elements_left s p)

  found-ended : (tag p : ℕ) → E.Close s p → found tag p ≡ None
  found-ended tag p c = rw (none_left p c)

  pub field_is : (list tag : ℕ) → field_in s list tag ≡ found tag (list + 2)
  unfolding field_in
  field_is list tag = refl

  -- Of the fields of the record at a place, those from the tag `low` on are the ones from p on.
  pub record From (list p low : ℕ) : Type 0 where
    pub same : (tag : ℕ) → low ≤ tag → field_in s list tag ≡ found tag p

  pub from_first : (list : ℕ) → From list (list + 2) 160
  from_first list = record { same = λ tag h. field_is list tag }

  -- No field from the tag `low` on has a tag below it.
  pub record Later (low : ℕ) (Fields : ℕ → ℕ → Type 0) : Type 0 where
    pub none : (tag : ℕ) → tag < low → (p n : ℕ) → Fields p n → found tag p ≡ None

  pub later_ended : (low : ℕ) → Later low (Ended s)
  later_ended low = record { none = λ tag h p n x. found-ended tag p x.close }

  module _ {One : ℕ → ℕ → Type 0} (w : Whole One) {low : ℕ} (g : in_range 160 179 low ≡ true) where
    -- another tag passes a field
    other : (tag : ℕ) → (low ≡ tag → ⊥) → (p q : ℕ) → Maybe (ChoiceElement One s low) p q → found tag p ≡ found tag q
    other tag n p q (E.given c) = rw (element_next p q (field_whole w low g p q c), ne_eqb _ _ (λ z. n (sym c.tagged.is ∙ z)))
    other tag n p q (E.absent e) = ap (found tag) e

    pub from_next : {list p q : ℕ} → From list p low → Maybe (ChoiceElement One s low) p q → From list q (low + 1)
    from_next {list} {p} {q} r m =
        record {
          same = λ tag h. let k : low ≤ tag = omega arith in r.same tag k ∙ other tag (λ e. omega arith) p q m;
        }

    pub later_optional : {More : ℕ → ℕ → Type 0} → Later (low + 1) More → Later low (Optional s low One More)
    later_optional l =
        record { none = λ tag h p n x. other tag (λ e. omega arith) p x.stop x.first ∙ l.none tag (omega arith) x.stop n x.more }

    -- a field that is given is found
    pub given_found : {list p q : ℕ} → From list p low → ChoiceElement One s low p q → field_in s list low ≡ Some p
    given_found {list} {p} {q} r c =
        let e : found low p ≡ Some p = rw (element_next p q (field_whole w low g p q c), eq-eqb _ _ c.tagged.is) in
        r.same low (omega arith) ∙ e

    pub held_is : {list p q : ℕ} → From list p low → ChoiceElement One s low p q → held_in s list low ≡ p + 2
    held_is {list} r c = ap (held_at list) (given_found r c)

    -- and one that is absent is not
    pub absent_found : {list p q n : ℕ} {More : ℕ → ℕ → Type 0} → From list p low → p ≡ q → Later (low + 1) More → More q n → field_in s list low ≡ None
    absent_found {list} {p} {q} {n} r e l m = r.same low (omega arith) ∙ ap (found low) e ∙ l.none low (omega arith) q n m

  -- ---- texts and integers of fields

  pub text_held_lem : {p q : ℕ} (t : TextElement s p q) → text_held s p ≡ text_written t
  text_held_lem t = ap (λ x. result_unwrap_or x (span 0 0)) (text_written_lem t)

  pub integer_held_lem : {p q : ℕ} (i : IntegerElement s p q) → integer_held s p ≡ integer_written i
  integer_held_lem i = ap (λ x. result_unwrap_or x (pos 0)) (integer_written_lem i)

  module _ {list p low n : ℕ} (g : in_range 160 179 low ≡ true) (r : From list p low) {More : ℕ → ℕ → Type 0} where
    pub required_text : (x : Required s low (TextElement s) More p n) → text_held s (held_in s list low) ≡ text_written x.first.one
    required_text x = ap (text_held s) (held_is text-whole g r x.first) ∙ text_held_lem x.first.one

    pub required_integer : (x : Required s low (IntegerElement s) More p n) → integer_held s (held_in s list low) ≡ integer_written x.first.one
    required_integer x = ap (integer_held s) (held_is integer-whole g r x.first) ∙ integer_held_lem x.first.one

  -- ---- a field that may be left out: what f makes of its place is what v makes of the field, given or absent

  module _ {One More : ℕ → ℕ → Type 0} (w : Whole One) {list p low n : ℕ} (g : in_range 160 179 low ≡ true) (r : From list p low)
      (l : Later (low + 1) More) where
    pub optional_is : {Y : Type 0} (f : Option ℕ → Y) (v : (q : ℕ) → Maybe (ChoiceElement One s low) p q → Y)
        → ((q : ℕ) (c : ChoiceElement One s low p q) → f (Some p) ≡ v q (E.given c)) → ((q : ℕ) (e : p ≡ q) → f (None) ≡ v q (E.absent e))
        → (x : Optional s low One More p n) → f (field_in s list low) ≡ v x.stop x.first
    optional_is f v there none x = go x.stop x.first x.more
      where
        go : (q : ℕ) (m : Maybe (ChoiceElement One s low) p q) → More q n → f (field_in s list low) ≡ v q m
        go q (E.given c) m = ap f (given_found w g r c) ∙ there q c
        go q (E.absent e) m = ap f (absent_found w g r e l m) ∙ none q e

  module _ {More : ℕ → ℕ → Type 0} {list p low n : ℕ} (g : in_range 160 179 low ≡ true) (r : From list p low) (l : Later (low + 1) More) where
    pub optional_text_lem : (x : Optional s low (TextElement s) More p n) → optional_text s (field_in s list low) ≡ text_given x.first
    optional_text_lem = optional_is text-whole g r l (optional_text s) (λ q m. text_given m) (λ q c. ap Some (text_held_lem c.one)) (λ q e. refl)

    pub optional_integer_lem : (x : Optional s low (IntegerElement s) More p n) → optional_integer s (field_in s list low) ≡ integer_given x.first
    optional_integer_lem =
        optional_is integer-whole g r l (optional_integer s) (λ q m. integer_given m) (λ q c. ap Some (integer_held_lem c.one)) (λ q e. refl)
