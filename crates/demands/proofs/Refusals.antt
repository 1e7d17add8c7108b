-- Demand 1 for the calls over one header record: where each of them is 20 or 21, as plain statements. The identifier call refuses as a walker step does:
-- but for 10 both give what the record check gives. Assumes nothing.
use Rattle.labels.specs.declared.Label.{Label}
use Rattle.std.specs.Prelude.{Err, Ok, Result}
use mathlib.Core.Path.{◌≡◌, refl, sym, ap, ◌∙◌}
use mathlib.Core.Bool.{Bool, true, not, ◌&&◌}
use mathlib.Core.List.{List, [], ◌∷◌}
use mathlib.Core.Logic.{◌↔◌, ◌⊎◌, inl, inr}
use Prim.Native.Nat.{ℕ, zero, suc, ◌+◌, ◌≤◌}
use lib.Dec.{leb, eqb}
use lib.ListN.{length, take}
use borrow.Author.Tests.{leb-true, eq-eqb}
use Rattle.laws.specs.Rules.{Rule, ask, verdict, AllHold}
use Rattle.laws.specs.Signed.{to_nat}
use Rattle.laws.proofs.Rules.{verdict-passes}
use Rattle.laws.proofs.Tests.{never, both_pass, cond_passed}
use Rattle.laws.proofs.Choices.{cond_elim}
use Rattle.answers.specs.Limits.{checked_by}
use Rattle.answers.specs.Numbers.{number_of}
use Rattle.answers.specs.declared.Refusal.{Refusal}
use Rattle.answers.specs.declared.Refusal.TheVariants.{TooShort, NoSuchSequence, BadHeader, TooDeep, TooLarge}
use Rattle.answers.proofs.Checks.{err-not_ok, err_cause}
use Rattle.volume.specs.Index.{title_length, index_rules}
use Rattle.volume.specs.Tables.{header_offset}
use Rattle.elements.specs.declared.Form.TheVariants as F
use Rattle.elements.specs.Deep.{TooDeepAt}
use Rattle.elements.proofs.Refusals.{read_refusals}
use Rattle.headers.specs.Record.{is_read, ends_at, refusal_in, nesting_at, shape_at, element_rules, check_record}
use Rattle.headers.specs.Statement.{GoodRecord}
use Rattle.headers.proofs.Record.{record_element, passes-good, good-passes}
use Rattle.deflines.specs.Numbered.{numbered}
use Rattle.deflines.specs.Calls.{title_of, identifier_of, first_in, first_of}
use Rattle.deflines.specs.Written.{titles_written, identifiers_written}
use Rattle.deflines.proofs.Calls.{title-refused, identifier_refused}
use Rattle.deflines.proofs.Written.{title-is, identifier_is}
use Rattle.labels.specs.Label.{record_label, label_of}
use Rattle.labels.specs.Holds.{LabelOffsets}
use Rattle.demands.specs.Order.{low_offset, high_offset, label_offset_rules}
use Rattle.demands.proofs.Order.{err_apart, check_record_deep, label_offsets}
use Rattle.demands.proofs.Demand2Reads.{offsets_of, offsets_rules}

-- ---- 20

-- the rules of a record's element give 20, or 21 by its nesting
abbrev HeaderCause : Refusal → Type 0
HeaderCause r = (r ≡ BadHeader) ⊎ (r ≡ TooDeep)

element_causes : (size : ℕ) (x : Result ℕ Refusal) (shape : Bool) (r : Refusal) → ((s : Refusal) → x ≡ Err s → HeaderCause s)
    → checked_by (ask (is_read x) (refusal_in x) ∷ ask (ends_at size x) BadHeader ∷ ask shape BadHeader ∷ []) ≡ Err r → HeaderCause r
element_causes size (Ok n) shape r by e =
    cond_elim (λ (y : Result Unit Refusal). y ≡ Err r → HeaderCause r) (eqb n size)
    (λ _.
    cond_elim (λ (y : Result Unit Refusal). y ≡ Err r → HeaderCause r) shape
    (λ _ f. absurd (err-not_ok r tt (sym f)))
    (λ _ f. inl cc))
    (λ _ f. inl cc) e
element_causes size (Err s) shape r by e = by r (ap Err (err_cause r s e))

module _ (header : List ℕ) (start end : ℕ) where
  -- the record fits the file
  fits : check_record header start end ≡ Err BadHeader → (length header ≤ 2147483647) × (start ≤ end) × (end ≤ length header)
  unfolding check_record
  fits e =
      let a = cond_passed (leb (length header) 2147483647) (λ z. err_apart TooLarge BadHeader refl z) e in
      let b = cond_passed (leb start end) (λ z. err_apart TooShort BadHeader refl z) a.1 in
      let c = cond_passed (leb end (length header)) (λ z. err_apart TooShort BadHeader refl z) b.1 in
      (leb-true (length header) 2147483647 a.0, leb-true start end b.0, leb-true end (length header) c.0)

  abbrev BadRecord : Type 0
  BadRecord =
      (length header ≤ 2147483647) × (start ≤ end) × (end ≤ length header)
      × (TooDeepAt 16 (take end header) start → ⊥) × (GoodRecord header start end → ⊥)

  decided : BadRecord → (c : Result Unit Refusal) → check_record header start end ≡ c → check_record header start end ≡ Err BadHeader
  decided w (Ok tt) p = absurd (w.4 (passes-good header start end p))
  decided w (Err r) p =
      let s = take end header in
      let e = record_element header start end w.0 w.1 (checked_by (element_rules s start)) w.2 refl in
      cause (element_causes (length s) (nesting_at s start) (is_read (shape_at s start)) r (λ t q. read_refusals 16 F.Any s start t q) (e ∙ p))
    where
      cause : (r ≡ BadHeader) ⊎ (r ≡ TooDeep) → check_record header start end ≡ Err BadHeader
      cause (inl q) = p ∙ ap Err q
      cause (inr q) = absurd (w.3 ((check_record_deep header start end).0 (p ∙ ap Err q)).3)

  -- The record check gives 20 exactly where the record fits the file, reading does not go down to an element at depth 17, and the record is not good.
  pub check_record-bad : (check_record header start end ≡ Err BadHeader)
      ↔ ((length header ≤ 2147483647) × (start ≤ end) × (end ≤ length header)
      × (TooDeepAt 16 (take end header) start → ⊥) × (GoodRecord header start end → ⊥))
  check_record-bad = (
    λ e.
        let f = fits e in (
          f.0,
          f.1,
          f.2,
          λ deep. err_apart BadHeader TooDeep refl (sym e ∙ (check_record_deep header start end).1 (f.0, f.1, f.2, deep)),
          λ good. err-not_ok BadHeader tt (sym e ∙ good-passes header start end good),
        ),
    λ w. decided w (check_record header start end) refl,
  )

-- ---- steps and identifiers

-- number k of a list, or 10: no other refusal
numbered_ten : {X : Type 0} (xs : List X) (k : ℕ) (r : Refusal) → numbered xs k Ok (λ _. Err NoSuchSequence) ≡ Err r → NoSuchSequence ≡ r
numbered_ten [] k r e = err_cause r NoSuchSequence e
numbered_ten (x ∷ xs) zero r e = absurd (err-not_ok r x (sym e))
numbered_ten (x ∷ xs) (suc k) r e = numbered_ten xs k r e

module _ (header : List ℕ) (start end : ℕ) where
  -- a call that asks the record's rules first: it gives another refusal than 10 exactly where the record check gives that
  as_record : {A : Type 0} (answer : Result A Refusal) (c : Result Unit Refusal) → check_record header start end ≡ c
      → ((r : Refusal) → check_record header start end ≡ Err r → Err r ≡ answer)
      → (GoodRecord header start end → (r : Refusal) → answer ≡ Err r → NoSuchSequence ≡ r)
      → (r : Refusal) → (NoSuchSequence ≡ r → ⊥) → answer ≡ Err r → check_record header start end ≡ Err r
  as_record answer (Ok tt) p refuse ten r n e = absurd (n (ten (passes-good header start end p) r e))
  as_record answer (Err s) p refuse ten r n e = p ∙ ap Err (err_cause r s (refuse s p ∙ e))

  -- A walker's step gives a refusal other than 10 exactly where the record check gives it ..
  pub step-refuses : (given : ℕ) (r : Refusal) → (NoSuchSequence ≡ r → ⊥)
      → (title_of header start end given ≡ Err r) ↔ (check_record header start end ≡ Err r)
  step-refuses given r n = (
    as_record (title_of header start end given) (check_record header start end) refl (title-refused header start end given)
        (λ good s e. numbered_ten (titles_written good) given s (sym (title-is header start end good given) ∙ e)) r n,
    λ e. sym (title-refused header start end given r e),
  )

  -- .. and so does the identifier call: it refuses as a step does.
  pub identifier_refuses : (number : ℕ) (r : Refusal) → (NoSuchSequence ≡ r → ⊥)
      → (identifier_of header start end number ≡ Err r) ↔ (check_record header start end ≡ Err r)
  identifier_refuses number r n = (
    as_record (identifier_of header start end number) (check_record header start end) refl (identifier_refused header start end number)
        (λ good s e. numbered_ten (identifiers_written good) number s (sym (identifier_is header start end good number) ∙ e)) r n,
    λ e. sym (identifier_refused header start end number r e),
  )

-- ---- labels

-- no rule's refusal is r, by its number
abbrev lacks : Refusal → List (Rule Refusal) → Bool
lacks r [] = true
lacks r (rule ∷ rules) = not (eqb (number_of rule.refusal) (number_of r)) && lacks r rules

-- a refusal that no rule of the list has comes from what follows the list
behind : (fine : Result Label Refusal) (r : Refusal) (rules : List (Rule Refusal)) → lacks r rules ≡ true → verdict Err fine rules ≡ Err r
    → AllHold rules × (fine ≡ Err r)
behind fine r [] n e = (tt, e)
behind fine r (rule ∷ rules) n e =
    let p = both_pass (not (eqb (number_of rule.refusal) (number_of r))) (lacks r rules) n in
    let other : ◌≡◌ {A = Result Label Refusal} (Err rule.refusal) (Err r) → ⊥ =
    λ f. never (rw (eq-eqb (number_of rule.refusal) (number_of r) (ap number_of (err_cause r rule.refusal f))) at p.0) in
    let a = cond_passed rule.holds other e in
    let w = behind fine r rules p.1 a.1 in
    ((a.0, w.0), w.1)

-- the label of a record is its refusal only where the record check refuses
first-refused : (title : ℕ) (s : List ℕ) (start : ℕ) (c : Result Unit Refusal) (r : Refusal) → record_label title (first_in s start c) ≡ Err r → c ≡ Err r
first-refused title s start (Ok tt) r e = absurd (err-not_ok r _ (sym e))
first-refused title s start (Err q) r e = ap Err (err_cause r q e)

module _ (index header : List ℕ) (i : ℕ) where
  -- no rule before the record gives 20 or 21
  lacks_header : (r : Refusal) → (r ≡ BadHeader) ⊎ (r ≡ TooDeep) → lacks r (label_offset_rules index header i) ≡ true
  unfolding index_rules
  lacks_header r (inl q) = rw q
  lacks_header r (inr q) = rw q

  -- The label call is 20 or 21 exactly where the rules before the record hold and the check of the record between the offsets gives that.
  pub label_refuses : (r : Refusal) → (r ≡ BadHeader) ⊎ (r ≡ TooDeep)
      → (label_of index header i ≡ Err r)
      ↔ (LabelOffsets index header i × (check_record header (to_nat (header_offset index i)) (to_nat (header_offset index (i + 1))) ≡ Err r))
  unfolding first_of
  label_refuses r which =
      let low = to_nat (low_offset index i) in
      let high = to_nat (high_offset index i) in
      let title = title_length index in (
        λ e.
            let w = behind _ r (label_offset_rules index header i) (lacks_header r which) (sym (label_offsets index header i) ∙ e) in
            (offsets_of index header i w.0, first-refused title (take high header) low (check_record header low high) r w.1),
        λ w.
            label_offsets index header i
            ∙ verdict-passes Err _ (label_offset_rules index header i) (offsets_rules index header i w.0)
            ∙ ap (λ (c : Result Unit Refusal). record_label title (first_in (take high header) low c)) w.1,
      )
