-- Demand 2 for reading an index, for the lookup, the walker's step, the identifier and the label: each answers 0 exactly where document 01's rules hold,
-- as plain statements, and then gives what the files write. Assumes nothing.
use Rattle.answers.specs.declared.Refusal.{Refusal}
use Rattle.dsqdata.specs.declared.Located.{Located}
use Rattle.std.specs.Prelude.{Err, Ok, Result}
use mathlib.Core.Path.{◌≡◌, refl, sym, ap, ◌∙◌}
use mathlib.Core.List.{List, [], ◌∷◌}
use Prim.Native.Nat.{ℕ, zero, suc, ◌≤◌, ◌<◌}
use native.Mathlib.Omega.{arith}
use lib.Dec.{ltb}
use lib.IntN.{pos}
use lib.ListN.{length, get_or, take}
use borrow.Author.Tests.{leb-true, le-leb, ltb-true, lt-ltb}
use Rattle.laws.specs.Rules.{ask, AllHold}
use Rattle.laws.specs.Signed.{to_nat}
use Rattle.laws.proofs.Rules.{verdict-passes, hold-append, hold-first, hold-second}
use Rattle.laws.proofs.Signed.{le_test, test_le, at_least_zero}
use Rattle.answers.specs.declared.Refusal.TheVariants.{NoSuchSequence}
use Rattle.answers.proofs.Checks.{holds_passed}
use Rattle.answers.proofs.Numbers.{number-not-zero}
use Rattle.volume.specs.Index.{title_length, sequences, index_of, read_rules, index_answer, index_number, index_numbers, index_values}
use Rattle.volume.specs.Holds.{FieldsHold}
use Rattle.volume.proofs.Named.{index_tests, index_tests_back}
use Rattle.volume.proofs.Exact.{fields_of, fields_test}
use Rattle.dsqdata.specs.Lookup.{found_at, lookup_of, lookup_number}
use Rattle.dsqdata.specs.Rules.{LookupRules}
use Rattle.dsqdata.specs.declared.SetRecord.{SetRecord}
use Rattle.dsqdata.proofs.LookupRules.{found_rules, rules_found}
use Rattle.elements.specs.Parts.{span}
use Rattle.headers.specs.Record.{element_rules, record_rules, check_record}
use Rattle.headers.specs.Statement.{GoodRecord}
use Rattle.headers.proofs.Record.{record_element, passes-good}
use Rattle.deflines.specs.Fields.{titles_of, identifiers_of}
use Rattle.deflines.specs.Numbered.{numbered}
use Rattle.deflines.specs.Calls.{title_of, identifier_of}
use Rattle.deflines.specs.Answers.{title_number, identifier_number}
use Rattle.deflines.specs.Written.{titles_written, identifiers_written, first_written}
use Rattle.deflines.specs.declared.Identifier.TheVariants.{Gi}
use Rattle.deflines.proofs.Written.{titles_are, title-is, identifiers_count, identifier_is}
use Rattle.labels.specs.Label.{record_label, own_rules, label_of, label_number}
use Rattle.labels.specs.Holds.{LabelOffsets, LabelHolds}
use Rattle.labels.proofs.Written.{label_is}
use Rattle.demands.specs.Order.{low_offset, high_offset, label_offset_rules}
use Rattle.demands.proofs.Order.{read_index_order, title_order, identifier_order, label_order, label_zero, low-high, high-size}

-- ---- an index

module _ (index : List ℕ) where
  read_means : AllHold (read_rules index) → (length index ≤ 2147483647) × FieldsHold index
  read_means a = (leb-true _ _ a.0, fields_of index (index_tests index a.1))

  means_rules : length index ≤ 2147483647 → FieldsHold index → AllHold (read_rules index)
  means_rules small f = (le-leb _ _ small, index_tests_back index (fields_test index f))

  means_read : length index ≤ 2147483647 → FieldsHold index → index_answer index ≡ Ok (index_of index)
  means_read small f = verdict-passes Err (Ok (index_of index)) (read_rules index) (means_rules small f)

  -- `read_index` answers 0 only where the fields hold, and returns their numbers; and it answers 0 there.
  pub index_reads_only : index_number (index_answer index) ≡ 0
      → (length index ≤ 2147483647) × FieldsHold index × (index_values (index_answer index) ≡ index_numbers (index_of index))
  index_reads_only z = let m = read_means ((read_index_order index).passes.0 z) in (m.0, m.1, ap index_values (means_read m.0 m.1))

  pub index_reads : length index ≤ 2147483647 → FieldsHold index → index_number (index_answer index) ≡ 0
  index_reads small f = ap index_number (means_read small f)

-- ---- a lookup

module _ (set : SetRecord) (index : List ℕ) (number : ℕ) where
  -- A lookup answers 0 only where its rules hold, and gives the starts and lengths that the ends state in the record's byte order; and it answers 0 there.
  pub lookup_finds_only : lookup_number (lookup_of set index number) ≡ 0
      → LookupRules set index number × (lookup_of set index number ≡ Ok (found_at set.order index number))
  lookup_finds_only z = found (lookup_of set index number) refl z
    where
      found : (x : Result Located Refusal) → lookup_of set index number ≡ x → lookup_number x ≡ 0
          → LookupRules set index number × (lookup_of set index number ≡ Ok (found_at set.order index number))
      found (Ok x) e n = let w = found_rules set index number x e in (w.0, e ∙ sym (ap Ok w.1))
      found (Err r) e n = absurd (number-not-zero r n)

  pub lookup_finds : LookupRules set index number → lookup_number (lookup_of set index number) ≡ 0
  lookup_finds h = ap lookup_number (rules_found set index number h)

-- ---- titles and identifiers

numbered_at : {X Y : Type 0} (found : X → Y) (left : ℕ → Y) (xs : List X) (k : ℕ) (d : X) → k < length xs → numbered xs k found left ≡ found (get_or xs k d)
numbered_at found left [] k d h = absurd (omega arith)
numbered_at found left (x ∷ xs) zero d h = refl
numbered_at found left (x ∷ xs) (suc k) d h = numbered_at found left xs k d (omega arith)

module _ (header : List ℕ) (start end : ℕ) where
  good_of : AllHold (record_rules header start end) → GoodRecord header start end
  unfolding check_record
  good_of h = passes-good header start end (holds_passed (record_rules header start end) h)

  -- A step answers 0 only where the record is good and has more titles than were given, and gives the next one; and it answers 0 there.
  pub step_gives_only : (given : ℕ) → title_number (title_of header start end given) ≡ 0
      → (good : GoodRecord header start end) × (given < length (titles_written good))
      × (title_of header start end given ≡ Ok (get_or (titles_written good) given (span 0 0)))
  step_gives_only given z =
      let titles = titles_of (take end header) start in
      let more = ask (ltb given (length titles)) NoSuchSequence ∷ [] in
      let h = (title_order header start end given).passes.0 z in
      let good = good_of (hold-first (record_rules header start end) more h) in
      let k = ltb-true given (length titles) (hold-second (record_rules header start end) more h).0 in
      let below : given < length (titles_written good) = rw (titles_are header start end good) at k in
      (good, below, title-is header start end good given ∙ numbered_at Ok _ (titles_written good) given (span 0 0) below)

  pub step_gives : (given : ℕ) (good : GoodRecord header start end) → given < length (titles_written good)
      → title_number (title_of header start end given) ≡ 0
  step_gives given good below = ap title_number (title-is header start end good given ∙ numbered_at Ok _ (titles_written good) given (span 0 0) below)

  -- The identifier call answers 0 only where the record is good and has an identifier of that number, and gives it; and it answers 0 there.
  pub identifier_given_only : (number : ℕ) → identifier_number (identifier_of header start end number) ≡ 0
      → (good : GoodRecord header start end) × (number < length (identifiers_written good))
      × (identifier_of header start end number ≡ Ok (get_or (identifiers_written good) number (Gi (pos 0))))
  identifier_given_only number z =
      let identifiers = identifiers_of (take end header) start in
      let more = ask (ltb number (length identifiers)) NoSuchSequence ∷ [] in
      let h = (identifier_order header start end number).passes.0 z in
      let good = good_of (hold-first (record_rules header start end) more h) in
      let k = ltb-true number (length identifiers) (hold-second (record_rules header start end) more h).0 in
      let below : number < length (identifiers_written good) = rw (identifiers_count header start end good) at k in
      (good, below, identifier_is header start end good number ∙ numbered_at Ok _ (identifiers_written good) number (Gi (pos 0)) below)

  pub identifier_given_lem : (number : ℕ) (good : GoodRecord header start end) → number < length (identifiers_written good)
      → identifier_number (identifier_of header start end number) ≡ 0
  identifier_given_lem number good below =
      ap identifier_number (identifier_is header start end good number ∙ numbered_at Ok _ (identifiers_written good) number (Gi (pos 0)) below)

-- ---- labels

module _ (index header : List ℕ) (i : ℕ) where
  -- the rules before the record
  pub offsets_of : AllHold (label_offset_rules index header i) → LabelOffsets index header i
  offsets_of before =
      let low = low_offset index i in
      let high = high_offset index i in
      let own = own_rules (length header) low high in
      let more = ask (ltb i (sequences index)) NoSuchSequence ∷ own in
      let behind = hold-second (read_rules index) more before.1 in
      let m = read_means index (hold-first (read_rules index) more before.1) in
      let o = behind.1 in
      record {
        index_size = m.0;
        header_size = leb-true (length header) 2147483647 before.0;
        fields = m.1;
        number = ltb-true i (sequences index) behind.0;
        first = le_test (pos 0) low (at_least_zero low ∙ o.0);
        step = le_test low high o.1.0;
        last = le_test high (pos (length header)) o.1.1.0;
      }

  pub offsets_rules : LabelOffsets index header i → AllHold (label_offset_rules index header i)
  offsets_rules h =
      let low = low_offset index i in
      let high = high_offset index i in
      let first = sym (at_least_zero low) ∙ test_le (pos 0) low h.first in
      let own : AllHold (own_rules (length header) low high) = (first, (test_le low high h.step, (test_le high (pos (length header)) h.last, tt))) in
      let more = ask (ltb i (sequences index)) NoSuchSequence ∷ own_rules (length header) low high in
      let read = means_rules index h.index_size h.fields in
      (le-leb _ _ h.header_size, hold-append (read_rules index) more read (lt-ltb i (sequences index) h.number, own))

  -- the label where the rules hold
  label_of_lem : (h : LabelHolds index header i) → label_of index header i ≡ record_label (title_length index) (Ok (first_written h.good))
  label_of_lem h =
      let o = h.offsets in
      label_is index header i o.header_size (index_of index) (means_read index o.index_size o.fields) o.number o.first o.step o.last h.good

  holds_of : label_number (label_of index header i) ≡ 0 → LabelHolds index header i
  holds_of z =
      let low = low_offset index i in
      let high = high_offset index i in
      let element = element_rules (take (to_nat high) header) (to_nat low) in
      let h = (label_order index header i).passes.0 z in
      let before = hold-first (label_offset_rules index header i) element h in
      let own = own_rules (length header) low high in
      let o = (hold-second (read_rules index) (ask (ltb i (sequences index)) NoSuchSequence ∷ own) before.1).1 in
      let ordered = low-high low high o.0 o.1.0 in
      let fits = high-size high (length header) o.1.1.0 in
      let read = holds_passed element (hold-second (label_offset_rules index header i) element h) in
      let small = leb-true (length header) 2147483647 before.0 in
      let passed = sym (record_element header (to_nat low) (to_nat high) small ordered (Ok tt) fits (sym read)) in
      record { offsets = offsets_of before; good = passes-good header (to_nat low) (to_nat high) passed }

  -- The label call answers 0 only where its rules hold, and the label is then the title that the first def-line writes, or the volume title; and it
  -- answers 0 there.
  pub label_given_only : label_number (label_of index header i) ≡ 0
      → (h : LabelHolds index header i) × (label_of index header i ≡ record_label (title_length index) (Ok (first_written h.good)))
  label_given_only z = let h = holds_of z in (h, label_of_lem h)

  pub label_given : LabelHolds index header i → label_number (label_of index header i) ≡ 0
  label_given h = ap label_number (label_of_lem h) ∙ label_zero (title_length index) (first_written h.good)
