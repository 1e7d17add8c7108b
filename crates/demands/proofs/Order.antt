-- Demand 1, the cause and the order: every call that can refuse gives the cause of the first broken rule of its list, and success exactly where
-- every rule holds. The lists stand in document 01's order, in the definitions that are cited here. Reading an element gives 20 or 21 by no list:
-- crates/elements/proofs/Refusals.antt says where.
-- Assumes nothing.
use Rattle.labels.specs.declared.Label.{Label}
use Rattle.volume.specs.declared.VolumeRecord.{VolumeRecord}
use Rattle.runs.specs.declared.RunSize.{RunSize}
use Rattle.std.specs.Prelude.{Err, None, Ok, Option, Result, Some}
use mathlib.Core.Path.{◌≡◌, refl, sym, ap, ◌∙◌}
use mathlib.Core.Bool.{Bool, true, false}
use mathlib.Core.Logic.{◌↔◌}
use mathlib.Core.List.{List, [], ◌∷◌, ◌++◌}
use Prim.Native.Nat.{ℕ, zero, suc, ◌/◌, ◌≤◌}
use native.Mathlib.Omega.{arith}
use lib.Dec.{leb, ltb, eqb, leb-suc-suc}
use lib.IntN.{ℤ, pos, negsuc}
use lib.ListN.{length, get_or, take}
use lib.Signed.{le_z, non_neg}
use borrow.Author.Tests.{lt-ltb, le-ltb, leb-true, eq-eqb}
use Rattle.laws.specs.Rules.{Rule, ask, verdict, AllHold}
use Rattle.laws.specs.Signed.{to_nat}
use Rattle.laws.proofs.Rules.{verdict-append, hold-second}
use Rattle.laws.proofs.First.{verdict-refuses, verdict-holds, verdict_handed, verdict-same}
use Rattle.laws.proofs.Tests.{never, cond_passed}
use Rattle.laws.proofs.Choices.{cond_elim}
use Rattle.answers.specs.Limits.{bytes_fit, checked_by}
use Rattle.answers.specs.Numbers.{number_of, checked_number}
use Rattle.answers.specs.declared.Refusal.{Refusal}
use Rattle.answers.specs.declared.Refusal.TheVariants as R
use Rattle.answers.proofs.Numbers.{number-not-zero, number_own}
use Rattle.answers.proofs.Checks.{err-not_ok, err_cause, refused-first, passed_first}
use Rattle.packets.specs.Bytes.{packets_of}
use Rattle.runs.specs.Answers.{pack_rules, packed_size, pack_answer, pack_number, unpack_rules, unpacked_size, unpacked_by, unpack_answer, unpack_number}
use Rattle.byte_runs.specs.Bytes.{pack_bytes_answer, unpack_bytes_rules, unpack_bytes_answer}
use Rattle.volume.specs.Index.{title_length, sequences, index_of, read_rules, index_answer, index_number}
use Rattle.volume.specs.Volume.{volume_rules, volume_record, volume_answer, volume_number}
use Rattle.volume.specs.Tables.{sequence_length}
use Rattle.sequence.specs.Sequence.{decode_rules, decode_answer, decode_number}
use Rattle.listing.specs.Listing.{listing_size_rules, listed_answer}
use Rattle.dsqdata.specs.Header.{set_order, record_of}
use Rattle.dsqdata.specs.Check.{set_rules, set_check, set_number}
use Rattle.dsqdata.specs.Lookup.{lookup_rules, found_at, lookup_of, lookup_number}
use Rattle.dsqdata.specs.declared.SetRecord.{SetRecord}
use Rattle.elements.specs.Parts.{span}
use Rattle.elements.specs.Deep.{TooDeepAt}
use Rattle.elements.proofs.Refusals.{deep_exact}
use Rattle.headers.specs.Record.{is_read, ends_at, refusal_in, nesting_at, shape_at, element_rules, record_rules, check_record}
use Rattle.headers.specs.Statement.{GoodRecord}
use Rattle.headers.proofs.Record.{nest_refused, record_element, passes-good}
use Rattle.deflines.specs.Fields.{titles_of, identifiers_of, first_titles}
use Rattle.deflines.specs.Numbered.{numbered, item_from}
use Rattle.deflines.specs.Calls.{title_of, identifier_of, first_in, first_of}
use Rattle.deflines.specs.Answers.{title_number, identifier_number, first_number}
use Rattle.deflines.specs.Written.{titles_written, identifiers_written}
use Rattle.deflines.proofs.Calls.{title-refused, identifier_refused}
use Rattle.deflines.proofs.Written.{titles_are, title-is, identifiers_count, identifier_is}
use Rattle.deflines.specs.declared.Identifier.TheVariants as I
use Rattle.elements.specs.declared.Span.{Span}
use Rattle.std.specs.ControlFlow.{break_value}
use Rattle.labels.specs.Walker.{step_of}
use Rattle.labels.specs.Label.{record_label, own_rules, offsets_label, number_label, label_of, label_number}
use Rattle.console.specs.Calls.{console_pack_rules, console_pack, console_unpack_rules, console_unpack, console_volume_rules, console_volume, results_rule}
use Rattle.timing.specs.Calls.{timed_set}
use Rattle.demands.specs.Order.{Ordered, step_rules, identifier_rules, low_offset, high_offset, label_offset_rules, label_rules}

-- ---- an answer by a list of rules

module _ {A : Type 0} (told : Refusal → A) (number : A → ℕ) (own : (r : Refusal) → number (told r) ≡ number_of r) (fine : A) (success : number fine ≡ 0) where
  apart : (r : Refusal) → told r ≡ fine → ⊥
  apart r e = number-not-zero r (sym (own r) ∙ (ap number e ∙ success))

  same : (r s : Refusal) → told r ≡ told s → r ≡ s
  same r s e = number_own r s (sym (own r) ∙ (ap number e ∙ own s))

  -- the number is what a check answers that answers with numbers
  number-verdict : (rules : List (Rule Refusal)) → number (verdict told fine rules) ≡ verdict number_of 0 rules
  number-verdict rules = verdict_handed told number_of number own fine rules ∙ ap (λ (n : ℕ). verdict number_of n rules) success

  pub ordered : (rules : List (Rule Refusal)) (answer : A) → answer ≡ verdict told fine rules → Ordered told number rules answer
  ordered rules answer e =
      let n : number answer ≡ verdict number_of 0 rules = ap number e ∙ number-verdict rules in
      let cause = verdict-refuses told fine apart same rules in
      let by = verdict-refuses number_of 0 number-not-zero number_own rules in
      let all = verdict-holds number_of 0 number-not-zero number_own rules in
      record {
        refuses = λ r. (λ f. (cause r).0 (sym e ∙ f), λ x. e ∙ (cause r).1 x);
        numbered = λ r. (λ f. (by r).0 (sym n ∙ f), λ x. n ∙ (by r).1 x);
        passes = (λ f. all.0 (sym n ∙ f), λ h. n ∙ all.1 h);
      }

-- ---- packing and unpacking

packed_order : (size : RunSize) (rules : List (Rule Refusal)) → Ordered Err pack_number rules
    (verdict Err (Ok size) rules)
packed_order size rules = ordered Err pack_number (λ r. refl) (Ok size) refl rules _ refl

unpacked_order : (packets : List ℕ) (rules : List (Rule Refusal)) → Ordered Err unpack_number rules (unpacked_by rules packets)
unpacked_order packets rules =
    ordered Err unpack_number (λ r. refl) (Ok (unpacked_size packets)) refl rules (unpacked_by rules packets) refl

module _ (alphabet : ℕ) (codes : List ℕ) where
  -- `check_pack`, and `pack_answer` and `pack`: 22, 3, 18, 13
  pub check_pack_order : (room at : ℕ) → Ordered Err checked_number (pack_rules alphabet codes room at) (checked_by (pack_rules alphabet codes room at))
  check_pack_order room at = ordered Err checked_number (λ r. refl) (Ok tt) refl (pack_rules alphabet codes room at) _ refl

  pub pack_order : (room at : ℕ) → Ordered Err pack_number (pack_rules alphabet codes room at) (pack_answer alphabet codes room at)
  unfolding pack_answer
  pack_order room at = packed_order (packed_size alphabet codes) (pack_rules alphabet codes room at)

  -- `pack_bytes`: the same, with the room of the whole packets
  pub pack_bytes_order : (bytes : List ℕ) (at : ℕ) → Ordered Err pack_number (pack_rules alphabet codes (length bytes / 4) at)
      (pack_bytes_answer alphabet codes bytes at)
  pack_bytes_order bytes at = pack_order (length bytes / 4) at

  -- `gull_pack`: the same, then 13 for the results
  pub gull_pack_order : (buffer : List ℕ) (at room : ℕ)
      → Ordered Err pack_number (pack_rules alphabet codes (length buffer / 4) at ++ results_rule 2 room) (console_pack alphabet codes buffer at room)
  unfolding console_pack
  gull_pack_order buffer at room = packed_order (packed_size alphabet codes) (console_pack_rules alphabet codes buffer at room)

module _ (alphabet : ℕ) where
  -- `unpack`: 22, 3, 17, 13
  pub unpack_order : (packets : List ℕ) (room : ℕ) → Ordered Err unpack_number (unpack_rules alphabet packets room)
      (unpack_answer alphabet packets room)
  unfolding unpack_answer
  unpack_order packets room = unpacked_order packets (unpack_rules alphabet packets room)

  -- `unpack_bytes_answer` and `unpack_bytes`: 22, 1 where the bytes are no whole packets, 3, 17, 13
  pub unpack_bytes_order : (bytes : List ℕ) (room : ℕ)
      → Ordered Err unpack_number (unpack_bytes_rules alphabet bytes room) (unpack_bytes_answer alphabet bytes room)
  unfolding unpack_bytes_answer
  unpack_bytes_order bytes room = unpacked_order (packets_of bytes) (unpack_bytes_rules alphabet bytes room)

  -- `gull_unpack`: the same, then 13 for the results
  pub gull_unpack_order : (packets : List ℕ) (out room : ℕ)
      → Ordered Err unpack_number (unpack_bytes_rules alphabet packets out ++ results_rule 2 room) (console_unpack alphabet packets out room)
  unfolding console_unpack
  gull_unpack_order packets out room = unpacked_order (packets_of packets) (console_unpack_rules alphabet packets out room)

-- ---- volumes

-- `read_index`: 22; field by field, 1 and then its value, 2, 3, 4 or 5; the tables 1, 6
pub read_index_order : (index : List ℕ) → Ordered Err index_number (read_rules index) (index_answer index)
read_index_order index = ordered Err index_number (λ r. refl) (Ok (index_of index)) refl (read_rules index) _ refl

volume_order : (index : List ℕ) (rules : List (Rule Refusal)) (answer : Result VolumeRecord Refusal) → answer ≡ verdict Err
    (Ok (volume_record index)) rules
    → Ordered Err volume_number rules answer
volume_order index = ordered Err volume_number (λ r. refl) (Ok (volume_record index)) refl

module _ (index sequence header : List ℕ) where
  -- `check_volume`: 22; 1 to 6 for the index; all of 7, then 8, then 9
  pub check_volume_order : Ordered Err volume_number (volume_rules index sequence header) (volume_answer index sequence header)
  unfolding volume_answer
  check_volume_order = volume_order index (volume_rules index sequence header) _ refl

  -- `gull_check_volume`: the same, then 13 for the results
  pub gull_check_volume_order : (room : ℕ)
      → Ordered Err volume_number (volume_rules index sequence header ++ results_rule 8 room) (console_volume index sequence header room)
  unfolding console_volume
  gull_check_volume_order room = volume_order index (console_volume_rules index sequence header room) _ refl

  -- the number that a listing shows: 22 for a file over 16,384 bytes, then as `check_volume`
  pub listed_order : Ordered Err volume_number (listing_size_rules index sequence header ++ volume_rules index sequence header)
      (listed_answer index sequence header)
  unfolding listed_answer volume_answer
  listed_order =
      volume_order index (listing_size_rules index sequence header ++ volume_rules index sequence header) _
      (sym (verdict-append Err (Ok (volume_record index)) (listing_size_rules index sequence header) (volume_rules index sequence header)))

-- `decode` and `gull_time_decode`: 22; 1 to 6 for the index; 10; 7, 8 for the sequence's own entries; 11 or 12; 13
pub decode_order : (index sequence : List ℕ) (number room : ℕ)
    → Ordered Err decode_number (decode_rules index sequence number room) (decode_answer index sequence number room)
unfolding decode_answer
decode_order index sequence number room =
    ordered Err decode_number (λ r. refl) (Ok (sequence_length index sequence number)) refl (decode_rules index sequence number room) _ refl

-- ---- sets

set_order_lem : (index : List ℕ) (rules : List (Rule Refusal)) → Ordered Err set_number rules (verdict Err (Ok (record_of (set_order index) index)) rules)
set_order_lem index rules = ordered Err set_number (λ r. refl) (Ok (record_of (set_order index) index)) refl rules _ refl

module _ (index metadata sequence : List ℕ) where
  -- `check_set`: 22; file by file 1, 14; 15; 3; flags 4; count 4; index short 1, long 6; body 1; ends 7; runs 17; metadata 19; totals 9
  pub check_set_order : Ordered Err set_number (set_rules (set_order index) index metadata sequence) (set_check index metadata sequence)
  unfolding set_check
  check_set_order = set_order_lem index (set_rules (set_order index) index metadata sequence)

  -- `gull_time_check_set`: the same, then 13 for the results
  pub gull_time_check_set_order : (room : ℕ)
      → Ordered Err set_number (set_rules (set_order index) index metadata sequence ++ results_rule 11 room) (timed_set index metadata sequence room)
  unfolding timed_set
  gull_time_check_set_order room = set_order_lem index (set_rules (set_order index) index metadata sequence ++ results_rule 11 room)

-- `lookup`: 22; count 4; index short 1, long 6; 10; 7 for the metadata end and the packet end
pub lookup_order : (set : SetRecord) (index : List ℕ) (number : ℕ)
    → Ordered Err lookup_number (lookup_rules set index number) (lookup_of set index number)
unfolding lookup_of
lookup_order set index number = ordered Err lookup_number (λ r. refl) (Ok (found_at set.order index number)) refl (lookup_rules set index number) _ refl

-- ---- header records

-- number k of a list, or 10: one rule
numbered-verdict : {X : Type 0} (xs : List X) (k : ℕ) (d : X)
    → numbered xs k Ok (λ _. Err R.NoSuchSequence) ≡ verdict Err (Ok (get_or xs k d)) (ask (ltb k (length xs)) R.NoSuchSequence ∷ [])
numbered-verdict [] k d = rw (le-ltb k 0 (omega arith))
numbered-verdict (x ∷ xs) zero d = rw (lt-ltb 0 (suc (length xs)) (omega arith))
numbered-verdict (x ∷ xs) (suc k) d = rw (leb-suc-suc (suc k) (length xs)) (numbered-verdict xs k d)

found_zero : (first : Option Span) → first_number (Ok first) ≡ 0
found_zero (Some t) = refl
found_zero None = refl

-- causes with other numbers are told apart
pub err_apart : {A : Type 0} (r s : Refusal) → eqb (number_of r) (number_of s) ≡ false → ◌≡◌ {A = Result A Refusal} (Err r) (Err s) → ⊥
err_apart r s n e = never (sym n ∙ eq-eqb (number_of r) (number_of s) (ap number_of (err_cause s r e)))

-- the rules of a record's element give 21 only by its nesting
nesting_deep : (size : ℕ) (x : Result ℕ Refusal) (shape : Bool)
    → checked_by (ask (is_read x) (refusal_in x) ∷ ask (ends_at size x) R.BadHeader ∷ ask shape R.BadHeader ∷ []) ≡ Err R.TooDeep → x
    ≡ Err R.TooDeep
nesting_deep size (Ok n) shape e =
    absurd (cond_elim (λ (y : Result Unit Refusal). y ≡ Err R.TooDeep → ⊥) (eqb n size)
    (λ _. cond_elim (λ (y : Result Unit Refusal). y ≡ Err R.TooDeep → ⊥) shape (λ _ f. err-not_ok R.TooDeep tt (sym f))
    (λ _ f. err_apart R.BadHeader R.TooDeep refl f))
    (λ _ f. err_apart R.BadHeader R.TooDeep refl f) e)
nesting_deep size (Err r) shape e = ap Err (err_cause R.TooDeep r e)

module _ (header : List ℕ) (start end : ℕ) where
  -- `check_record`: 22; 1 where it doesn't fit the file; 20 or 21 as its nesting is read; 20 where more follows; 20 for its shape
  pub check_record_order : Ordered Err checked_number (record_rules header start end) (check_record header start end)
  unfolding check_record
  check_record_order = ordered Err checked_number (λ r. refl) (Ok tt) refl (record_rules header start end) _ refl

  -- its 21: the record fits the file, and reading goes down from its start to an element that begins at depth 17
  pub check_record_deep : (check_record header start end ≡ Err R.TooDeep)
      ↔ ((length header ≤ 2147483647) × (start ≤ end) × (end ≤ length header) × TooDeepAt 16 (take end header) start)
  unfolding check_record
  check_record_deep =
      let s = take end header in (
        λ e.
            let a = cond_passed (leb (length header) 2147483647) (λ z. err_apart R.TooLarge R.TooDeep refl z) e in
            let b = cond_passed (leb start end) (λ z. err_apart R.TooShort R.TooDeep refl z) a.1 in
            let c = cond_passed (leb end (length header)) (λ z. err_apart R.TooShort R.TooDeep refl z) b.1 in (
              leb-true (length header) 2147483647 a.0,
              leb-true start end b.0,
              leb-true end (length header) c.0,
              (deep_exact 16 s start).0 (nesting_deep (length s) (nesting_at s start) (is_read (shape_at s start)) c.1),
            ),
        λ w. sym (record_element header start end w.0 w.1 (Err R.TooDeep) w.2
            (nest_refused s start R.TooDeep ((deep_exact 16 s start).1 w.3))),
      )

  -- `first_title`: the same
  pub first-title_order : Ordered Err first_number (record_rules header start end) (first_of header start end)
  unfolding first_of check_record
  first-title_order =
      let first = break_value (item_from (first_titles (take end header) start) 0) in
      ordered Err first_number (λ r. refl) (Ok first) (found_zero first) (record_rules header start end) _
      (verdict_handed Err Err (first_in (take end header) start) (λ r. refl) (Ok tt) (record_rules header start end))

  -- a call that asks the record's rules, and then for number k of the list that a good record has
  record_then : {X : Type 0} (none : X) (k count : ℕ) (answer : Result X Refusal) (c : Result Unit Refusal) → c ≡ check_record header start end
      → ((r : Refusal) → check_record header start end ≡ Err r → Err r ≡ answer)
      → ((good : GoodRecord header start end) → (xs : List X) × (answer ≡ numbered xs k Ok (λ _. Err R.NoSuchSequence)) × (length xs ≡ count))
      → (x : X) × (answer ≡ verdict Err (Ok x) (record_rules header start end ++ (ask (ltb k count) R.NoSuchSequence ∷ [])))
  unfolding check_record
  record_then none k count answer (Ok tt) e refuse give =
      let w = give (passes-good header start end (sym e)) in
      let x = get_or w.0 k none in
      let more : ℕ → List (Rule Refusal) = λ n. ask (ltb k n) R.NoSuchSequence ∷ [] in (
        x,
        w.1
            ∙ numbered-verdict w.0 k none
            ∙ ap (λ (n : ℕ). verdict Err (Ok x) (more n)) w.2
            ∙ sym (passed_first (record_rules header start end) (more count) (Ok tt) e refl Err (Ok x)),
      )
  record_then none k count answer (Err r) e refuse give = (
    none,
    sym (refuse r (sym e)) ∙ sym (refused-first (record_rules header start end) (ask (ltb k count) R.NoSuchSequence ∷ [])
        (Err r) r e refl Err (Ok none)),
  )

  -- `title`: the same as `check_record`, then 10
  pub title_order : (given : ℕ) → Ordered Err title_number (step_rules header start end given) (title_of header start end given)
  title_order given =
      let v =
      record_then (span 0 0) given (length (titles_of (take end header) start)) (title_of header start end given)
      (check_record header start end) refl
      (title-refused header start end given)
      (λ good. (titles_written good, title-is header start end good given, ap length (sym (titles_are header start end good)))) in
      ordered Err title_number (λ r. refl) (Ok v.0) refl (step_rules header start end given) (title_of header start end given) v.1

  -- `next_title` and `step_on`: the same
  pub step_order : (given : ℕ) → Ordered Err title_number (step_rules header start end given) (step_of header start end given).answer
  unfolding step_of
  step_order given = title_order given

  -- `find_identifier` refuses as a walker step does
  pub identifier_order : (number : ℕ) → Ordered Err identifier_number (identifier_rules header start end number)
      (identifier_of header start end number)
  identifier_order number =
      let v =
      record_then (I.Gi (pos 0)) number (length (identifiers_of (take end header) start))
      (identifier_of header start end number) (check_record header start end) refl
      (identifier_refused header start end number)
      (λ good. (identifiers_written good, identifier_is header start end good number, sym (identifiers_count header start end good))) in
      ordered Err identifier_number (λ r. refl) (Ok v.0) refl (identifier_rules header start end number)
      (identifier_of header start end number) v.1

-- ---- labels

pub low-high : (low high : ℤ) → non_neg low ≡ true → le_z low high ≡ true → to_nat low ≤ to_nat high
low-high (pos a) (pos b) h e = leb-true a b e
low-high (pos a) (negsuc b) h e = never e
low-high (negsuc a) high h e = never h

pub high-size : (high : ℤ) (size : ℕ) → le_z high (pos size) ≡ true → to_nat high ≤ size
high-size (pos a) size e = leb-true a size e
high-size (negsuc a) size e = omega arith

-- a record that was read has a label
pub label_zero : (title : ℕ) (first : Option Span) → label_number (record_label title (Ok first)) ≡ 0
label_zero title (Some t) = refl
label_zero title None = refl

module _ (index header : List ℕ) (number : ℕ) where
  abbrev low : ℕ
  low = to_nat (low_offset index number)

  abbrev high : ℕ
  high = to_nat (high_offset index number)

  abbrev first : Option Span
  first = break_value (item_from (first_titles (take high header) low) 0)

  abbrev labelled : Result Unit Refusal → Result Label Refusal
  labelled c = record_label (title_length index) (first_in (take high header) low c)

  -- 22 and 1 for the record are past where the rules before it hold
  record-behind : AllHold (label_offset_rules index header number)
      → record_label (title_length index) (first_of header low high) ≡ verdict Err (labelled (Ok tt)) (element_rules (take high header) low)
  unfolding first_of
  record-behind h =
      let own = own_rules (length header) (low_offset index number) (high_offset index number) in
      let o : AllHold own = (hold-second (read_rules index) (ask (ltb number (sequences index)) R.NoSuchSequence ∷ own) h.1).1 in
      let rules = element_rules (take high header) low in
      let c : checked_by rules ≡ check_record header low high =
      record_element header low high (leb-true (length header) 2147483647 h.0)
      (low-high (low_offset index number) (high_offset index number) o.0 o.1.0) (checked_by rules)
      (high-size (high_offset index number) (length header) o.1.1.0) refl in
      ap labelled (sym c) ∙ verdict_handed Err Err labelled (λ r. refl) (Ok tt) rules

  -- the rules before the record, as one list
  pub label_offsets : label_of index header number
      ≡ verdict Err (record_label (title_length index) (first_of header (to_nat (low_offset index number)) (to_nat (high_offset index number))))
      (label_offset_rules index header number)
  unfolding label_of offsets_label
  label_offsets =
      let x = record_label (title_length index) (first_of header low high) in
      let own = own_rules (length header) (low_offset index number) (high_offset index number) in
      ap (λ (y : Result Label Refusal). verdict Err y (ask (bytes_fit header) R.TooLarge ∷ []))
      (verdict_handed Err Err (number_label index header number) (λ r. refl) (Ok (index_of index)) (read_rules index)
      ∙ sym (verdict-append Err x (read_rules index) (ask (ltb number (sequences index)) R.NoSuchSequence ∷ own)))

  -- `find_label`, `label_number` and `label_part`: 22; 1 to 6 for the index; 10; 7; 20, 21
  pub label_order : Ordered Err label_number (label_rules index header number) (label_of index header number)
  label_order =
      let before = label_offset_rules index header number in
      let rules = element_rules (take high header) low in
      ordered Err label_number (λ r. refl) (labelled (Ok tt)) (label_zero (title_length index) first) (label_rules index header number)
      (label_of index header number)
      (label_offsets
      ∙ verdict-same Err (record_label (title_length index) (first_of header low high))
      (verdict Err (labelled (Ok tt)) rules) before record-behind
      ∙ sym (verdict-append Err (labelled (Ok tt)) before rules))
