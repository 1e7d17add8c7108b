-- Decoding answers 0 exactly where document 01's rules of one sequence hold, as plain statements (specs/Holds.antt).
-- Each rule of the list is one statement; the residues of a sequence of which they hold, in the same words.
-- Assumes nothing.
use mathlib.Core.Path.{◌≡◌, refl, sym, ap, subst, ◌∙◌}
use mathlib.Core.Bool.{Bool, true, false, cond, not, ◌&&◌, and-false}
use mathlib.Core.List.{List, [], ◌∷◌}
use mathlib.Core.Logic.{◌⊎◌, ⊎_elim}
use Prim.Native.Nat.{ℕ, zero, suc, ◌+◌, ◌-◌, ◌/◌, ◌%◌, ◌^◌, ◌≤◌, ◌<◌}
use native.Mathlib.Omega.{arith}
use borrow.Author.Tests.{leb-true, le-leb, lt-leb, ltb-true, lt-ltb, le-ltb, eqb-true, eq-eqb}
use lib.Dec.{leb, ltb, eqb}
use lib.IntN.{pos}
use lib.ListN.{length, get_or}
use Rattle.std.specs.Prelude.{Ok, Err}
use Rattle.laws.specs.Digits.{digits}
use Rattle.laws.specs.Places.{every}
use Rattle.laws.specs.Rules.{Rule, verdict, AllHold}
use Rattle.laws.proofs.Places.{every_at, every-all}
use Rattle.laws.proofs.Rules.{verdict-passes, hold-append, hold-first, hold-second}
use Rattle.laws.proofs.Signed.{le_test, test_le, lt_test, test_lt}
use Rattle.laws.proofs.Tests.{both_pass, never}
use Rattle.answers.specs.Limits.{bytes_fit}
use Rattle.answers.specs.Numbers.{number_of}
use Rattle.answers.specs.declared.Refusal.{Refusal}
use Rattle.answers.proofs.Numbers.{zero-passes}
use Rattle.residues.specs.Tables.{ambiguity_code}
use Rattle.volume.specs.Index.{stated_type, sequences, index_rules, read_rules}
use Rattle.volume.specs.Tables.{sequence_start, dna_end, protein_length, dna_length, sequence_length}
use Rattle.volume.proofs.Named.{index_tests, index_tests_back}
use Rattle.volume.proofs.Exact.{protein-type, dna-type, fields_of, fields_test}
use Rattle.sequence.specs.declared.Correction.{Correction}
use Rattle.sequence.specs.Bases.{bases_of, base_at}
use Rattle.sequence.specs.Corrections.{entry_width, entry_count, correction_at, correction_end, end_before, entry_fits, range_rules}
use Rattle.sequence.specs.Corrections.{corrections_at, range_corrections, correction_in, covers, corrected_at}
use Rattle.sequence.specs.Sequence.{range_end, is_protein_byte, protein_entry_rules, protein_byte_rules, protein_rules, dna_entry_rules, dna_rules}
use Rattle.sequence.specs.Sequence.{sequence_rules, room_rules, own_rules, decode_rules, decode_answer, decode_number}
use Rattle.sequence.specs.Holds.{HasEntries, RangeHolds, ProteinSequenceHolds, DnaSequenceHolds, SequenceHolds}
use Rattle.sequence.proofs.Named.{protein_entry_tests, protein_entry_tests_back, dna_entry_tests, dna_entry_tests_back}
use Rattle.sequence.proofs.Named.{range_tests, range_tests_back}
use Rattle.sequence.proofs.Ranges.{table_of, table_test, count_of, width_of_lem, fits_both, starts_after, ends-within}
use Rattle.sequence.proofs.Corrected.{covered_at, not_covered_at, count_stated, entry_stated, stated_apart}

-- ---- the ambiguity range

module _ (sequence : List ℕ) (place end l : ℕ) where
  range_of : AllHold (range_rules sequence place end l) → RangeHolds sequence place end l
  range_of h =
      let w = entry_width sequence place in
      let n = entry_count sequence place end in
      let t = range_tests sequence place end l h in
      record {
        width = w;
        count = n;
        entries = table_of sequence place end t.table;
        apart = λ j k. starts_after sequence (place + 4) w l n t.entries_fit (suc j) k;
        within = λ j k. ends-within sequence (place + 4) w l n t.entries_fit j k;
      }

  pub range_test : RangeHolds sequence place end l → AllHold (range_rules sequence place end l)
  range_test r =
      let count = count_of sequence place end r.width r.count r.entries in
      range_tests_back sequence place end l (record {
        table = table_test sequence place end r.width r.count r.entries;
        entries_fit = rw count (every-all (entry_fits sequence (place + 4) (entry_width sequence place) l) r.count fit);
      })
    where
      low : (j : ℕ) → j < r.count → end_before sequence (place + 4) r.width j ≤ (correction_at sequence (place + 4) r.width j).start
      low zero k = omega arith
      low (suc j) k = r.apart j k

      fit : (j : ℕ) → j < r.count → entry_fits sequence (place + 4) (entry_width sequence place) l j ≡ true
      fit j k =
          rw (width_of_lem sequence place end r.width r.count r.entries (omega arith))
          (fits_both sequence (place + 4) r.width l j (end_before sequence (place + 4) r.width j) (correction_at sequence (place + 4) r.width j)
          refl refl (low j k) (r.within j k))

-- ---- the residue at a place

-- the base: two bits of a byte, highest first
base_bits : (byte r : ℕ) → r < 4 → get_or (bases_of byte) r 0 ≡ byte / 4 ^ (3 - r) % 4
unfolding digits
base_bits byte zero h = refl
base_bits byte (suc zero) h = refl
base_bits byte (suc (suc zero)) h = refl
base_bits byte (suc (suc (suc zero))) h = refl
base_bits byte (suc (suc (suc (suc r)))) h = absurd (omega arith)

pub base_of : (sequence : List ℕ) (start k : ℕ) → base_at sequence start k ≡ get_or sequence (start + k / 4) 0 / 4 ^ (3 - k % 4) % 4
unfolding base_at
base_of sequence start k = base_bits (get_or sequence (start + k / 4) 0) (k % 4) (omega arith)

-- the corrections, by the entries that the range has
module _ (sequence : List ℕ) (place end l w n : ℕ) (h : AllHold (range_rules sequence place end l)) (e : HasEntries sequence place end w n) (k base : ℕ) where
  width : 0 < n → entry_width sequence place ≡ w
  width = width_of_lem sequence place end w n e

  count : entry_count sequence place end ≡ n
  count = count_of sequence place end w n e

  -- the corrections that the range states
  abbrev stated : List Correction
  stated = corrections_at sequence (place + 4) w n

  stated_are : 0 < n → range_corrections sequence place end ≡ stated
  stated_are i = rw (width i, count)

  -- the code of the entry that covers the place, which lies within L
  pub covered_residue : (j : ℕ) → j < n → (correction_at sequence (place + 4) w j).start ≤ k → k < correction_end (correction_at sequence (place + 4) w j)
      → (k < l) × (corrected_at (range_corrections sequence place end) k base ≡ ambiguity_code (correction_at sequence (place + 4) w j).value)
  covered_residue j i a b =
      let c = correction_at sequence (place + 4) w j in
      let f = width (omega arith) in
      let t : covers c k ≡ true = rw (le-leb c.start k a, lt-ltb k (correction_end c) b) in
      let m : every (entry_fits sequence (place + 4) w l) n ≡ true = rw (f, count) at (range_tests sequence place end l h).entries_fit in
      let r : correction_end c ≤ l = ends-within sequence (place + 4) w l n m j i in
      let g = entry_stated sequence (place + 4) w n j i in (
        omega arith,
        rw (stated_are (omega arith))
            (covered_at stated k base j (stated_apart sequence (place + 4) w n l m) (omega (arith, count_stated sequence (place + 4) w n)) (rw g t)
            ∙ ap (λ (x : Correction). ambiguity_code x.value) g),
      )

  -- the base where none does
  pub base_residue : ((j : ℕ) → j < n → (k < (correction_at sequence (place + 4) w j).start) ⊎ (correction_end (correction_at sequence (place + 4) w j) ≤ k))
      → corrected_at (range_corrections sequence place end) k base ≡ base
  base_residue o = not_covered_at (range_corrections sequence place end) k base out
    where
      out : (j : ℕ) → j < length (range_corrections sequence place end) → covers (correction_in (range_corrections sequence place end) j) k ≡ false
      out j m =
          let c = correction_at sequence (place + 4) w j in
          let i : j < n = omega (arith, count_stated sequence (place + 4) (entry_width sequence place) (entry_count sequence place end), count) in
          rw (stated_are (omega arith), entry_stated sequence (place + 4) w n j i)
          (⊎_elim (λ a. rw (lt-leb c.start k a)) (λ b. rw (le-ltb k (correction_end c) b) (and-false (leb c.start k))) (o j i))

-- ---- one sequence

module _ (index sequence : List ℕ) (i room : ℕ) where
  protein_of : AllHold (protein_rules index sequence i) → protein_length index i ≤ room → ProteinSequenceHolds index sequence i room
  protein_of h r =
      let bytes = protein_byte_rules sequence (sequence_start index i) (protein_length index i) in
      let t = protein_entry_tests index sequence i (hold-first (protein_entry_rules index sequence i) bytes h) in
      let b = hold-second (protein_entry_rules index sequence i) bytes h in
      record {
        first = le_test _ _ t.first;
        step = lt_test _ _ t.step;
        last = le_test _ _ t.last;
        before = eqb-true _ _ t.nul_before;
        behind = eqb-true _ _ t.nul_behind;
        bytes = λ k l. leb-true _ _ (every_at (is_protein_byte sequence (sequence_start index i)) (protein_length index i) k l b.0);
        fits = r;
      }

  protein_test : ProteinSequenceHolds index sequence i room → AllHold (protein_rules index sequence i)
  protein_test h =
      let is_byte = is_protein_byte sequence (sequence_start index i) in
      hold-append (protein_entry_rules index sequence i) (protein_byte_rules sequence (sequence_start index i) (protein_length index i))
      (protein_entry_tests_back index sequence i (record {
        first = test_le _ _ h.first;
        step = test_lt _ _ h.step;
        last = test_le _ _ h.last;
        nul_before = eq-eqb _ _ h.before;
        nul_behind = eq-eqb _ _ h.behind;
      }))
      (every-all is_byte (protein_length index i) (λ k l. le-leb _ _ (h.bytes k l)), tt)

  -- the rules of the ambiguity range
  abbrev ranges : List (Rule Refusal)
  ranges = range_rules sequence (dna_end index i) (range_end index i) (dna_length index sequence i)

  dna_of : AllHold (dna_rules index sequence i) → dna_length index sequence i ≤ room → DnaSequenceHolds index sequence i room
  dna_of h r =
      let t = dna_entry_tests index sequence i (hold-first (dna_entry_rules index sequence i) ranges h) in
      record {
        first = le_test _ _ t.first;
        above = lt_test _ _ t.bytes;
        below = le_test _ _ t.range;
        last = le_test _ _ t.last;
        range = range_of sequence (dna_end index i) (range_end index i) (dna_length index sequence i) (hold-second (dna_entry_rules index sequence i) ranges h);
        fits = r;
      }

  dna_test : DnaSequenceHolds index sequence i room → AllHold (dna_rules index sequence i)
  dna_test h =
      hold-append (dna_entry_rules index sequence i) ranges
      (dna_entry_tests_back index sequence i (record {
        first = test_le _ _ h.first;
        bytes = test_lt _ _ h.above;
        range = test_le _ _ h.below;
        last = test_le _ _ h.last;
      }))
      (range_test sequence (dna_end index i) (range_end index i) (dna_length index sequence i) h.range)

  -- the parts of the list, from the rules of the whole
  pub record DecodeParts : Type 0 where
    pub sequence_fits : bytes_fit sequence ≡ true
    pub index_fits : bytes_fit index ≡ true
    pub index_holds : AllHold (index_rules index)
    pub below : ltb i (sequences index) ≡ true
    pub own_hold : AllHold (sequence_rules index sequence i)
    pub fits : leb (sequence_length index sequence i) room ≡ true

  pub decode_parts : AllHold (decode_rules index sequence i room) → DecodeParts
  unfolding decode_rules
  decode_parts h =
      let own = own_rules index sequence i room in
      let a = hold-first (read_rules index) own h.1 in
      let b = hold-second (read_rules index) own h.1 in
      record {
        sequence_fits = h.0;
        index_fits = a.0;
        index_holds = a.1;
        below = b.0;
        own_hold = hold-first (sequence_rules index sequence i) (room_rules (sequence_length index sequence i) room) b.1;
        fits = (hold-second (sequence_rules index sequence i) (room_rules (sequence_length index sequence i) room) b.1).0;
      }

  parts_decode : DecodeParts → AllHold (decode_rules index sequence i room)
  unfolding decode_rules
  parts_decode p = (
    p.sequence_fits,
    hold-append (read_rules index) (own_rules index sequence i room) (p.index_fits, p.index_holds)
        (p.below, hold-append (sequence_rules index sequence i) (room_rules (sequence_length index sequence i) room) p.own_hold (p.fits, tt)),
  )

  -- the rules that go by the type
  abbrev own_by : Bool → Type 0
  own_by b = AllHold (cond b (protein_rules index sequence i) (dna_rules index sequence i))

  abbrev fits_by : Bool → Type 0
  fits_by b = leb (cond b (protein_length index) (dna_length index sequence) i) room ≡ true

  holds_of : DecodeParts → SequenceHolds index sequence i room
  holds_of p =
      record {
        index_size = leb-true _ _ p.index_fits;
        sequence_size = leb-true _ _ p.sequence_fits;
        fields = fields_of index (index_tests index p.index_holds);
        number = ltb-true _ _ p.below;
        protein = λ e. let t = protein-type index e in protein_of (subst own_by t p.own_hold) (leb-true _ _ (subst fits_by t p.fits));
        dna = λ e. let t = dna-type index e in dna_of (subst own_by t p.own_hold) (leb-true _ _ (subst fits_by t p.fits));
      }

  parts_of : SequenceHolds index sequence i room → DecodeParts
  parts_of h = ⊎_elim dna_parts protein_parts h.fields.type
    where
      parts : AllHold (sequence_rules index sequence i) → leb (sequence_length index sequence i) room ≡ true → DecodeParts
      parts o f =
          record {
            sequence_fits = le-leb _ _ h.sequence_size;
            index_fits = le-leb _ _ h.index_size;
            index_holds = index_tests_back index (fields_test index h.fields);
            below = lt-ltb _ _ h.number;
            own_hold = o;
            fits = f;
          }

      dna_parts : stated_type index ≡ pos 0 → DecodeParts
      dna_parts e =
          let t = sym (dna-type index e) in
          parts (subst own_by t (dna_test (h.dna e))) (subst fits_by t (le-leb _ _ (h.dna e).fits))

      protein_parts : stated_type index ≡ pos 1 → DecodeParts
      protein_parts e =
          let t = sym (protein-type index e) in
          parts (subst own_by t (protein_test (h.protein e))) (subst fits_by t (le-leb _ _ (h.protein e).fits))

  -- Decoding answers 0 only where all rules of its list hold, and then returns L ..
  pub zero_passed : decode_number (decode_answer index sequence i room) ≡ 0
      → AllHold (decode_rules index sequence i room) × (decode_answer index sequence i room ≡ Ok (sequence_length index sequence i))
  unfolding decode_answer
  zero_passed h = zero-passes Err (Ok (sequence_length index sequence i)) decode_number (λ r. refl) (decode_rules index sequence i room) h

  -- .. and so only where the rules of the sequence are kept.
  pub zero_rules : decode_number (decode_answer index sequence i room) ≡ 0
      → SequenceHolds index sequence i room × (decode_answer index sequence i room ≡ Ok (sequence_length index sequence i))
  zero_rules h = let p = zero_passed h in (holds_of (decode_parts p.0), p.1)

  pub parts_zero : DecodeParts → decode_number (decode_answer index sequence i room) ≡ 0
  unfolding decode_answer
  parts_zero p =
      ap decode_number (verdict-passes Err (Ok (sequence_length index sequence i)) (decode_rules index sequence i room) (parts_decode p))

  -- A sequence that keeps every rule decodes.
  pub rules_zero : SequenceHolds index sequence i room → decode_number (decode_answer index sequence i room) ≡ 0
  rules_zero h = parts_zero (parts_of h)

-- ---- refusals that no rule of a list has

-- no rule's refusal has the number n
abbrev lacks : ℕ → List (Rule Refusal) → Bool
lacks n [] = true
lacks n (r ∷ rs) = not (eqb (number_of r.refusal) n) && lacks n rs

never_told : (l n : ℕ) → (0 ≡ n → ⊥) → (rs : List (Rule Refusal)) → lacks n rs ≡ true → decode_number (verdict Err (Ok l) rs) ≡ n → ⊥
never_told l n z [] t e = z e
never_told l n z (r ∷ rs) t e =
    let p = both_pass (not (eqb (number_of r.refusal) n)) (lacks n rs) t in go r.holds p.0 e (never_told l n z rs p.1)
  where
    go : (b : Bool) → not (eqb (number_of r.refusal) n) ≡ true → decode_number (cond b (verdict Err (Ok l) rs) (Err r.refusal)) ≡ n
        → (decode_number (verdict Err (Ok l) rs) ≡ n → ⊥) → ⊥
    go true s f k = k f
    go false s f k = never (rw (eq-eqb (number_of r.refusal) n f) at s)

module _ (index sequence : List ℕ) (i room : ℕ) where
  -- A protein is never refused with 12 ..
  pub protein_never_12 : stated_type index ≡ pos 1 → decode_number (decode_answer index sequence i room) ≡ 12 → ⊥
  unfolding decode_answer decode_rules index_rules
  protein_never_12 e =
      never_told (sequence_length index sequence i) 12 (λ z. omega arith) (decode_rules index sequence i room) (rw (protein-type index e))

  -- .. and DNA never with 11.
  pub dna_never_11 : stated_type index ≡ pos 0 → decode_number (decode_answer index sequence i room) ≡ 11 → ⊥
  unfolding decode_answer decode_rules index_rules
  dna_never_11 e =
      never_told (sequence_length index sequence i) 11 (λ z. omega arith) (decode_rules index sequence i room) (rw (dna-type index e))
