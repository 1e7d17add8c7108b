-- The volume check passes exactly the volumes of which document 01's rules hold, as plain statements (specs/Holds.antt).
-- Each rule of the list is one statement; a field that is said to be there lies before the end that the tables give.
-- Assumes nothing.
use mathlib.Core.Path.{◌≡◌, refl, sym, ap, ◌∙◌, subst}
use mathlib.Core.Bool.{Bool, true, false, cond, ◌||◌}
use mathlib.Core.List.{List, [], ◌++◌}
use mathlib.Core.Logic.{◌⊎◌, inl, inr, ⊎_elim}
use Prim.Native.Nat.{ℕ, ◌+◌, ◌≤◌, ◌<◌}
use native.Mathlib.Omega.{arith}
use native.Mathlib.Nat.{le_antisymm}
use borrow.Author.Tests.{leb-true, le-leb, eqb-true, eq-eqb}
use lib.Dec.{leb}
use lib.IntN.{ℤ, pos, negsuc}
use lib.ListN.{length}
use lib.Signed.{non_neg, le_z, lt_z, ◌≤ℤ◌}
use Rattle.laws.specs.Rules.{Rule, AllHold}
use Rattle.laws.specs.Signed.{to_nat, eq_z}
use Rattle.laws.proofs.Places.{every_at, every-all}
use Rattle.laws.proofs.Passing.{passes_with}
use Rattle.laws.proofs.Rules.{verdict-passes, hold-append, hold-first, hold-second}
use Rattle.laws.proofs.Signed.{le_test, test_le, lt_test, test_lt, eq_test, test_eq, at_least_zero, states_itself}
use Rattle.laws.proofs.Tests.{never, both_pass}
use Rattle.answers.specs.declared.Refusal.{Refusal}
use Rattle.answers.proofs.Checks.{err-not_ok}
use Rattle.answers.proofs.Numbers.{zero-passes}
use Rattle.volume.specs.declared.VolumeRecord.{VolumeRecord}
use Rattle.std.specs.Prelude.{Ok, Err}
use Rattle.volume.specs.Index.{stated_type, volume_type, is_type, is_protein, title_end, timestamp_end, timestamp_start, stated_sequences}
use Rattle.volume.specs.Index.{sequences, most_sequences, residue_count, longest, table_size}
use Rattle.volume.specs.Index.{header_table, sequence_table, ambiguity_table, tables_end, index_rules}
use Rattle.volume.specs.Tables.{not_below, above, ambiguity_between, sequence_offset, ambiguity_offset, protein_length, dna_length}
use Rattle.volume.specs.Tables.{header_offset_rules, protein_offset_rules, dna_offset_rules, sequence_offset_rules, offset_rules}
use Rattle.volume.specs.Tables.{protein_separator_rules, separator_rules, totals_of, total_rules}
use Rattle.volume.specs.Volume.{volume_size_rules, volume_rules, volume_record, volume_answer, volume_number, volume_values, record_values}
use Rattle.volume.specs.Holds.{FieldsHold, HeadersHold, TotalsHold, ProteinHolds, DnaHolds, VolumeHolds}
use Rattle.volume.proofs.Named.{TableTests, IndexTests, index_tests, index_tests_back, HeaderTests, header_tests, header_tests_back}
use Rattle.volume.proofs.Named.{nul_behind, ProteinTests, protein_tests, protein_tests_back, DnaTests, dna_tests, dna_tests_back}
use Rattle.volume.proofs.Named.{SeparatorTests, separator_tests, separator_tests_back, TotalTests, total_tests, total_tests_back}
use Rattle.volume.proofs.Named.{size_tests, size_tests_back}

-- ---- signed fields

not_negative : (z : ℤ) → non_neg z ≡ true → pos 0 ≤ℤ z
not_negative z e = le_test (pos 0) z (at_least_zero z ∙ e)

not_negative_test : (z : ℤ) → pos 0 ≤ℤ z → non_neg z ≡ true
not_negative_test z h = sym (at_least_zero z) ∙ test_le (pos 0) z h

at_most : (z : ℤ) (n : ℕ) → non_neg z ≡ true → to_nat z ≤ n → z ≤ℤ pos n
at_most (pos m) n e h = le_test (pos m) (pos n) (le-leb m n h)
at_most (negsuc m) n e h = never e

at_most_test : (z : ℤ) (n : ℕ) → non_neg z ≡ true → z ≤ℤ pos n → to_nat z ≤ n
at_most_test (pos m) n e h = leb-true m n (test_le (pos m) (pos n) h)
at_most_test (negsuc m) n e h = never e

-- ---- the type

type_either : (a b : Bool) {x : ℤ} → eq_z x (pos 0) ≡ a → eq_z x (pos 1) ≡ b → (a || b) ≡ true → (x ≡ pos 0) ⊎ (x ≡ pos 1)
type_either true b {x} e f t = inl (eq_test x (pos 0) e)
type_either false true {x} e f t = inr (eq_test x (pos 1) f)
type_either false false e f t = never t

type_of : (index : List ℕ) → is_type index ≡ true → (stated_type index ≡ pos 0) ⊎ (stated_type index ≡ pos 1)
type_of index t = type_either _ _ refl refl t

type_test : (index : List ℕ) → (stated_type index ≡ pos 0) ⊎ (stated_type index ≡ pos 1) → is_type index ≡ true
type_test index (inl e) = rw e
type_test index (inr e) = rw e

pub protein-type : (index : List ℕ) → stated_type index ≡ pos 1 → is_protein index ≡ true
unfolding volume_type
protein-type index e = rw e

pub dna-type : (index : List ℕ) → stated_type index ≡ pos 0 → is_protein index ≡ false
unfolding volume_type
dna-type index e = rw e

-- ---- the fixed fields

-- N is at most 134,217,728
few_of : (index : List ℕ) → non_neg (stated_sequences index) ≡ true → sequences index ≤ most_sequences → stated_sequences index ≤ℤ pos most_sequences
unfolding sequences
few_of index e h = at_most (stated_sequences index) most_sequences e h

few_test : (index : List ℕ) → non_neg (stated_sequences index) ≡ true → stated_sequences index ≤ℤ pos most_sequences → sequences index ≤ most_sequences
unfolding sequences
few_test index e h = at_most_test (stated_sequences index) most_sequences e h

whole_of : (index : List ℕ) → TableTests index → length index ≡ tables_end index
whole_of index t = le_antisymm (leb-true _ _ t.nothing_after) (leb-true _ _ t.tables_there)

pub fields_of : (index : List ℕ) → IndexTests index → FieldsHold index
fields_of index t =
    let w = whole_of index t.tables in
    record {
      version = eq_test _ _ t.title.version_is;
      type = type_of index t.title.type_is;
      title = not_negative _ t.title.natural;
      timestamp = not_negative _ t.timestamp.natural;
      number = not_negative _ t.counts.number_natural;
      count = not_negative _ t.counts.residues_natural;
      longest = not_negative _ t.counts.longest_natural;
      few = few_of index t.counts.number_natural (leb-true _ _ t.counts.few);
      aligned = eqb-true _ _ t.timestamp.aligned;
      protein_whole = λ e. (let k = rw (protein-type index e) at w in omega arith);
      dna_whole = λ e. (let k = rw (dna-type index e) at w in omega arith);
    }

ends_at : (index : List ℕ) → FieldsHold index → tables_end index ≡ length index
ends_at index f =
    ⊎_elim (λ e. rw (dna-type index e) (omega (arith, f.dna_whole e))) (λ e. rw (protein-type index e) (omega (arith, f.protein_whole e))) f.type

reach_end : (index : List ℕ) (place : ℕ) → FieldsHold index → place ≤ ambiguity_table index → leb place (length index) ≡ true
reach_end index place f h = le-leb place (length index) (rw (← ends_at index f) (later (is_protein index)))
  where
    later : (b : Bool) → place ≤ cond b (ambiguity_table index) (ambiguity_table index + table_size index)
    later true = h
    later false = omega arith

pub fields_test : (index : List ℕ) → FieldsHold index → IndexTests index
fields_test index f =
    let n = not_negative_test (stated_sequences index) f.number in
    let end = ends_at index f in
    record {
      title = record {
        version_there = reach_end index 4 f (omega arith);
        version_is = test_eq _ _ f.version;
        type_there = reach_end index 8 f (omega arith);
        type_is = type_test index f.type;
        length_there = reach_end index 12 f (omega arith);
        natural = not_negative_test _ f.title;
        title_there = reach_end index (title_end index) f (omega arith);
      };
      timestamp = record {
        length_there = reach_end index (timestamp_start index) f (omega arith);
        natural = not_negative_test _ f.timestamp;
        timestamp_there = reach_end index (timestamp_end index) f (omega arith);
        aligned = eq-eqb _ _ f.aligned;
      };
      counts = record {
        number_there = reach_end index (timestamp_end index + 4) f (omega arith);
        number_natural = n;
        few = le-leb _ _ (few_test index n f.few);
        residues_there = reach_end index (timestamp_end index + 12) f (omega arith);
        residues_natural = not_negative_test _ f.count;
        longest_there = reach_end index (header_table index) f (omega arith);
        longest_natural = not_negative_test _ f.longest;
      };
      tables = record {
        tables_there = le-leb (tables_end index) (length index) (omega arith);
        nothing_after = le-leb (length index) (tables_end index) (omega arith);
      };
    }

-- ---- offsets

headers_of : (index header : List ℕ) → HeaderTests index header → HeadersHold index header
headers_of index header t =
    record {
      first = eq_test _ _ t.first;
      steps = λ i l. le_test _ _ (every_at (not_below index (header_table index)) (sequences index) i l t.steps);
      last = eq_test _ _ t.last;
    }

headers_test : (index header : List ℕ) → HeadersHold index header → HeaderTests index header
headers_test index header h =
    record {
      first = test_eq _ _ h.first;
      steps = every-all (not_below index (header_table index)) (sequences index) (λ i l. test_le _ _ (h.steps i l));
      last = test_eq _ _ h.last;
    }

-- ---- totals

module _ (index : List ℕ) (f : ℕ → ℕ) where
  totals_of_lem : FieldsHold index → TotalTests index f → TotalsHold index f
  unfolding residue_count longest
  totals_of_lem g t =
      record {
        sum = ap pos (eqb-true _ _ t.sum) ∙ sym (states_itself _ (not_negative_test _ g.count));
        largest = ap pos (eqb-true _ _ t.largest) ∙ sym (states_itself _ (not_negative_test _ g.longest));
      }

  totals_test : TotalsHold index f → TotalTests index f
  unfolding residue_count longest
  totals_test h = record { sum = eq-eqb _ _ (ap to_nat h.sum); largest = eq-eqb _ _ (ap to_nat h.largest) }

-- ---- protein

module _ (index sequence : List ℕ) where
  protein_of : FieldsHold index → ProteinTests index sequence → SeparatorTests index sequence → TotalTests index (protein_length index)
      → ProteinHolds index sequence
  protein_of f t s totals =
      record {
        first = eq_test _ _ t.first;
        steps = λ i l. lt_test _ _ (every_at (above index (sequence_table index)) (sequences index) i l t.steps);
        last = eq_test _ _ t.last;
        byte_zero = eqb-true _ _ s.byte_zero;
        separators = λ i l. eqb-true _ _ (every_at (nul_behind index sequence) (sequences index) i l s.separators);
        totals = totals_of_lem index (protein_length index) f totals;
      }

  protein_test : ProteinHolds index sequence → ProteinTests index sequence
  protein_test h =
      record {
        first = test_eq _ _ h.first;
        steps = every-all (above index (sequence_table index)) (sequences index) (λ i l. test_lt _ _ (h.steps i l));
        last = test_eq _ _ h.last;
      }

  separator_test : ProteinHolds index sequence → SeparatorTests index sequence
  separator_test h =
      record {
        byte_zero = eq-eqb _ _ h.byte_zero;
        separators = every-all (nul_behind index sequence) (sequences index) (λ i l. eq-eqb _ _ (h.separators i l));
      }

  -- ---- DNA

  between : ℕ → Bool
  between = ambiguity_between index (sequence_table index) (ambiguity_table index)

  dna_of : FieldsHold index → DnaTests index sequence → TotalTests index (dna_length index sequence) → DnaHolds index sequence
  unfolding between
  dna_of f t totals =
      let p : (i : ℕ) → i < sequences index
      → (lt_z (sequence_offset index i) (ambiguity_offset index i) ≡ true)
      × (le_z (ambiguity_offset index i) (sequence_offset index (i + 1)) ≡ true) =
      λ i l. both_pass _ _ (every_at between (sequences index) i l t.steps) in
      record {
        first = eq_test _ _ t.first;
        above = λ i l. lt_test _ _ (p i l).0;
        below = λ i l. le_test _ _ (p i l).1;
        last = eq_test _ _ t.last;
        last_ambiguity = eq_test _ _ t.last_ambiguity;
        totals = totals_of_lem index (dna_length index sequence) f totals;
      }

  dna_test : DnaHolds index sequence → DnaTests index sequence
  unfolding between
  dna_test h =
      record {
        first = test_eq _ _ h.first;
        steps = every-all between (sequences index) (λ i l. rw (test_lt _ _ (h.above i l), test_le _ _ (h.below i l)));
        last = test_eq _ _ h.last;
        last_ambiguity = test_eq _ _ h.last_ambiguity;
      }

-- ---- the whole volume

module _ (index sequence header : List ℕ) where
  sizes : List (Rule Refusal)
  sizes = volume_size_rules index sequence header

  offsets : List (Rule Refusal)
  offsets = offset_rules index sequence header

  lengths : List (Rule Refusal)
  lengths = separator_rules index sequence ++ total_rules index sequence

  -- the parts of the list, from the rules of the whole
  pub record VolumeParts : Type 0 where
    pub sizes_hold : AllHold (volume_size_rules index sequence header)
    pub index_holds : AllHold (index_rules index)
    pub headers_hold : AllHold (header_offset_rules index header)
    pub sequences_hold : AllHold (sequence_offset_rules index sequence)
    pub separators_hold : AllHold (separator_rules index sequence)
    pub totals_hold : AllHold (total_rules index sequence)

  pub volume_parts : AllHold (volume_rules index sequence header) → VolumeParts
  unfolding volume_rules sizes offsets lengths
  volume_parts h =
      let a = hold-second sizes (index_rules index ++ (offsets ++ lengths)) h in
      let b = hold-second (index_rules index) (offsets ++ lengths) a in
      let o = hold-first offsets lengths b in
      let l = hold-second offsets lengths b in
      record {
        sizes_hold = hold-first sizes (index_rules index ++ (offsets ++ lengths)) h;
        index_holds = hold-first (index_rules index) (offsets ++ lengths) a;
        headers_hold = hold-first (header_offset_rules index header) (sequence_offset_rules index sequence) o;
        sequences_hold = hold-second (header_offset_rules index header) (sequence_offset_rules index sequence) o;
        separators_hold = hold-first (separator_rules index sequence) (total_rules index sequence) l;
        totals_hold = hold-second (separator_rules index sequence) (total_rules index sequence) l;
      }

  parts_volume : VolumeParts → AllHold (volume_rules index sequence header)
  unfolding volume_rules sizes offsets lengths
  parts_volume p =
      hold-append sizes (index_rules index ++ (offsets ++ lengths)) p.sizes_hold
      (hold-append (index_rules index) (offsets ++ lengths) p.index_holds
      (hold-append offsets lengths (hold-append (header_offset_rules index header) (sequence_offset_rules index sequence) p.headers_hold p.sequences_hold)
      (hold-append (separator_rules index sequence) (total_rules index sequence) p.separators_hold p.totals_hold)))

  -- the rules that go by the type
  abbrev offsets_by : Bool → Type 0
  offsets_by b = AllHold (cond b (protein_offset_rules index sequence) (dna_offset_rules index sequence))

  abbrev separators_by : Bool → Type 0
  separators_by b = AllHold (cond b (protein_separator_rules index sequence) [])

  abbrev totals_by : Bool → Type 0
  totals_by b = AllHold (totals_of index (cond b (protein_length index) (dna_length index sequence)))

  holds_of : VolumeParts → VolumeHolds index sequence header
  holds_of p =
      let sizes = size_tests index sequence header p.sizes_hold in
      let f = fields_of index (index_tests index p.index_holds) in
      record {
        index_size = leb-true _ _ sizes.index_fits;
        sequence_size = leb-true _ _ sizes.sequence_fits;
        header_size = leb-true _ _ sizes.header_fits;
        fields = f;
        headers = headers_of index header (header_tests index header p.headers_hold);
        protein = λ e.
            let t = protein-type index e in
            protein_of index sequence f (protein_tests index sequence (subst offsets_by t p.sequences_hold))
            (separator_tests index sequence (subst separators_by t p.separators_hold))
            (total_tests index (protein_length index) (subst totals_by t p.totals_hold));
        dna = λ e.
            let t = dna-type index e in
            dna_of index sequence f (dna_tests index sequence (subst offsets_by t p.sequences_hold))
            (total_tests index (dna_length index sequence) (subst totals_by t p.totals_hold));
      }

  parts_of : VolumeHolds index sequence header → VolumeParts
  parts_of h = ⊎_elim dna_parts protein_parts h.fields.type
    where
      -- what goes by the type, beside what does not
      with_type : AllHold (sequence_offset_rules index sequence) → AllHold (separator_rules index sequence) → AllHold (total_rules index sequence) → VolumeParts
      with_type offsets_hold separators_hold totals_hold =
          record {
            sizes_hold = size_tests_back index sequence header (record {
              index_fits = le-leb _ _ h.index_size;
              sequence_fits = le-leb _ _ h.sequence_size;
              header_fits = le-leb _ _ h.header_size;
            });
            index_holds = index_tests_back index (fields_test index h.fields);
            headers_hold = header_tests_back index header (headers_test index header h.headers);
            sequences_hold = offsets_hold;
            separators_hold = separators_hold;
            totals_hold = totals_hold;
          }

      dna_parts : stated_type index ≡ pos 0 → VolumeParts
      dna_parts e =
          let t = dna-type index e in
          let d = h.dna e in
          with_type (rw t (dna_tests_back index sequence (dna_test index sequence d))) (rw t tt)
          (rw t (total_tests_back index (dna_length index sequence) (totals_test index (dna_length index sequence) d.totals)))

      protein_parts : stated_type index ≡ pos 1 → VolumeParts
      protein_parts e =
          let t = protein-type index e in
          let d = h.protein e in
          with_type (rw t (protein_tests_back index sequence (protein_test index sequence d)))
          (rw t (separator_tests_back index sequence (separator_test index sequence d)))
          (rw t (total_tests_back index (protein_length index) (totals_test index (protein_length index) d.totals)))

  -- A volume that passes keeps every rule, and what is returned is its record.
  pub passed_rules : (v : VolumeRecord) → volume_answer index sequence header ≡ Ok v → VolumeHolds index sequence header × (v ≡ volume_record index)
  unfolding volume_answer
  passed_rules v e =
      let p = passes_with Err (Ok (volume_record index)) (Ok v) (λ r. err-not_ok r v) (volume_rules index sequence header) e in
      let q = p.1 in
      (holds_of (volume_parts p.0), cc)

  -- A volume that keeps every rule passes.
  pub rules_pass : VolumeHolds index sequence header → volume_answer index sequence header ≡ Ok (volume_record index)
  unfolding volume_answer
  rules_pass h = verdict-passes Err (Ok (volume_record index)) (volume_rules index sequence header) (parts_volume (parts_of h))

  -- ---- the same, by the answer's number and values

  -- The check answers 0 only where all rules of its list hold, and then returns the volume's record ..
  zero_passed : volume_number (volume_answer index sequence header) ≡ 0
      → AllHold (volume_rules index sequence header) × (volume_answer index sequence header ≡ Ok (volume_record index))
  unfolding volume_answer
  zero_passed h = zero-passes Err (Ok (volume_record index)) volume_number (λ r. refl) (volume_rules index sequence header) h

  pub zero-all : volume_number (volume_answer index sequence header) ≡ 0 → AllHold (volume_rules index sequence header)
  zero-all h = (zero_passed h).0

  -- .. and so only where the rules of the volume are kept.
  pub zero_rules : volume_number (volume_answer index sequence header) ≡ 0
      → VolumeHolds index sequence header × (volume_values (volume_answer index sequence header) ≡ record_values (volume_record index))
  zero_rules h = let p = zero_passed h in (holds_of (volume_parts p.0), ap volume_values p.1)

  pub rules_zero : VolumeHolds index sequence header → volume_number (volume_answer index sequence header) ≡ 0
  rules_zero h = ap volume_number (rules_pass h)
