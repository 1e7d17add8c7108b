-- The set check passes exactly the sets that keep document 01's rules. Assumes nothing.
use mathlib.Core.Path.{◌≡◌, refl, sym, ap, ◌∙◌}
use mathlib.Core.Bool.{true}
use mathlib.Core.Logic.{⊎_elim, ◌⊎◌, inl, inr}
use mathlib.Core.List.{List, ◌++◌}
use Prim.Native.Nat.{ℕ, suc, ◌≤◌, ◌<◌}
use native.Mathlib.Nat.{le_antisymm, le_of_eq, eq-or-lt_of_le}
use lib.Dec.{eqb, leb}
use borrow.Author.Tests.{le-leb, leb-true, eq-eqb, eqb-true}
use Rattle.laws.specs.Places.{sum_to, largest_to}
use Rattle.laws.specs.Rules.{AllHold}
use Rattle.laws.proofs.Places.{largest-same}
use Rattle.laws.proofs.Rules.{verdict-passes, hold-append, hold-first, hold-second}
use Rattle.laws.proofs.Tests.{never, both_pass}
use Rattle.laws.proofs.Passing.{passes_with}
use Rattle.answers.proofs.Numbers.{zero-passes}
use Rattle.fields.specs.declared.Order.{Order}
use Rattle.residues.specs.Alphabets.{is_alphabet}
use Rattle.packets.specs.Runs.{well_formed}
use Rattle.packets.proofs.Rules.{formed_rules, rules_formed}
use Rattle.metadata.specs.declared.Texts.{Texts}
use Rattle.std.specs.Prelude.{Option, Some, None, Ok, Err}
use Rattle.answers.proofs.Checks.{err-not_ok}
use Rattle.metadata.specs.Record.{texts_in, is_good, name_length, accession_length, description_length}
use Rattle.metadata.specs.Rules.{MetadataRule}
use Rattle.metadata.proofs.Rules.{texts_rule, rule_texts}
use Rattle.dsqdata.specs.declared.SetRecord.{SetRecord}
use Rattle.dsqdata.specs.Header.{set_order, alphabet_of, count_of, record_of, bytes_after_header, packets_in}
use Rattle.dsqdata.specs.Ends.{metadata_table, packet_table, run_at, residues_at, metadata_start}
use Rattle.dsqdata.specs.Records.{texts_at, name_at, accession_at, description_at}
use Rattle.dsqdata.specs.Check.{file_rules, layout_rules, metadata_ends_rules, packet_ends_rules, rules_of_run, set_run_rules, rules_of_record, record_rules}
use Rattle.dsqdata.specs.Check.{total_rules, behind_runs, rest_rules, content_rules, set_rules, other_rules, set_check, set_number, set_values, set_record_values}
use Rattle.dsqdata.specs.Rules.{OtherRules, SetRules}
use Rattle.dsqdata.proofs.EachRule.{rules_at, rules_all}
use Rattle.dsqdata.proofs.Named.{FileTests, file_tests, file_tests_back, LayoutTests, layout_tests, layout_tests_back}
use Rattle.dsqdata.proofs.Named.{StatedTests, stated_tests, stated_tests_back, other_parts, other_parts_back}
use Rattle.dsqdata.proofs.Orders.{order_asked}
use Rattle.dsqdata.proofs.Rising.{ends_rule, rule_ends}

-- ---- one run, one record, one alphabet

pub run_rule : (a : ℕ) (ps : List ℕ) → AllHold (rules_of_run a ps) → well_formed a ps ≡ true
unfolding rules_of_run
run_rule a ps h = h.0

pub rule_run : (a : ℕ) (ps : List ℕ) → well_formed a ps ≡ true → AllHold (rules_of_run a ps)
unfolding rules_of_run
rule_run a ps e = (e, tt)

good_texts : (x : Option Texts) → is_good x ≡ true → x ≡ Some (record { name = name_length x; accession = accession_length x; description = description_length x })
good_texts (Some t) h = refl
good_texts None h = never h

module _ (order : Order) (i m : List ℕ) (k : ℕ) where
  record_rule : AllHold (rules_of_record order i m k)
      → MetadataRule order m (metadata_start order i k) (metadata_start order i (suc k)) (name_at order i m k) (accession_at order i m k) (description_at order i m k)
  unfolding rules_of_record texts_at
  record_rule h =
      texts_rule order m (metadata_start order i k) (metadata_start order i (suc k)) _ _ _ (good_texts (texts_in order m (metadata_start order i k) (metadata_start order i (suc k))) h.0)

  rule_record : (n a d : ℕ) → MetadataRule order m (metadata_start order i k) (metadata_start order i (suc k)) n a d → texts_at order i m k ≡ Some (record { name = n; accession = a; description = d })
  unfolding texts_at
  rule_record n a d r = rule_texts order m (metadata_start order i k) (metadata_start order i (suc k)) n a d r

  record_asks : (n a d : ℕ) → texts_at order i m k ≡ Some (record { name = n; accession = a; description = d }) → AllHold (rules_of_record order i m k)
  unfolding rules_of_record
  record_asks n a d e = (ap is_good e, tt)

alphabet_rule : (a : ℕ) → is_alphabet a ≡ true → (a ≡ 1) ⊎ ((a ≡ 2) ⊎ (a ≡ 3))
alphabet_rule a h =
    let p = both_pass (leb 1 a) (leb a 3) h in
    let l : 1 ≤ a = leb-true 1 a p.0 in
    let u : a ≤ 3 = leb-true a 3 p.1 in
    ⊎_elim (λ e. inl (sym e)) (λ k. ⊎_elim (λ e. inr (inl (sym e))) (λ j. inr (inr (le_antisymm u j))) (eq-or-lt_of_le k)) (eq-or-lt_of_le l)

rule_alphabet : (a : ℕ) → (a ≡ 1) ⊎ ((a ≡ 2) ⊎ (a ≡ 3)) → is_alphabet a ≡ true
rule_alphabet a h = ⊎_elim (λ e. rw e) (λ g. ⊎_elim (λ e. rw e) (λ e. rw e) g) h

-- ---- the other rules

module _ (order : Order) where
  module _ (i m s : List ℕ) where
    -- the rules behind the runs: the metadata records and the totals
    abbrev Stated : Type 0
    Stated =
        StatedTests (record_of order i) (sum_to (residues_at order i s) (count_of order i)) (largest_to (residues_at order i s) (count_of order i))
        (largest_to (name_at order i m) (count_of order i)) (largest_to (accession_at order i m) (count_of order i)) (largest_to (description_at order i m) (count_of order i))

    rest_parts : AllHold (rest_rules order i m s) → AllHold (record_rules order i m) × Stated
    unfolding rest_rules behind_runs total_rules
    rest_parts h =
        (hold-first (record_rules order i m) (total_rules order i m _ _) h, stated_tests (record_of order i) _ _ _ _ _ (hold-second (record_rules order i m) (total_rules order i m _ _) h))

    rest_parts_back : AllHold (record_rules order i m) → Stated → AllHold (rest_rules order i m s)
    unfolding rest_rules behind_runs total_rules
    rest_parts_back h t = hold-append (record_rules order i m) (total_rules order i m _ _) h (stated_tests_back (record_of order i) _ _ _ _ _ t)

    pub others_rule : AllHold (other_rules order i m s) → OtherRules order i m s
    others_rule h =
        let p = other_parts order i m s h in
        let f = file_tests order i m s p.files in
        let l = layout_tests order i s p.layout in
        let r = rest_parts p.rest in
        let t = r.1 in
        record {
          index_fits = leb-true _ _ f.sizes.index_fits;
          metadata_fits = leb-true _ _ f.sizes.metadata_fits;
          sequence_fits = leb-true _ _ f.sizes.sequence_fits;
          index_starts = leb-true _ _ f.index_start.long;
          index_magic = eqb-true _ _ f.index_start.magic;
          metadata_starts = leb-true _ _ f.metadata_start.long;
          metadata_magic = eqb-true _ _ f.metadata_start.magic;
          sequence_starts = leb-true _ _ f.sequence_start.long;
          sequence_magic = eqb-true _ _ f.sequence_start.magic;
          metadata_tag = eqb-true _ _ f.tags.metadata_tag;
          sequence_tag = eqb-true _ _ f.tags.sequence_tag;
          alphabet = alphabet_rule (alphabet_of order i) l.header.alphabet;
          flags = eqb-true _ _ l.header.flags;
          few = leb-true _ _ l.counts.few;
          index_whole = le_antisymm (leb-true _ _ l.counts.nothing_after) (leb-true _ _ l.counts.ends_there);
          body_whole = eqb-true _ _ l.body.whole;
          metadata_ends = ends_rule order i metadata_table (count_of order i) (bytes_after_header m) p.metadata_ends;
          name = name_at order i m;
          accession = accession_at order i m;
          description = description_at order i m;
          records = λ k b. record_rule order i m k (rules_at (rules_of_record order i m) (count_of order i) k b r.0);
          residues = eqb-true _ _ t.total;
          longest_sequence = eqb-true _ _ t.longest_sequence;
          longest_name = eqb-true _ _ t.longest_name;
          longest_accession = eqb-true _ _ t.longest_accession;
          longest_description = eqb-true _ _ t.longest_description;
        }

    module _ (r : OtherRules order i m s) where
      files_back : FileTests order i m s
      files_back =
          record {
            sizes = record { index_fits = le-leb _ _ r.index_fits; metadata_fits = le-leb _ _ r.metadata_fits; sequence_fits = le-leb _ _ r.sequence_fits };
            index_start = record { long = le-leb _ _ r.index_starts; magic = eq-eqb _ _ r.index_magic };
            metadata_start = record { long = le-leb _ _ r.metadata_starts; magic = eq-eqb _ _ r.metadata_magic };
            sequence_start = record { long = le-leb _ _ r.sequence_starts; magic = eq-eqb _ _ r.sequence_magic };
            tags = record { metadata_tag = eq-eqb _ _ r.metadata_tag; sequence_tag = eq-eqb _ _ r.sequence_tag };
          }

      layout_back : LayoutTests order i s
      layout_back =
          let w = r.index_whole in
          record {
            header = record { alphabet = rule_alphabet (alphabet_of order i) r.alphabet; flags = eq-eqb _ _ r.flags };
            counts = record { few = le-leb _ _ r.few; ends_there = le-leb _ _ (le_of_eq (sym w)); nothing_after = le-leb _ _ (le_of_eq w) };
            body = record { whole = eq-eqb _ _ r.body_whole };
          }

      texts_back : (k : ℕ) → k < count_of order i → texts_at order i m k ≡ Some (record { name = r.name k; accession = r.accession k; description = r.description k })
      texts_back k b = rule_record order i m k (r.name k) (r.accession k) (r.description k) (r.records k b)

      -- the longest of a text is that of the lengths that the rules name
      longest_back : (part : Option Texts → ℕ) (f : ℕ → ℕ) {n : ℕ} → ((k : ℕ) → k < count_of order i → part (texts_at order i m k) ≡ f k)
          → largest_to f (count_of order i) ≡ n → eqb (largest_to (λ k. part (texts_at order i m k)) (count_of order i)) n ≡ true
      longest_back part f h e = eq-eqb _ _ (largest-same (λ k. part (texts_at order i m k)) f (count_of order i) h ∙ e)

      stated_back : Stated
      stated_back =
          record {
            total = eq-eqb _ _ r.residues;
            longest_sequence = eq-eqb _ _ r.longest_sequence;
            longest_name = longest_back name_length r.name (λ k b. ap name_length (texts_back k b)) r.longest_name;
            longest_accession = longest_back accession_length r.accession (λ k b. ap accession_length (texts_back k b)) r.longest_accession;
            longest_description = longest_back description_length r.description (λ k b. ap description_length (texts_back k b)) r.longest_description;
          }

      pub rule_others : AllHold (other_rules order i m s)
      rule_others =
          other_parts_back order i m s
          (record {
            files = file_tests_back order i m s files_back;
            layout = layout_tests_back order i s layout_back;
            metadata_ends = rule_ends order i metadata_table (count_of order i) (bytes_after_header m) r.metadata_ends;
            rest = rest_parts_back
                (rules_all (rules_of_record order i m) (count_of order i) (λ k b. record_asks order i m k _ _ _ (texts_back k b))) stated_back;
          })

  -- ---- all rules

  -- The list of all rules holds exactly where the other rules, those of the packet ends and those of the runs do.
  module _ (i m s : List ℕ) where
    pub parts_hold : AllHold (set_rules order i m s) → AllHold (other_rules order i m s) × AllHold (packet_ends_rules order i s) × AllHold (set_run_rules order i s)
    unfolding set_rules content_rules
    parts_hold h =
        let behind = packet_ends_rules order i s ++ (set_run_rules order i s ++ rest_rules order i m s) in
        let g = hold-second (file_rules order i m s) (layout_rules order i s ++ content_rules order i m s) h in
        let c = hold-second (layout_rules order i s) (content_rules order i m s) g in
        let d = hold-second (metadata_ends_rules order i m) behind c in
        let b = hold-second (packet_ends_rules order i s) (set_run_rules order i s ++ rest_rules order i m s) d in (
          other_parts_back order i m s
              (record {
                files = hold-first (file_rules order i m s) (layout_rules order i s ++ content_rules order i m s) h;
                layout = hold-first (layout_rules order i s) (content_rules order i m s) g;
                metadata_ends = hold-first (metadata_ends_rules order i m) behind c;
                rest = hold-second (set_run_rules order i s) (rest_rules order i m s) b;
              }),
          hold-first (packet_ends_rules order i s) (set_run_rules order i s ++ rest_rules order i m s) d,
          hold-first (set_run_rules order i s) (rest_rules order i m s) b,
        )

    pub hold_parts : AllHold (other_rules order i m s) → AllHold (packet_ends_rules order i s) → AllHold (set_run_rules order i s) → AllHold (set_rules order i m s)
    unfolding set_rules content_rules
    hold_parts h p b =
        let o = other_parts order i m s h in
        hold-append (file_rules order i m s) (layout_rules order i s ++ content_rules order i m s) o.files
        (hold-append (layout_rules order i s) (content_rules order i m s) o.layout
        (hold-append (metadata_ends_rules order i m) (packet_ends_rules order i s ++ (set_run_rules order i s ++ rest_rules order i m s)) o.metadata_ends
        (hold-append (packet_ends_rules order i s) (set_run_rules order i s ++ rest_rules order i m s) p
        (hold-append (set_run_rules order i s) (rest_rules order i m s) b o.rest))))
    -- The check passes where all rules hold, and its answer is the set's record.

-- ---- the check

module _ (i m s : List ℕ) where
  pub passed_all : (x : SetRecord) → set_check i m s ≡ Ok x → AllHold (set_rules (set_order i) i m s) × (record_of (set_order i) i ≡ x)
  unfolding set_check
  passed_all x h =
      let v = passes_with Err (Ok (record_of (set_order i) i)) (Ok x) (λ r. err-not_ok r x) (set_rules (set_order i) i m s) h in
      let e = v.1 in
      (v.0, (cc))

  pub all_passed : (order : Order) → AllHold (set_rules order i m s) → set_check i m s ≡ Ok (record_of order i)
  unfolding set_check
  all_passed order h =
      rw (order_asked order i m s (other_parts order i m s (parts_hold order i m s h).0).files)
      (verdict-passes Err (Ok (record_of order i)) (set_rules order i m s) h)

  -- A set that passes keeps the rules in the order of the record, which is that of its header fields ..
  pub passed_rules : (x : SetRecord) → set_check i m s ≡ Ok x → SetRules x.order i m s × (record_of x.order i ≡ x)
  passed_rules x h =
      let v = passed_all x h in
      let order = x.order in
      let o : set_order i ≡ order = ap (λ (y : SetRecord). y.order) v.1 in
      let p = parts_hold order i m s (rw o at v.0) in (
        record {
          others = others_rule order i m s p.0;
          packet_ends = ends_rule order i packet_table (count_of order i) (packets_in s) p.1;
          runs = λ k b. formed_rules (alphabet_of order i) (run_at order i s k)
              (run_rule (alphabet_of order i) (run_at order i s k) (rules_at (λ j. rules_of_run (alphabet_of order i) (run_at order i s j)) (count_of order i) k b p.2));
        },
        rw o at v.1,
      )

  -- .. and a set that keeps the rules in an order passes.
  pub rules_passed : (order : Order) → SetRules order i m s → set_check i m s ≡ Ok (record_of order i)
  rules_passed order r =
      all_passed order
      (hold_parts order i m s (rule_others order i m s r.others) (rule_ends order i packet_table (count_of order i) (packets_in s) r.packet_ends)
      (rules_all (λ j. rules_of_run (alphabet_of order i) (run_at order i s j)) (count_of order i)
      (λ k b. rule_run (alphabet_of order i) (run_at order i s k) (rules_formed (alphabet_of order i) (run_at order i s k) (r.runs k b)))))

  -- ---- the same, by the answer's number and values

  -- The check answers 0 exactly where all rules of its list hold in some order ..
  pub zero-all : set_number (set_check i m s) ≡ 0 → AllHold (set_rules (set_order i) i m s)
  unfolding set_check
  zero-all h = (zero-passes Err (Ok (record_of (set_order i) i)) set_number (λ r. refl) (set_rules (set_order i) i m s) h).0

  pub all-zero : (order : Order) → AllHold (set_rules order i m s)
      → (set_number (set_check i m s) ≡ 0) × (set_values (set_check i m s) ≡ set_record_values (record_of order i))
  all-zero order h = let e = all_passed order h in (ap set_number e, ap set_values e)

  -- .. and so exactly where the rules of the set are kept in some order; it then returns the ten header fields and that order.
  pub zero_rules : set_number (set_check i m s) ≡ 0 → SetRules (set_order i) i m s
  zero_rules h = (passed_rules (record_of (set_order i) i) (all_passed (set_order i) (zero-all h))).0

  pub rules_zero : (order : Order) → SetRules order i m s → (set_number (set_check i m s) ≡ 0) × (set_values (set_check i m s) ≡ set_record_values (record_of order i))
  rules_zero order r = let e = rules_passed order r in (ap set_number e, ap set_values e)
