-- The lookup finds exactly where its rules hold, and in a set that passed it finds every number. Assumes nothing.
use mathlib.Core.Path.{◌≡◌, refl, sym, ap}
use mathlib.Core.Bool.{true}
use mathlib.Core.List.{List}
use Prim.Native.Nat.{ℕ, suc, ◌+◌, ◌≤◌, ◌<◌}
use native.Mathlib.Omega.{arith}
use native.Mathlib.Nat.{le_antisymm, le_of_eq}
use lib.IntN.{ℤ, pos, negsuc}
use lib.Seq.{slice}
use lib.Signed.{lt_z, le_z, lt_z_yes, le_z_yes}
use borrow.Author.Tests.{le-leb, leb-true, lt-ltb, ltb-true}
use Rattle.laws.proofs.Rules.{verdict-passes}
use Rattle.laws.proofs.Tests.{true_T, T_true}
use Rattle.laws.proofs.Passing.{passes_with}
use Rattle.fields.specs.declared.Order.{Order}
use Rattle.std.specs.Prelude.{Ok, Err}
use Rattle.answers.proofs.Checks.{err-not_ok}
use Rattle.packets.specs.Ends.{after}
use Rattle.packets.proofs.Ends.{above}
use Rattle.dsqdata.specs.declared.SetRecord.{SetRecord}
use Rattle.dsqdata.specs.declared.Located.{Located}
use Rattle.dsqdata.specs.Header.{count_of, bytes_after_header, packets_in, body_of}
use Rattle.dsqdata.specs.Ends.{metadata_table, packet_table, end_before, run_at, metadata_start}
use Rattle.dsqdata.specs.Check.{set_check}
use Rattle.dsqdata.specs.Lookup.{start_at, length_at, lookup_rules, found_at, lookup_of}
use Rattle.dsqdata.specs.Rules.{EndsRule, PartRule, LookupRules}
use Rattle.dsqdata.proofs.Named.{PartTests, lookup_tests, lookup_tests_back}
use Rattle.dsqdata.proofs.Rising.{end_low, ends-within, run_is}
use Rattle.dsqdata.proofs.SetRules.{passed_rules}

module _ (order : Order) (i : List ℕ) (t k : ℕ) where
  part_rule : PartTests order i t k → PartRule order i t k
  part_rule p = record { low = le_z_yes (true_T _ p.low); rises = lt_z_yes (true_T _ p.rises); high = le_z_yes (true_T _ p.high) }

  rule_part : PartRule order i t k → PartTests order i t k
  rule_part r =
      record {
        low = T_true (le_z (negsuc 0) (end_before order i t k)) r.low.le;
        rises = T_true (lt_z (end_before order i t k) (end_before order i t (suc k))) r.rises.lt;
        high = T_true (le_z (end_before order i t (suc k)) (pos 2147483646)) r.high.le;
      }

module _ (set : SetRecord) (i : List ℕ) (k : ℕ) where
  -- What is found is the place, and the rules hold ..
  pub found_rules : (x : Located) → lookup_of set i k ≡ Ok x → LookupRules set i k × (found_at set.order i k ≡ x)
  unfolding lookup_of
  found_rules x h =
      let v = passes_with Err (Ok (found_at set.order i k)) (Ok x) (λ r. err-not_ok r x) (lookup_rules set i k) h in
      let t = lookup_tests set i k v.0 in (
        record {
          fits = leb-true _ _ t.fits;
          few = leb-true _ _ t.counts.few;
          index_whole = le_antisymm (leb-true _ _ t.counts.nothing_after) (leb-true _ _ t.counts.ends_there);
          known = ltb-true _ _ t.known;
          metadata_part = part_rule set.order i metadata_table k t.metadata_part;
          run_part = part_rule set.order i packet_table k t.run_part;
        },
        (let e = v.1 in cc),
      )

  -- .. and where the rules hold the place is found.
  pub rules_found : LookupRules set i k → lookup_of set i k ≡ Ok (found_at set.order i k)
  unfolding lookup_of
  rules_found r =
      let w = r.index_whole in
      verdict-passes Err (Ok (found_at set.order i k)) (lookup_rules set i k)
      (lookup_tests_back set i k
      (record {
        fits = le-leb _ _ r.fits;
        counts = record { few = le-leb _ _ r.few; ends_there = le-leb _ _ (le_of_eq (sym w)); nothing_after = le-leb _ _ (le_of_eq w) };
        known = lt-ltb _ _ r.known;
        metadata_part = rule_part set.order i metadata_table k r.metadata_part;
        run_part = rule_part set.order i packet_table k r.run_part;
      }))

-- ---- in a set that passed

top : (e : ℤ) → after e ≤ 2147483647 → le_z e (pos 2147483646) ≡ true
top (pos n) h = le-leb n 2147483646 (omega arith)
top (negsuc n) h = refl

ends_part : (order : Order) (i : List ℕ) (t n size k : ℕ) → EndsRule order i t n size → size ≤ 2147483647 → k < n → PartRule order i t k
ends_part order i t n size k r h l =
    let b = ends-within order i t n size r (suc k) (omega arith) in
    record {
      low = end_low order i t n r.rises k (omega arith);
      rises = r.rises k l;
      high = le_z_yes (true_T _ (top (end_before order i t (suc k)) (omega arith)));
    }

module _ (i m s : List ℕ) (x : SetRecord) (h : set_check i m s ≡ Ok x) (k : ℕ) (l : k < count_of x.order i) where
  -- In a set that passed, the lookup by its record finds every number ..
  pub passed_found : lookup_of x i k ≡ Ok (found_at x.order i k)
  passed_found =
      let p = passed_rules i m s x h in
      let o = p.0.others in
      let n : count_of x.order i ≡ x.count = ap (λ (y : SetRecord). y.count) p.1 in
      rules_found x i k
      (record {
        fits = o.index_fits;
        few = rw n at o.few;
        index_whole = rw n at o.index_whole;
        known = rw n at l;
        metadata_part = ends_part x.order i metadata_table (count_of x.order i) (bytes_after_header m) k o.metadata_ends (let z = o.metadata_fits in omega arith) l;
        run_part = ends_part x.order i packet_table (count_of x.order i) (packets_in s) k p.0.packet_ends (let z = o.sequence_fits in omega arith) l;
      })

  -- .. its run is the packets from the start found, as many as found ..
  pub found_run : slice (start_at x.order i packet_table k) (start_at x.order i packet_table k + length_at x.order i packet_table k) (body_of x.order s) ≡ run_at x.order i s k
  found_run =
      let p = passed_rules i m s x h in
      let r = p.0.packet_ends in
      let u = above (end_before x.order i packet_table k) (end_before x.order i packet_table (suc k)) (end_low x.order i packet_table (count_of x.order i) r.rises k (omega arith))
      (r.rises k l) in
      run_is x.order i s k (start_at x.order i packet_table k) (start_at x.order i packet_table k + length_at x.order i packet_table k) refl (omega arith)

  -- .. and its metadata ends where that of the next begins.
  pub found_metadata : 8 + start_at x.order i metadata_table k + length_at x.order i metadata_table k ≡ metadata_start x.order i (suc k)
  found_metadata =
      let r = (passed_rules i m s x h).0.others.metadata_ends in
      let u = above (end_before x.order i metadata_table k) (end_before x.order i metadata_table (suc k)) (end_low x.order i metadata_table (count_of x.order i) r.rises k (omega arith))
      (r.rises k l) in
      omega arith
