-- Two sets whose integers, packets and texts read alike, each in its own byte order: the check of both answers with one number.
-- Assumes nothing.
use mathlib.Core.Path.{◌≡◌, refl, sym, ap, ◌∙◌}
use mathlib.Core.List.{List, ◌++◌}
use Prim.Native.Nat.{ℕ, zero, suc, ◌+◌, ◌*◌, ◌-◌, ◌/◌, ◌≤◌, ◌<◌}
use native.Mathlib.Omega.{arith}
use native.Mathlib.Nat.{min-eq_left, le_antisymm}
use lib.Dec.{eqb, leb}
use lib.ListN.{length}
use lib.Seq.{ext_get_or}
use borrow.Author.Tests.{leb-true}
use Rattle.laws.specs.Places.{largest_to}
use Rattle.laws.specs.Rules.{verdict, AllHold}
use Rattle.laws.proofs.Alike.{Alike, alike_same, alike_join, alike_verdict}
use Rattle.laws.proofs.Places.{every-same, sum_same, largest-same}
use Rattle.laws.proofs.Tests.{bool_cases}
use Rattle.answers.specs.Numbers.{number_of}
use Rattle.fields.specs.declared.Order.{Order}
use Rattle.fields.specs.Number.{signed, unsigned_at, signed_at}
use Rattle.packets.specs.Positions.{byte_of}
use Rattle.packets.specs.Runs.{unpacked}
use Rattle.metadata.specs.Record.{texts_in}
use Rattle.dsqdata.specs.declared.SetRecord.{SetRecord}
use Rattle.dsqdata.specs.Header.{set_magic, magic_of, alphabet_of, count_of, record_of, bytes_after_header, packets_in, body_of}
use Rattle.dsqdata.specs.Ends.{metadata_table, packet_table, end_before, rises_at, run_at, residues_at, metadata_start}
use Rattle.dsqdata.specs.Records.{texts_at, name_at, accession_at, description_at}
use Rattle.dsqdata.specs.Check.{size_rules, start_rules, tag_rules, file_rules, header_rules, count_rules, body_rules, layout_rules, ends_rules}
use Rattle.dsqdata.specs.Check.{metadata_ends_rules, packet_ends_rules, rules_of_run, set_run_rules, rules_of_record, record_rules, stated_rules, total_rules}
use Rattle.dsqdata.specs.Check.{behind_runs, rest_rules, content_rules, set_rules}
use Rattle.dsqdata.specs.Rules.{EndsRule}
use Rattle.dsqdata.specs.Turned.{with_order}
use Rattle.dsqdata.proofs.Bodies.{body-length, body_at}
use Rattle.dsqdata.proofs.EachRule.{rules_same}
use Rattle.dsqdata.proofs.Named.{start_tests, start_tests_back, file_tests, layout_tests}
use Rattle.dsqdata.proofs.Rising.{end_zero, end_suc, ends_rule}

-- What is read alike: o and o' are the orders of the sets i, m, s and i', m', s'.
pub record ReadAlike (o o' : Order) (i m s i' m' s' : List ℕ) : Type 0 where
  pub index_length : length i ≡ length i'
  pub metadata_length : length m ≡ length m'
  pub sequence_length : length s ≡ length s'
  pub four : (k : ℕ) → k < 7 → 52 ≤ length i → unsigned_at o 4 i (4 * k) ≡ unsigned_at o' 4 i' (4 * k)
  pub eight : (k : ℕ) → k < 3 + 2 * count_of o i → 28 + 8 * k + 8 ≤ length i → unsigned_at o 8 i (28 + 8 * k) ≡ unsigned_at o' 8 i' (28 + 8 * k)
  pub start : (k : ℕ) → k < 2 → 8 ≤ length m → unsigned_at o 4 m (4 * k) ≡ unsigned_at o' 4 m' (4 * k)
  pub packet : (k : ℕ) → 4 * k + 4 ≤ length s → unsigned_at o 4 s (4 * k) ≡ unsigned_at o' 4 s' (4 * k)
  pub texts : 8 ≤ length m → EndsRule o i metadata_table (count_of o i) (bytes_after_header m) → (k : ℕ) → k < count_of o i
      → texts_in o m (metadata_start o i k) (metadata_start o i (suc k)) ≡ texts_in o' m' (metadata_start o i k) (metadata_start o i (suc k))

pub signed_same : (o o' : Order) (w : ℕ) (xs ys : List ℕ) (at : ℕ) → unsigned_at o w xs at ≡ unsigned_at o' w ys at → signed_at o w xs at ≡ signed_at o' w ys at
unfolding signed_at
signed_same o o' w xs ys at e = ap (signed w) e

module _ {o o' : Order} {i m s i' m' s' : List ℕ} (a : ReadAlike o o' i m s i' m' s') where
  -- ---- the packets

  body_same : 8 ≤ length s → length s ≤ 2147483647 → body_of o s ≡ body_of o' s'
  body_same n q =
      let e : packets_in s ≡ packets_in s' = ap (λ (x : ℕ). (x - 8) / 4) a.sequence_length in
      ext_get_or 0 (body_of o s) (body_of o' s') (body-length o s ∙ (e ∙ sym (body-length o' s')))
      (λ k h.
      let g : k < packets_in s = omega (arith, body-length o s) in
      let p : byte_of 8 k ≡ 4 * (k + 2) = min-eq_left (let z : 4 * k + 8 ≤ 18446744073709551615 = omega arith in z) ∙ omega arith in
      body_at o s k g ∙ (rw p (a.packet (k + 2) (omega arith)) ∙ sym (body_at o' s' k (rw e at g))))

  -- ---- the header fields

  module _ (l : 52 ≤ length i) where
    count_same : count_of o i ≡ count_of o' i'
    count_same = a.eight 1 (omega arith) (omega arith)

    -- the records differ in nothing but the order
    pub record_same : record_of o' i' ≡ with_order o' (record_of o i)
    record_same =
        rw (
          a.four 0 (omega arith) l,
          a.four 1 (omega arith) l,
          a.four 2 (omega arith) l,
          a.four 3 (omega arith) l,
          a.four 4 (omega arith) l,
          a.four 5 (omega arith) l,
          a.four 6 (omega arith) l,
          a.eight 0 (omega arith) (omega arith),
          count_same,
          a.eight 2 (omega arith) (omega arith),
        )

    layout_same : layout_rules o i s ≡ layout_rules o' i' s'
    unfolding layout_rules header_rules count_rules body_rules
    layout_same = rw (a.four 2 (omega arith) l, a.four 3 (omega arith) l, count_same, a.index_length, a.sequence_length)

    tag_same : 8 ≤ length m → 8 ≤ length s → tag_rules o i m s ≡ tag_rules o' i' m' s'
    unfolding tag_rules
    tag_same n q = rw (a.start 1 (omega arith) n, a.packet 1 (omega arith), a.four 1 (omega arith) l)

    -- ---- the ends

    module _ (whole : length i ≡ 52 + 16 * count_of o i) where
      -- table d of the two: the metadata's or the packets'
      end_same : (t d k : ℕ) → t ≡ 52 + 8 * d → d < 2 → k ≤ count_of o i → end_before o i t k ≡ end_before o' i' t k
      end_same t d zero e f h = end_zero o i t 0 refl ∙ sym (end_zero o' i' t 0 refl)
      end_same t d (suc k) e f h =
          let p : 28 + 8 * (3 + d + 2 * k) ≡ t + 16 * k = omega arith in
          end_suc o i t k
          ∙ (signed_same o o' 8 i i' (t + 16 * k) (rw p at (a.eight (3 + d + 2 * k) (omega arith) (omega arith)))
          ∙ sym (end_suc o' i' t k))

      ends_same : (t d size size' : ℕ) → t ≡ 52 + 8 * d → d < 2 → size ≡ size'
          → ends_rules o i t (count_of o i) size ≡ ends_rules o' i' t (count_of o' i') size'
      unfolding ends_rules
      ends_same t d size size' e f g =
          rw (
            every-same (rises_at o i t) (rises_at o' i' t) (count_of o i)
                (λ k l. rw (end_same t d k e f (omega arith), end_same t d (suc k) e f (omega arith))),
            end_same t d (count_of o i) e f (omega arith),
            g,
            ← count_same,
          )

      -- ---- the runs

      run-same : 8 ≤ length s → length s ≤ 2147483647 → (k : ℕ) → k < count_of o i → run_at o i s k ≡ run_at o' i' s' k
      unfolding run_at
      run-same n q k h = rw (body_same n q, end_same packet_table 1 k refl (omega arith) (omega arith), end_same packet_table 1 (suc k) refl (omega arith) (omega arith))

      -- ---- the metadata records

      texts_same : 8 ≤ length m → EndsRule o i metadata_table (count_of o i) (bytes_after_header m) → (k : ℕ) → k < count_of o i
          → texts_at o i m k ≡ texts_at o' i' m' k
      unfolding texts_at
      texts_same n r k h =
          rw (← end_same metadata_table 0 k refl (omega arith) (omega arith), ← end_same metadata_table 0 (suc k) refl (omega arith) (omega arith)) (a.texts n r k h)

      -- ---- the rules of the runs, of the records and of the totals

      module _ (n : 8 ≤ length m) (q : 8 ≤ length s) (small : length s ≤ 2147483647) where
        runs_same : set_run_rules o i s ≡ set_run_rules o' i' s'
        runs_same =
            rw (← count_same, ← a.four 2 (omega arith) l)
            (rules_same (λ k. rules_of_run (alphabet_of o i) (run_at o i s k)) (λ k. rules_of_run (alphabet_of o i) (run_at o' i' s' k)) (count_of o i)
            (λ k h. ap (rules_of_run (alphabet_of o i)) (run-same q small k h)))

        residues-same : (k : ℕ) → k < count_of o i → residues_at o i s k ≡ residues_at o' i' s' k
        residues-same k h = ap (λ (ps : List ℕ). length (unpacked ps)) (run-same q small k h)

        module _ (r : EndsRule o i metadata_table (count_of o i) (bytes_after_header m)) where
          records-same : record_rules o i m ≡ record_rules o' i' m'
          unfolding rules_of_record
          records-same =
              rw (← count_same)
              (rules_same (rules_of_record o i m) (rules_of_record o' i' m') (count_of o i) (λ k h. rw (texts_same n r k h)))

          totals-same : (x y : ℕ) → total_rules o i m x y ≡ total_rules o' i' m' x y
          unfolding total_rules stated_rules
          totals-same x y =
              let c = count_of o i in
              let e : total_rules o i m x y ≡ stated_rules (record_of o' i') x y (largest_to (name_at o i m) c) (largest_to (accession_at o i m) c)
              (largest_to (description_at o i m) c) = sym (ap (λ (set : SetRecord). stated_rules set x y (largest_to (name_at o i m) c)
              (largest_to (accession_at o i m) c) (largest_to (description_at o i m) c)) record_same) in
              e
              ∙ rw (
                largest-same (name_at o i m) (name_at o' i' m') c (λ k h. rw (texts_same n r k h)),
                largest-same (accession_at o i m) (accession_at o' i' m') c (λ k h. rw (texts_same n r k h)),
                largest-same (description_at o i m) (description_at o' i' m') c (λ k h. rw (texts_same n r k h)),
                count_same,
              )

          rest_same : rest_rules o i m s ≡ rest_rules o' i' m' s'
          unfolding rest_rules behind_runs
          rest_same =
              rw (
                records-same,
                sum_same (residues_at o i s) (residues_at o' i' s') (count_of o i) residues-same,
                largest-same (residues_at o i s) (residues_at o' i' s') (count_of o i) residues-same,
                totals-same _ _,
                count_same,
              )

      -- ---- from the metadata ends on

      content_alike : 8 ≤ length m → 8 ≤ length s → length s ≤ 2147483647
          → Alike number_of 0 (content_rules o i m s) (content_rules o' i' m' s')
      unfolding content_rules
      content_alike n q small =
          alike_join number_of 0 (metadata_ends_rules o i m) (metadata_ends_rules o' i' m') (packet_ends_rules o i s ++ (set_run_rules o i s ++ rest_rules o i m s))
          (packet_ends_rules o' i' s' ++ (set_run_rules o' i' s' ++ rest_rules o' i' m' s'))
          (alike_same number_of 0 (metadata_ends_rules o i m) (metadata_ends_rules o' i' m')
          (ends_same metadata_table 0 (bytes_after_header m) (bytes_after_header m') refl (omega arith) (ap (λ (x : ℕ). x - 8) a.metadata_length)))
          (λ h. alike_same number_of 0 _ _ (rest h))
        where
          rest : AllHold (metadata_ends_rules o i m)
              → packet_ends_rules o i s ++ (set_run_rules o i s ++ rest_rules o i m s) ≡ packet_ends_rules o' i' s' ++ (set_run_rules o' i' s' ++ rest_rules o' i' m' s')
          rest h =
              let r = ends_rule o i metadata_table (count_of o i) (bytes_after_header m) h in
              rw (
                ends_same packet_table 1 (packets_in s) (packets_in s') refl (omega arith) (ap (λ (x : ℕ). (x - 8) / 4) a.sequence_length),
                runs_same n q small,
                rest_same n q small r,
              )

-- ---- the check

-- the start of a file, where its length and its magic read alike
start_alike : (o o' : Order) (least : ℕ) (f f' : List ℕ) → length f ≡ length f'
    → (least ≤ length f → eqb (magic_of o f) set_magic ≡ eqb (magic_of o' f') set_magic) → Alike number_of 0 (start_rules o least f) (start_rules o' least f')
unfolding start_rules
start_alike o o' least f f' e g more rest h =
    bool_cases (leb least (length f))
    (λ t. alike_same number_of 0 (start_rules o least f) (start_rules o' least f') (rw (e, g (leb-true _ _ t))) more rest h)
    (λ t. rw (← e, t))

module _ (o o' : Order) (i m s i' m' s' : List ℕ) (li : length i ≡ length i') (lm : length m ≡ length m') (ls : length s ≡ length s')
    (magic : 52 ≤ length i → eqb (magic_of o i) set_magic ≡ eqb (magic_of o' i') set_magic)
    (behind : AllHold (start_rules o 52 i) → ReadAlike o o' i m s i' m' s') where
  sizes_same : size_rules i m s ≡ size_rules i' m' s'
  unfolding size_rules
  sizes_same = rw (li, lm, ls)

  files_alike : Alike number_of 0 (file_rules o i m s) (file_rules o' i' m' s')
  unfolding file_rules
  files_alike =
      alike_join number_of 0 (size_rules i m s) (size_rules i' m' s') _ _ (alike_same number_of 0 _ _ sizes_same)
      (λ _. alike_join number_of 0 (start_rules o 52 i) (start_rules o' 52 i') _ _ (start_alike o o' 52 i i' li magic)
      (λ hi.
      let a = behind hi in
      alike_join number_of 0 (start_rules o 8 m) (start_rules o' 8 m') _ _
      (start_alike o o' 8 m m' lm (λ n. ap (λ (x : ℕ). eqb x set_magic) (a.start 0 (omega arith) n)))
      (λ hm. alike_join number_of 0 (start_rules o 8 s) (start_rules o' 8 s') _ _
      (start_alike o o' 8 s s' ls (λ n. ap (λ (x : ℕ). eqb x set_magic) (a.packet 0 (omega arith))))
      (λ hs. alike_same number_of 0 _ _
      (tag_same a (leb-true _ _ (start_tests o 52 i hi).long) (leb-true _ _ (start_tests o 8 m hm).long) (leb-true _ _ (start_tests o 8 s hs).long))))))

  rules_alike : Alike number_of 0 (set_rules o i m s) (set_rules o' i' m' s')
  unfolding set_rules
  rules_alike =
      alike_join number_of 0 (file_rules o i m s) (file_rules o' i' m' s') _ _ files_alike
      (λ h.
      let f = file_tests o i m s h in
      let hi = start_tests_back o 52 i f.index_start in
      let a = behind hi in
      let l = leb-true _ _ f.index_start.long in
      alike_join number_of 0 (layout_rules o i s) (layout_rules o' i' s') _ _ (alike_same number_of 0 _ _ (layout_same a l))
      (λ g.
      let c = (layout_tests o i s g).counts in
      content_alike a l (le_antisymm (leb-true _ _ c.nothing_after) (leb-true _ _ c.ends_there)) (leb-true _ _ f.metadata_start.long)
      (leb-true _ _ f.sequence_start.long) (leb-true _ _ f.sizes.sequence_fits)))

  -- Sets that read alike have one number.
  pub numbers_alike : verdict number_of 0 (set_rules o i m s) ≡ verdict number_of 0 (set_rules o' i' m' s')
  numbers_alike = alike_verdict number_of 0 (set_rules o i m s) (set_rules o' i' m' s') rules_alike
