-- A set and the same set turned read alike, so the check answers both with one number. Assumes nothing.
use mathlib.Core.Path.{◌≡◌, refl, sym, ap, ◌∙◌}
use mathlib.Core.Bool.{true}
use mathlib.Core.Logic.{⊎_elim, ◌⊎◌, inl, inr}
use mathlib.Core.List.{List, [], ◌∷◌}
use Prim.Native.Nat.{ℕ, zero, suc, ◌+◌, ◌*◌, ◌-◌, ◌≤◌, ◌<◌}
use native.Mathlib.Omega.{arith}
use native.Mathlib.Nat.{eq-or-lt_of_le}
use lib.Dec.{eqb, ltb}
use lib.ListN.{length, get_or}
use borrow.Author.Tests.{eqb-true, eqb-false, eq-eqb, ne_eqb, le-leb, leb-true, ltb-true, ltb-false}
use Rattle.laws.specs.Digits.{value, digits, all_below}
use Rattle.laws.proofs.Alike.{told_by}
use Rattle.laws.proofs.Tests.{bool_cases}
use Rattle.fields.specs.declared.Order.{Order}
use Rattle.fields.specs.declared.Order.TheVariants.{Big, Little}
use Rattle.fields.specs.Number.{number, unsigned_at, signed_at}
use Rattle.fields.specs.Written.{number_bytes, number_put}
use Rattle.fields.specs.Turned.{other, turned_to}
use Rattle.fields.proofs.Turned.{unsigned_same, unsigned_below, field_bytes_lem, bytes_swapped, length_turned, turned_beside, turned_read, turned_below}
use Rattle.fields.proofs.Laws.{unsigned_bytes}
use Rattle.metadata.specs.Record.{texts_in}
use Rattle.metadata.proofs.Moved.{texts_moved}
use Rattle.dsqdata.specs.declared.SetRecord.{SetRecord}
use Rattle.std.specs.Prelude.{Ok, Err}
use Rattle.dsqdata.specs.Header.{set_magic, set_order, magic_of, count_of, record_of, bytes_after_header, packets_in}
use Rattle.dsqdata.specs.Ends.{metadata_table, end_before, metadata_start}
use Rattle.dsqdata.specs.Check.{set_rules, set_check, set_number}
use Rattle.dsqdata.specs.Rules.{EndsRule}
use Rattle.dsqdata.specs.Turned.{everywhere, has_taxonomy, taxonomy_place, turned_index, turned_metadata, turned_sequence, turned_record}
use Rattle.dsqdata.proofs.Named.{start_tests}
use Rattle.dsqdata.proofs.Orders.{order_shown}
use Rattle.dsqdata.proofs.ReadAlike.{ReadAlike, signed_same, record_same, numbers_alike}
use Rattle.dsqdata.proofs.Rising.{after-most, ends-within}
use Rattle.dsqdata.proofs.SetRules.{zero-all, all_passed, passed_all, passed_rules}

-- ---- worked out

-- magic, tag 1 and one packet
sequence_turned : turned_sequence Little (0xb1 ∷ 0xd1 ∷ 0xd3 ∷ 0xc4 ∷ 1 ∷ 0 ∷ 0 ∷ 0 ∷ 0x12 ∷ 0x34 ∷ 0x56 ∷ 0x78 ∷ [])
    ≡ 0xc4 ∷ 0xd3 ∷ 0xd1 ∷ 0xb1 ∷ 0 ∷ 0 ∷ 0 ∷ 1 ∷ 0x78 ∷ 0x56 ∷ 0x34 ∷ 0x12 ∷ []
unfolding turned_sequence number_put unsigned_at value digits
sequence_turned = refl

-- magic, tag 1 and the record of the name A with taxonomy id 9606, which the index's one end says to end at place 7
one_end : List ℕ
one_end = zeros 36 (1 ∷ zeros 15 (7 ∷ zeros 15 []))
  where
    zeros : ℕ → List ℕ → List ℕ
    zeros zero behind = behind
    zeros (suc n) behind = 0 ∷ zeros n behind

metadata_turned : turned_metadata Little one_end (0xb1 ∷ 0xd1 ∷ 0xd3 ∷ 0xc4 ∷ 1 ∷ 0 ∷ 0 ∷ 0 ∷ 65 ∷ 0 ∷ 0 ∷ 0 ∷ 0x86 ∷ 0x25 ∷ 0 ∷ 0 ∷ [])
    ≡ 0xc4 ∷ 0xd3 ∷ 0xd1 ∷ 0xb1 ∷ 0 ∷ 0 ∷ 0 ∷ 1 ∷ 65 ∷ 0 ∷ 0 ∷ 0 ∷ 0 ∷ 0 ∷ 0x25 ∷ 0x86 ∷ []
unfolding one_end turned_metadata number_put unsigned_at signed_at end_before value digits
metadata_turned = refl

-- ---- what is apart

-- one of two numbers that differ is the smaller
apart : (i j : ℕ) → (i ≡ j → ⊥) → (j < i) ⊎ (i < j)
apart i j n =
    bool_cases (ltb i j) (λ e. inr (ltb-true i j e))
    (λ e. ⊎_elim (λ q. absurd (n (sym q))) inl (eq-or-lt_of_le (ltb-false i j e)))

module _ (order : Order) where
  -- ---- the index

  module _ (i : List ℕ) (bytes : all_below 256 i ≡ true) where
    pub index_length_lem : length i ≡ length (turned_index order i)
    unfolding turned_index
    index_length_lem = sym (length_turned order 8 everywhere (λ k. 28 + 8 * k) _ (3 + 2 * count_of order i) ∙ length_turned order 4 everywhere (λ k. 4 * k) i 7)

    index_below : all_below 256 (turned_index order i) ≡ true
    unfolding turned_index
    index_below =
        turned_below order 8 everywhere (λ k. 28 + 8 * k) _ (3 + 2 * count_of order i) (turned_below order 4 everywhere (λ k. 4 * k) i 7 bytes)

    pub index_four : (k : ℕ) → k < 7 → 52 ≤ length i → unsigned_at order 4 i (4 * k) ≡ unsigned_at (other order) 4 (turned_index order i) (4 * k)
    unfolding turned_index
    index_four k h l =
        sym (unsigned_same (other order) 4 _ _ (4 * k) (4 * k)
        (λ j c. turned_beside order 8 everywhere (λ k. 28 + 8 * k) _ (3 + 2 * count_of order i) (4 * k + j) (λ x y z. inl (omega arith)))
        ∙ turned_read order 4 everywhere (λ k. 4 * k) i 7 k h refl (omega arith) (unsigned_below order 4 i (4 * k) bytes)
        (λ x y z q. ⊎_elim (λ u. inl (omega arith)) (λ u. inr (omega arith)) (apart x k q)))

    -- in the order in which it was read, the turned magic reads as the magic does in the other
    pub magic_back : 52 ≤ length i → magic_of (other order) i ≡ magic_of order (turned_index order i)
    magic_back l =
        let n = magic_of order i in
        let e : magic_of (other order) (turned_index order i) ≡ n = sym (index_four 0 (omega arith) l) in
        unsigned_bytes (other order) 4 i 0
        ∙ (ap (number (other order)) (field_bytes_lem order 4 i 0 bytes)
        ∙ (bytes_swapped order n
        ∙ (ap (number order) (sym (field_bytes_lem (other order) 4 (turned_index order i) 0 index_below ∙ ap (number_bytes (other order) 4) e))
        ∙ sym (unsigned_bytes order 4 (turned_index order i) 0))))

    pub index_eight : (k : ℕ) → k < 3 + 2 * count_of order i → 28 + 8 * k + 8 ≤ length i
        → unsigned_at order 8 i (28 + 8 * k) ≡ unsigned_at (other order) 8 (turned_index order i) (28 + 8 * k)
    unfolding turned_index
    index_eight k h l =
        let file : List ℕ = turned_to order 4 everywhere (λ k. 4 * k) 7 i in
        let e : unsigned_at order 8 file (28 + 8 * k) ≡ unsigned_at order 8 i (28 + 8 * k) = unsigned_same order 8 file i (28 + 8 * k) (28 + 8 * k)
        (λ j c. turned_beside order 4 everywhere (λ k. 4 * k) i 7 (28 + 8 * k + j) (λ x y z. inr (omega arith))) in
        sym (turned_read order 8 everywhere (λ k. 28 + 8 * k) file (3 + 2 * count_of order i) k h refl
        (omega (arith, length_turned order 4 everywhere (λ k. 4 * k) i 7)) (rw e (unsigned_below order 8 i (28 + 8 * k) bytes))
        (λ x y z q. ⊎_elim (λ u. inl (omega arith)) (λ u. inr (omega arith)) (apart x k q))
        ∙ e)

  -- ---- the sequence file

  module _ (s : List ℕ) (bytes : all_below 256 s ≡ true) where
    pub sequence_length_lem : length s ≡ length (turned_sequence order s)
    unfolding turned_sequence
    sequence_length_lem = sym (length_turned order 4 everywhere (λ k. 4 * k) s (2 + packets_in s))

    pub sequence_packet : (k : ℕ) → 4 * k + 4 ≤ length s → unsigned_at order 4 s (4 * k) ≡ unsigned_at (other order) 4 (turned_sequence order s) (4 * k)
    unfolding turned_sequence
    sequence_packet k h =
        sym (turned_read order 4 everywhere (λ k. 4 * k) s (2 + packets_in s) k (omega arith) refl h (unsigned_below order 4 s (4 * k) bytes)
        (λ x y z q. ⊎_elim (λ u. inl (omega arith)) (λ u. inr (omega arith)) (apart x k q)))

  -- ---- the metadata

  module _ (i m : List ℕ) (bytes : all_below 256 m ≡ true) where
    pub metadata_length_lem : length m ≡ length (turned_metadata order i m)
    unfolding turned_metadata
    metadata_length_lem =
        sym (length_turned order 4 (has_taxonomy order i) (taxonomy_place order i) _ (count_of order i) ∙ length_turned order 4 everywhere (λ k. 4 * k) m 2)

    pub metadata_start_lem : (k : ℕ) → k < 2 → 8 ≤ length m → unsigned_at order 4 m (4 * k) ≡ unsigned_at (other order) 4 (turned_metadata order i m) (4 * k)
    unfolding turned_metadata
    metadata_start_lem k h l =
        sym (unsigned_same (other order) 4 _ _ (4 * k) (4 * k)
        (λ j c. turned_beside order 4 (has_taxonomy order i) (taxonomy_place order i) _ (count_of order i) (4 * k + j)
        (λ x y z. inl (omega (arith, leb-true (metadata_start order i x + 4) (metadata_start order i (suc x)) z))))
        ∙ turned_read order 4 everywhere (λ k. 4 * k) m 2 k h refl (omega arith) (unsigned_below order 4 m (4 * k) bytes)
        (λ x y z q. ⊎_elim (λ u. inl (omega arith)) (λ u. inr (omega arith)) (apart x k q)))

    module _ (l : 8 ≤ length m) (r : EndsRule order i metadata_table (count_of order i) (bytes_after_header m)) where
      abbrev start : ℕ → ℕ
      start k = metadata_start order i k

      start-rises : (j k : ℕ) → j ≤ k → k ≤ count_of order i → start j ≤ start k
      start-rises j k g h = let x = after-most order i metadata_table k (λ y c. r.rises y (omega arith)) j g in omega arith

      start-within : (k : ℕ) → k ≤ count_of order i → start k ≤ length m
      start-within k h = let x = ends-within order i metadata_table (count_of order i) (bytes_after_header m) r k h in omega arith

      -- where the taxonomy id of another number stands
      id_beside : (j k : ℕ) → j < count_of order i → k < count_of order i → has_taxonomy order i j ≡ true → (j ≡ k → ⊥)
          → (start (suc k) ≤ taxonomy_place order i j) ⊎ (taxonomy_place order i j + 4 ≤ start k)
      id_beside j k g h t n =
          let e = leb-true (start j + 4) (start (suc j)) t in
          ⊎_elim (λ u. let x = start-rises (suc k) j u (omega arith) in inl (omega arith))
          (λ u. let x = start-rises (suc j) k u (omega arith) in inr (omega arith)) (apart j k n)

      text_same : (k : ℕ) → k < count_of order i → (x : ℕ) → start k ≤ x → x + 4 < start (suc k) → get_or m x 0 ≡ get_or (turned_metadata order i m) x 0
      unfolding turned_metadata
      text_same k h x a b =
          sym (turned_beside order 4 (has_taxonomy order i) (taxonomy_place order i) _ (count_of order i) x
          (λ j g t. bool_cases (eqb j k) (λ e. inl (rw (eqb-true j k e) (omega arith)))
          (λ e. ⊎_elim (λ u. inl (omega arith)) (λ u. inr (omega arith)) (id_beside j k g h t (eqb-false j k e))))
          ∙ turned_beside order 4 everywhere (λ k. 4 * k) m 2 x (λ j g t. inr (omega arith)))

      id_same : (k : ℕ) → k < count_of order i → start k + 4 ≤ start (suc k)
          → unsigned_at order 4 m (start (suc k) - 4) ≡ unsigned_at (other order) 4 (turned_metadata order i m) (start (suc k) - 4)
      unfolding turned_metadata
      id_same k h t =
          let file : List ℕ = turned_to order 4 everywhere (λ k. 4 * k) 2 m in
          let w = start-within (suc k) h in
          let e : unsigned_at order 4 file (start (suc k) - 4) ≡ unsigned_at order 4 m (start (suc k) - 4) = unsigned_same order 4 file m (start (suc k) - 4)
          (start (suc k) - 4) (λ j c. turned_beside order 4 everywhere (λ k. 4 * k) m 2 (start (suc k) - 4 + j) (λ x y z. inr (omega arith))) in
          sym (turned_read order 4 (has_taxonomy order i) (taxonomy_place order i) file (count_of order i) k h (le-leb _ _ t)
          (omega (arith, length_turned order 4 everywhere (λ k. 4 * k) m 2)) (rw e (unsigned_below order 4 m (start (suc k) - 4) bytes))
          (λ x y z q. ⊎_elim (λ u. inl (omega arith)) (λ u. inr (omega arith)) (id_beside x k y h z q))
          ∙ e)

      pub metadata_texts : (k : ℕ) → k < count_of order i
          → texts_in order m (start k) (start (suc k)) ≡ texts_in (other order) (turned_metadata order i m) (start k) (start (suc k))
      metadata_texts k h =
          texts_moved order (other order) m (turned_metadata order i m) (start k) (start (suc k)) (text_same k h)
          (λ t. signed_same order (other order) 4 m (turned_metadata order i m) (start (suc k) - 4) (id_same k h t))

-- ---- the set

apart_orders : (order : Order) → order ≡ other order → ⊥
apart_orders Big e = let z : ◌≡◌ {A = ℕ} 0 1 = cc in omega arith
apart_orders Little e = let z : ◌≡◌ {A = ℕ} 0 1 = cc in omega arith

one_of_orders : (order p : Order) → (p ≡ order) ⊎ (p ≡ other order)
one_of_orders Big Big = inl refl
one_of_orders Big Little = inr refl
one_of_orders Little Big = inr refl
one_of_orders Little Little = inl refl

module _ (i m s : List ℕ) (bi : all_below 256 i ≡ true) (bm : all_below 256 m ≡ true) (bs : all_below 256 s ≡ true) where
  abbrev o : Order
  o = set_order i

  abbrev i' : List ℕ
  i' = turned_index o i

  abbrev m' : List ℕ
  m' = turned_metadata o i m

  abbrev s' : List ℕ
  s' = turned_sequence o s

  read_alike : ReadAlike o (other o) i m s i' m' s'
  read_alike = record {
    index_length = index_length_lem o i bi;
    metadata_length = metadata_length_lem o i m bm;
    sequence_length = sequence_length_lem o s bs;
    four = index_four o i bi;
    eight = index_eight o i bi;
    start = metadata_start_lem o i m bm;
    packet = sequence_packet o s bs;
    texts = λ l r k h. metadata_texts o i m bm l r k h;
  }

  -- an index that begins with the magic shows the other order when it is turned
  shows_other : 52 ≤ length i → magic_of o i ≡ set_magic → set_order i' ≡ other o
  shows_other l e = order_shown (other o) i' (sym (index_four o i bi 0 (omega arith) l) ∙ e)

  -- and one that begins with another magic does so turned
  other_magic : 52 ≤ length i → (magic_of o i ≡ set_magic → ⊥) → magic_of (set_order i') i' ≡ set_magic → ⊥
  other_magic l n e =
      ⊎_elim
      (λ p. apart_orders o (order_shown (other o) i (magic_back o i bi l ∙ (rw p at e))))
      (λ p. n (index_four o i bi 0 (omega arith) l ∙ (rw p at e)))
      (one_of_orders o (set_order i'))

  magic_same : 52 ≤ length i → eqb (magic_of o i) set_magic ≡ eqb (magic_of (set_order i') i') set_magic
  magic_same l =
      bool_cases (eqb (magic_of o i) set_magic)
      (λ t.
      let e = eqb-true (magic_of o i) set_magic t in
      let g : magic_of (set_order i') i' ≡ set_magic = rw (shows_other l e) (sym (index_four o i bi 0 (omega arith) l) ∙ e) in
      t ∙ sym (eq-eqb (magic_of (set_order i') i') set_magic g))
      (λ t. t ∙ sym (ne_eqb (magic_of (set_order i') i') set_magic (other_magic l (eqb-false (magic_of o i) set_magic t))))

  -- The check of the turned set gives the same number ..
  pub turned_number : set_number (set_check i' m' s') ≡ set_number (set_check i m s)
  unfolding set_check
  turned_number =
      told_by set_number Err (Ok (record_of (set_order i') i')) (set_rules (set_order i') i' m' s')
      ∙ (sym (numbers_alike o (set_order i') i m s i' m' s' (index_length_lem o i bi) (metadata_length_lem o i m bm) (sequence_length_lem o s bs) magic_same
      (λ h. let t = start_tests o 52 i h in rw (shows_other (leb-true _ _ t.long) (eqb-true _ _ t.magic)) read_alike))
      ∙ sym (told_by set_number Err (Ok (record_of o i)) (set_rules o i m s)))

  -- .. and where it passes, the same ten fields and the other order.
  pub turned_passes : (set : SetRecord) → set_check i m s ≡ Ok set → set_check i' m' s' ≡ Ok (turned_record set)
  turned_passes set h =
      let r = (passed_rules i m s set h).0.others in
      let e = shows_other r.index_starts (rw (order_shown set.order i r.index_magic) r.index_magic) in
      let z : set_number (set_check i' m' s') ≡ 0 = turned_number ∙ ap set_number h in
      let f : record_of (set_order i') i' ≡ turned_record (record_of o i) = rw e (record_same read_alike r.index_starts) in
      all_passed i' m' s' (set_order i') (zero-all i' m' s' z) ∙ ap Ok (f ∙ ap turned_record (passed_all i m s set h).1)
