-- The ends of a table, end by end. Assumes nothing.
use mathlib.Core.Path.{◌≡◌, refl, sym, ap, ◌∙◌}
use mathlib.Core.Bool.{Bool, not}
use mathlib.Core.Logic.{⊎_elim}
use mathlib.Core.List.{List}
use Prim.Native.Nat.{ℕ, zero, suc, ◌+◌, ◌*◌, ◌-◌, ◌^◌, ◌≤◌, ◌<◌}
use native.Mathlib.Omega.{arith}
use native.Mathlib.Numerals.{add-one}
use native.Mathlib.Nat.{eq-or-lt_of_le, le_of_suc-le-suc, le_trans, le_of_eq}
use lib.ListN.{take, length-take, length-drop}
use lib.Seq.{slice}
use lib.IntN.{ℤ, negsuc}
use lib.Signed.{◌<ℤ◌, mag, le_z, lt_z_yes, le_z_yes}
use borrow.Author.Tests.{eqb-true, eq-eqb}
use mir.Syntax.{w64}
use mir.Val.{to_z, of_z}
use Rattle.laws.specs.Rules.{AllHold}
use Rattle.laws.proofs.Signed.{again}
use Rattle.laws.proofs.Places.{every_at, every-all}
use Rattle.laws.proofs.Tests.{true_T, T_true}
use Rattle.fields.specs.declared.Order.{Order}
use Rattle.fields.specs.Number.{signed_at}
use Rattle.packets.specs.Ends.{after, last_place}
use Rattle.packets.specs.Reading.{run_length}
use Rattle.std.specs.Prelude.{Option}
use Rattle.packets.proofs.Ends.{Low, above, low-next, same_end, after_last, last-low}
use Rattle.packets.proofs.Lengths.{unpacked-most}
use Rattle.dsqdata.specs.Header.{packets_in, body_of}
use Rattle.dsqdata.specs.Ends.{packet_table, end_before, rises_at, run_at, residues_at}
use Rattle.dsqdata.specs.Check.{ends_rules}
use Rattle.dsqdata.specs.Rules.{EndsRule}
use Rattle.dsqdata.proofs.Bodies.{body-length}
use Rattle.dsqdata.proofs.Named.{ends_tests, ends_tests_back}
use Rattle.dsqdata.proofs.Signs.{lt_not}

module _ (order : Order) (index : List ℕ) (table : ℕ) where
  pub end_zero : (k : ℕ) → k ≡ 0 → end_before order index table k ≡ negsuc 0
  unfolding end_before
  end_zero k h = rw h

  pub end_suc : (k : ℕ) → end_before order index table (suc k) ≡ signed_at order 8 index (table + 16 * k)
  unfolding end_before
  end_suc k = refl

  pub end_next : (k : ℕ) → end_before order index table (k + 1) ≡ signed_at order 8 index (table + 16 * k)
  end_next k = rw add-one (end_suc k)

  pub end_not_first : (k : ℕ) → (k ≡ 0 → ⊥) → end_before order index table (suc (k - 1)) ≡ end_before order index table k
  end_not_first zero h = absurd (h refl)
  end_not_first (suc k) h = let e : suc k - 1 ≡ k = omega arith in rw e

  -- the test of a loop that keeps the end before
  pub rises-is : (k : ℕ) {b z : ℤ} (v : Bool) → b ≡ end_before order index table k → mag z < 2 ^ 63 → z ≡ signed_at order 8 index (table + 16 * k)
      → le_z (to_z w64 (of_z w64 z)) b ≡ v → rises_at order index table k ≡ not v
  rises-is k {b = b} {z = z} v p f q h = rw (end_suc k, ← p, ← again w64 _ (signed_at order 8 index (table + 16 * k)) f q) (lt_not b (to_z w64 (of_z w64 z)) v h)

-- what never falls from one place to the next never falls
mono : (g : ℕ → ℕ) (n : ℕ) → ((k : ℕ) → k < n → g k ≤ g (suc k)) → (k : ℕ) → k ≤ n → g k ≤ g n
mono g zero h k l = let e : k ≡ 0 = omega arith in le_of_eq (ap g e)
mono g (suc n) h k l =
    ⊎_elim (λ e. le_of_eq (ap g e)) (λ m. le_trans (mono g n (λ j a. h j (omega arith)) k (le_of_suc-le-suc m)) (h n (omega arith))) (eq-or-lt_of_le l)

module _ (order : Order) where
  module _ (index : List ℕ) (table n : ℕ) (r : (k : ℕ) → k < n → end_before order index table k <ℤ end_before order index table (suc k)) where
    -- ends that rise from -1 on are at least -1, and so are their places in order
    pub end_low : (k : ℕ) → k ≤ n → Low (end_before order index table k)
    end_low zero l = rw (end_zero order index table 0 refl) (le_z_yes tt)
    end_low (suc k) l = low-next (end_before order index table k) (end_before order index table (suc k)) (end_low k (omega arith)) (r k (omega arith))

    pub after-rises : (k : ℕ) → k < n → after (end_before order index table k) < after (end_before order index table (suc k))
    after-rises k l = above (end_before order index table k) (end_before order index table (suc k)) (end_low k (omega arith)) (r k l)

    pub after-most : (k : ℕ) → k ≤ n → after (end_before order index table k) ≤ after (end_before order index table n)
    after-most k l = mono (λ (j : ℕ). after (end_before order index table j)) n (λ j m. let x = after-rises j m in omega arith) k l

  module _ (index : List ℕ) (table n size : ℕ) where
    -- the rules of a table of ends, and what document 01 says of it
    pub ends_rule : AllHold (ends_rules order index table n size) → EndsRule order index table n size
    ends_rule h =
        let t = ends_tests order index table n size h in
        let r : (k : ℕ) → k < n → end_before order index table k <ℤ end_before order index table (suc k) =
        λ k l. lt_z_yes (true_T (rises_at order index table k) (every_at (rises_at order index table) n k l t.rises)) in
        let m : after (end_before order index table n) ≡ size = eqb-true _ _ t.meets in
        record {
          first = end_zero order index table 0 refl;
          rises = r;
          last = same_end (end_before order index table n) (last_place size) (end_low index table n r n (omega arith)) (last-low size) (m ∙ sym (after_last size));
          none = λ e. sym m ∙ ap after (end_zero order index table n e);
        }

    pub rule_ends : EndsRule order index table n size → AllHold (ends_rules order index table n size)
    rule_ends r =
        ends_tests_back order index table n size
        (record {
          rises = every-all (rises_at order index table) n (λ k l. T_true (rises_at order index table k) (r.rises k l).lt);
          meets = eq-eqb (after (end_before order index table n)) size (ap after r.last ∙ after_last size);
        })

    -- no end lies past the body
    pub ends-within : EndsRule order index table n size → (k : ℕ) → k ≤ n → after (end_before order index table k) ≤ size
    ends-within r k l =
        let m = after-most index table n r.rises k l in
        let e : after (end_before order index table n) ≡ size = ap after r.last ∙ after_last size in
        omega arith

  -- ---- runs

  module _ (index sequence : List ℕ) (k : ℕ) where
    -- the run of number k by its places
    pub run_is : (from to : ℕ) → from ≡ after (end_before order index packet_table k) → to ≡ after (end_before order index packet_table (suc k))
        → slice from to (body_of order sequence) ≡ run_at order index sequence k
    unfolding run_at
    run_is from to e f = rw (e, f)

    pub run-read : (a from to : ℕ) (r : Option ℕ) → from ≡ after (end_before order index packet_table k) → to ≡ after (end_before order index packet_table (suc k))
        → r ≡ run_length a (slice from to (body_of order sequence)) → r ≡ run_length a (run_at order index sequence k)
    run-read a from to r e f p = p ∙ ap (run_length a) (run_is from to e f)

    pub residues-most : residues_at order index sequence k ≤ 15 * packets_in sequence
    unfolding run_at
    residues-most =
        let f = after (end_before order index packet_table k) in
        let t = after (end_before order index packet_table (suc k)) in
        omega (
          arith,
          unpacked-most (slice f t (body_of order sequence)),
          length-drop f (take t (body_of order sequence)),
          length-take t
              (body_of order sequence),
          body-length order sequence,
        )
