-- A run read with no test between packets: all that stand before the last at once, and then the last one decides. Assumes nothing.
use mathlib.Core.Path.{◌≡◌, sym, ap, ◌∙◌}
use mathlib.Core.Bool.{Bool, true, false, cond}
use mathlib.Core.List.{List, [], ◌∷◌, ◌++◌}
use Prim.Native.Nat.{ℕ, zero, suc, ◌+◌, ◌*◌, ◌/◌, ◌%◌, ◌^◌, ◌≤◌, ◌<◌}
use native.Mathlib.Numerals.{add-one}
use native.Mathlib.Omega.{arith}
use borrow.Author.Tests.{ne_eqb}
use lib.Bits.{bit_or}
use lib.Dec.{eqb}
use lib.ListN.{length, drop, get_or, get_or-append, drop_of_length-le}
use lib.Seq.{get_or-append_seam}
use Rattle.laws.proofs.Digits.{length_digits}
use Rattle.laws.proofs.Places.{every-same, sum_same}
use Rattle.laws.proofs.Tests.{never, bool_cases, both_pass}
use Rattle.laws.proofs.Writing.{drop-step}
use Rattle.packets.specs.Runs.{codes_in, residues, inner, formed, well_formed, unpacked}
use Rattle.packets.specs.Reading.{inner_to, codes_to, five_bit_to, run_length}
use Rattle.std.specs.Prelude.{Option, Some, None}
use Rattle.packets.proofs.Codes.{codes-count, amino_codes}
use Rattle.packets.proofs.Faults.{or_none}
use Rattle.packets.proofs.Lengths.{unpacked-most}
use Rattle.packets.proofs.Round.{formed_well}
use Rattle.packets.proofs.Shapes.{none-not, inner-not, count-inner, count-last}

formed-more : (a : ℕ) (w : Bool) (p q : ℕ) (ps : List ℕ) → inner a p ≡ true → formed a w (p ∷ q ∷ ps) ≡ formed a false (q ∷ ps)
unfolding formed
formed-more a w p q ps e = rw e

-- ---- the first n packets

module _ (ps : List ℕ) where
  -- fifteen codes to each, less nine to one of 5-bit codes
  pub codes-fives : (n : ℕ) → codes_to ps n + 9 * five_bit_to ps n ≡ 15 * n
  codes-fives zero = omega arith
  codes-fives (suc n) = omega (arith, codes-fives n, codes-count (get_or ps n 0))

  -- a turn of a loop that reads packet i, p
  module _ (i p : ℕ) (l : p ≡ get_or ps i 0) where
    pub inner-more : (a faults fault : ℕ) → eqb faults 0 ≡ inner_to a ps i → eqb fault 0 ≡ inner a p → eqb (bit_or faults fault) 0 ≡ inner_to a ps (i + 1)
    inner-more a faults fault e f = or_none faults fault ∙ rw (add-one i, e, f, l)

    pub codes-more : (total n : ℕ) → total ≡ codes_to ps i → n ≡ length (codes_in p) → total + n ≡ codes_to ps (i + 1)
    codes-more total n e f = rw (add-one i, e, f, l)

    pub five_more : (total : ℕ) → total ≡ five_bit_to ps i → total + p / 2 ^ 30 % 2 ≡ five_bit_to ps (i + 1)
    five_more total e = rw (add-one i, e, l)

module _ (a : ℕ) (ps : List ℕ) where
  -- six to each, for amino
  pub codes_amino : (n : ℕ) → a ≡ 3 → inner_to a ps n ≡ true → codes_to ps n ≡ 6 * n
  codes_amino zero t e = omega arith
  codes_amino (suc n) t e =
      let p = both_pass (inner_to a ps n) (inner a (get_or ps n 0)) e in
      let f : inner 3 (get_or ps n 0) ≡ true = rw t at p.1 in
      omega (arith, codes_amino n t p.0, ap length (amino_codes (get_or ps n 0) f), length_digits 5 6 (get_or ps n 0))

  -- one may not stand there
  stands_not : (n : ℕ) → n < length ps → inner_to a ps n ≡ false → well_formed a ps ≡ false
  stands_not zero h e = never (sym e)
  stands_not (suc n) h e =
      bool_cases (inner_to a ps n)
      (λ t. let f : inner a (get_or ps n 0) ≡ false = rw t at e in inner-not a ps n (omega arith) f)
      (λ t. stands_not n (omega arith) t)

  -- each may: what is left decides, and has the other residues
  formed_turn : (w : Bool) (i : ℕ) → i + 1 < length ps → inner a (get_or ps i 0) ≡ true → formed a w (drop i ps) ≡ formed a false (drop (i + 1) ps)
  formed_turn w i h e =
      rw (drop-step ps i 0 (omega arith), drop-step ps (i + 1) 0 h) (formed-more a w (get_or ps i 0) (get_or ps (i + 1) 0) (drop (i + 1 + 1) ps) e)

  formed_rest : (n : ℕ) → n < length ps → inner_to a ps n ≡ true → formed a (eqb n 0) (drop n ps) ≡ well_formed a ps
  formed_rest zero h e = sym (formed_well a ps)
  formed_rest (suc n) h e =
      let p = both_pass (inner_to a ps n) (inner a (get_or ps n 0)) e in
      rw (ne_eqb (suc n) 0 (λ z. omega arith), ← add-one n) (sym (formed_turn (eqb n 0) n (omega arith) p.1) ∙ formed_rest n (omega arith) p.0)

  count_rest : (n : ℕ) → n < length ps → inner_to a ps n ≡ true → length (unpacked ps) ≡ codes_to ps n + length (unpacked (drop n ps))
  count_rest zero h e = omega arith
  count_rest (suc n) h e =
      let p = both_pass (inner_to a ps n) (inner a (get_or ps n 0)) e in
      let c = count-inner a ps n (omega arith) p.1 in
      let d = rw add-one at c in
      omega (arith, count_rest n (omega arith) p.0, d)

  -- ---- what reading finds

  pub found_none : length ps ≡ 0 → None ≡ run_length a ps
  unfolding run_length
  found_none h = rw (none-not a ps h)

  -- n packets stand before the last
  module _ (n : ℕ) (h : n + 1 ≡ length ps) where
    pub found_broken : inner_to a ps n ≡ false → None ≡ run_length a ps
    unfolding run_length
    found_broken e = rw (stands_not n (omega arith) e)

    -- the last, p, decides by the test b
    module _ (e : inner_to a ps n ≡ true) (p : ℕ) (l : p ≡ get_or ps n 0) (b : Bool) (t : b ≡ formed a (eqb n 0) (p ∷ [])) where
      left : drop n ps ≡ p ∷ []
      left = rw (drop-step ps n 0 (omega arith), drop_of_length-le ps {i = n + 1} (omega arith), l)

      decides : b ≡ well_formed a ps
      decides = t ∙ (ap (formed a (eqb n 0)) (sym left) ∙ formed_rest n (omega arith) e)

      pub found_open : b ≡ false → None ≡ run_length a ps
      unfolding run_length
      found_open f = rw (sym decides ∙ f)

      -- m codes before it, and its k residues
      module _ (m k : ℕ) (c : m ≡ codes_to ps n) (r : k ≡ length (residues p)) where
        total : m + k ≡ length (unpacked ps)
        total = omega (arith, count_rest n (omega arith) e, count-last ps n h, r ∙ ap (λ (x : ℕ). length (residues x)) l)

        pub found_most : m + k ≤ 15 * length ps
        found_most = omega (arith, total, unpacked-most ps)

        pub found_run : b ≡ true → Some (m + k) ≡ run_length a ps
        unfolding run_length
        found_run f = rw (sym decides ∙ f, total)

-- what `search` and `grind` are handed to take turns
pub ruleset turns = (inner-more, codes-more, codes-fives, codes-count)

-- the packets before the last, and the last
module _ (ps before : List ℕ) (last : ℕ) (w : ps ≡ before ++ (last ∷ [])) where
  before_at : (k : ℕ) → k < length before → get_or before k 0 ≡ get_or ps k 0
  before_at k h = rw w (sym (get_or-append before (last ∷ []) 0 k h))

  pub inner-before : (a : ℕ) → inner_to a before (length before) ≡ inner_to a ps (length before)
  inner-before a =
      every-same (λ k. inner a (get_or before k 0)) (λ k. inner a (get_or ps k 0)) (length before) (λ k h. ap (inner a) (before_at k h))

  pub codes-before : codes_to before (length before) ≡ codes_to ps (length before)
  codes-before =
      sum_same (λ k. length (codes_in (get_or before k 0))) (λ k. length (codes_in (get_or ps k 0))) (length before)
      (λ k h. ap (λ (p : ℕ). length (codes_in p)) (before_at k h))

  pub last_there : last ≡ get_or ps (length before) 0
  last_there = rw w (sym (get_or-append_seam before last [] 0))

-- what was found says of the packets
module _ (a : ℕ) (ps : List ℕ) (x : Option ℕ) (e : x ≡ run_length a ps) where
  found : (b : Bool) → well_formed a ps ≡ b → x ≡ cond b (Some (length (unpacked ps))) None
  unfolding run_length
  found b w = e ∙ rw w

  pub read-formed : (l : ℕ) → x ≡ Some l → (well_formed a ps ≡ true) × (l ≡ length (unpacked ps))
  read-formed l f =
      bool_cases (well_formed a ps)
      (λ w. let g = sym f ∙ found true w in (w, cc))
      (λ w. let g = sym f ∙ found false w in absurd (let z : ◌≡◌ {A = ℕ} 0 1 = cc in omega arith))

  pub read-not : x ≡ None → well_formed a ps ≡ false
  read-not f =
      bool_cases (well_formed a ps) (λ w. let g = sym f ∙ found true w in absurd (let z : ◌≡◌ {A = ℕ} 0 1 = cc in omega arith)) (λ w. w)

-- what `search` and `grind` are handed to use what was found
pub ruleset reads = (read-formed, read-not)
