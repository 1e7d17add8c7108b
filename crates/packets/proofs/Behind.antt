-- The codes of packets one behind another, and the residues of a well-formed run written packet by packet. Assumes nothing.
use mathlib.Core.Path.{◌≡◌, refl, sym, ap, ◌∙◌}
use mathlib.Core.Bool.{true, false}
use mathlib.Core.List.{List, ◌++◌, append_assoc, append-nil}
use Prim.Native.Nat.{ℕ, zero, suc, ◌+◌, ◌*◌, ◌/◌, ◌%◌, ◌^◌, ◌≤◌, ◌<◌}
use native.Mathlib.Nat.{add-zero, zero-add, add_assoc, mul-suc}
use native.Mathlib.Numerals.{add-one}
use native.Mathlib.Omega.{arith}
use borrow.Author.Tests.{eqb-true, eqb-false, ne_eqb}
use lib.Dec.{eqb}
use lib.ListN.{length, drop, get_or, length-append}
use lib.Seq.{take-length}
use Rattle.laws.specs.Writing.{written_at, Begun}
use Rattle.laws.proofs.Begun.{begun-none, begun_written, begun_join, begun-whole}
use Rattle.laws.proofs.Tests.{bool_cases}
use Rattle.packets.specs.Runs.{is_five_bit, codes_in, residues, well_formed, unpacked}
use Rattle.packets.specs.Decoded.{codes_from}
use Rattle.packets.specs.Reading.{five_bit_to}
use Rattle.packets.proofs.Codes.{codes-count}
use Rattle.packets.proofs.Shapes.{inner-codes, well_inner, unpacked-from, unpacked_end}

-- nothing is written yet
pub begun-start : (ps : List ℕ) (f place end : ℕ) (d : List ℕ) → Begun place (codes_from ps f 0) end d d
unfolding codes_from
begun-start ps f place end d = begun-none place end d

pub none_yet : (ps : List ℕ) (f : ℕ) → length (codes_from ps f 0) ≡ 0
unfolding codes_from
none_yet ps f = refl

-- one packet more
pub codes-next : (ps : List ℕ) (f n : ℕ) → codes_from ps f (n + 1) ≡ codes_from ps f n ++ codes_in (get_or ps (f + n) 0)
unfolding codes_from
codes-next ps f n = rw (add-one n)

pub codes-append : (ps : List ℕ) (f i m : ℕ) → codes_from ps f (i + m) ≡ codes_from ps f i ++ codes_from ps (f + i) m
unfolding codes_from
codes-append ps f i zero = rw (add-zero i) (sym (append-nil (codes_from ps f i)))
codes-append ps f i (suc m) =
    let s : i + suc m ≡ suc (i + m) = omega arith in
    let p = codes_in (get_or ps (f + (i + m)) 0) in
    ap (codes_from ps f) s
    ∙ ap (λ (l : List ℕ). l ++ p) (codes-append ps f i m)
    ∙ append_assoc (codes_from ps f i) (codes_from ps (f + i) m) p
    ∙ ap (λ (k : ℕ). codes_from ps f i ++ (codes_from ps (f + i) m ++ codes_in (get_or ps k 0))) (sym (add_assoc f i m))

-- the same packets have the same codes
pub codes_same : (ps qs : List ℕ) (f g n : ℕ) → ((k : ℕ) → k < n → get_or ps (f + k) 0 ≡ get_or qs (g + k) 0) → codes_from ps f n ≡ codes_from qs g n
unfolding codes_from
codes_same ps qs f g zero h = refl
codes_same ps qs f g (suc n) h = rw (codes_same ps qs f g n (λ k l. h k (omega arith)), h n (omega arith))

-- ---- how many codes

-- as many to each packet
pub codes-each : (ps : List ℕ) (w f n : ℕ) → ((k : ℕ) → k < n → length (codes_in (get_or ps (f + k) 0)) ≡ w) → length (codes_from ps f n) ≡ w * n
unfolding codes_from
codes-each ps w f zero h = omega arith
codes-each ps w f (suc n) h =
    length-append (codes_from ps f n) (codes_in (get_or ps (f + n) 0))
    ∙ omega (arith, codes-each ps w f n (λ k l. h k (omega arith)), h n (omega arith), mul-suc w n)

pub codes-least : (ps : List ℕ) (f n : ℕ) → 6 * n ≤ length (codes_from ps f n)
unfolding codes_from
codes-least ps f zero = omega arith
codes-least ps f (suc n) =
    omega (arith, length-append (codes_from ps f n) (codes_in (get_or ps (f + n) 0)), codes-least ps f n, codes-count (get_or ps (f + n) 0))

-- none of the first packets holds 5-bit codes
pub no_fives : (ps : List ℕ) (n : ℕ) → five_bit_to ps n ≡ 0 → (k : ℕ) → k < n → is_five_bit (get_or ps k 0) ≡ false
no_fives ps zero e k h = absurd (let z : ⊥ = omega arith in z)
no_fives ps (suc n) e k h =
    bool_cases (eqb k n)
    (λ t. let q : k ≡ n = eqb-true k n t in rw q (ne_eqb (get_or ps n 0 / 2 ^ 30 % 2) 1 (omega arith)))
    (λ t. let q = eqb-false k n t in no_fives ps n (omega arith) k (omega arith))

-- ---- a well-formed run

module _ (a : ℕ) (ps : List ℕ) (e : well_formed a ps ≡ true) where
  pub inner-from : (i : ℕ) → i + 1 < length ps → unpacked (drop i ps) ≡ codes_in (get_or ps i 0) ++ unpacked (drop (i + 1) ps)
  inner-from i h =
      unpacked-from ps i (omega arith)
      ∙ ap (λ (l : List ℕ). l ++ unpacked (drop (i + 1) ps)) (inner-codes a (get_or ps i 0) (well_inner a ps e i h))

  -- the codes of the packets before one, and the residues from there on
  pub codes_split : (f n : ℕ) → f + n < length ps → unpacked (drop f ps) ≡ codes_from ps f n ++ unpacked (drop (f + n) ps)
  unfolding codes_from
  codes_split f zero h = rw (add-zero f)
  codes_split f (suc n) h =
      let s : f + suc n ≡ f + n + 1 = omega arith in
      codes_split f n (omega arith)
      ∙ ap (λ (l : List ℕ). codes_from ps f n ++ l) (inner-from (f + n) (omega arith))
      ∙ sym (append_assoc (codes_from ps f n) (codes_in (get_or ps (f + n) 0)) (unpacked (drop (f + n + 1) ps)))
      ∙ ap (λ (k : ℕ). (codes_from ps f n ++ codes_in (get_or ps (f + n) 0)) ++ unpacked (drop k ps)) (sym s)

  pub count_split : (f n : ℕ) → f + n < length ps → length (unpacked (drop f ps)) ≡ length (codes_from ps f n) + length (unpacked (drop (f + n) ps))
  count_split f n h = ap length (codes_split f n h) ∙ length-append (codes_from ps f n) (unpacked (drop (f + n) ps))

  -- n packets from `from` on are written from `place` on; d is the output at first, and p the next packet
  module _ (from place : ℕ) (d : List ℕ) (room : place + length (unpacked (drop from ps)) ≤ length d) (n p at : ℕ) (l : p ≡ get_or ps (from + n) 0)
      (here : at ≡ place + length (codes_from ps from n)) (out : List ℕ)
      (so_far : Begun place (codes_from ps from n) (place + length (unpacked (drop from ps))) d out) where
    pub behind-room : from + n + 1 < length ps → at + length (codes_in p) ≤ place + length (unpacked (drop from ps))
    behind-room h =
        omega (
          arith,
          count_split from n (omega arith),
          ap length (inner-from (from + n) h),
          length-append (codes_in p) (unpacked (drop (from + n + 1) ps)),
          ap (λ (x : ℕ). length (codes_in x ++ unpacked (drop (from + n + 1) ps))) l,
        )

    pub behind_more : from + n + 1 < length ps
        → Begun place (codes_from ps from (n + 1)) (place + length (unpacked (drop from ps))) d (written_at at (codes_in p) out)
    behind_more h =
        let E = place + length (unpacked (drop from ps)) in
        let b : Begun at (codes_in p) E out (written_at at (codes_in p) out) =
        begun_written at E (codes_in p) (codes_in p) out (take-length (codes_in p)) (behind-room h) (omega (arith, behind-room h, so_far.size)) in
        rw (codes-next ps from n, ← l)
        (begun_join place E (codes_from ps from n) (codes_in p) d out _ so_far (rw (← here) b))

    pub behind-count : length (codes_from ps from (n + 1)) ≡ length (codes_from ps from n) + length (codes_in p)
    behind-count = ap length (codes-next ps from n) ∙ rw (← l) (length-append (codes_from ps from n) (codes_in p))

    last-is : from + n + 1 ≡ length ps → unpacked (drop from ps) ≡ codes_from ps from n ++ residues p
    last-is h =
        codes_split from n (omega arith)
        ∙ ap (λ (r : List ℕ). codes_from ps from n ++ r)
        (unpacked-from ps (from + n) (omega arith)
        ∙ ap (λ (r : List ℕ). residues (get_or ps (from + n) 0) ++ r) (unpacked_end ps (from + n + 1) (omega arith))
        ∙ append-nil (residues (get_or ps (from + n) 0))
        ∙ ap residues (sym l))

    pub last-room : from + n + 1 ≡ length ps → at + length (residues p) ≡ place + length (unpacked (drop from ps))
    last-room h = omega (arith, ap length (last-is h), length-append (codes_from ps from n) (residues p))

    -- the last packet
    pub behind-last : from + n + 1 ≡ length ps → written_at at (residues p) out ≡ written_at place (unpacked (drop from ps)) d
    behind-last h =
        let E = place + length (unpacked (drop from ps)) in
        let b : Begun at (residues p) E out (written_at at (residues p) out) =
        begun_written at E (residues p) (residues p) out (take-length (residues p)) (omega (arith, last-room h)) (omega (arith, last-room h, so_far.size)) in
        let xs = codes_from ps from n ++ residues p in
        begun-whole place E xs d (written_at at (residues p) out) (ap (λ (z : List ℕ). place + length z) (sym (last-is h)))
        (begun_join place E (codes_from ps from n) (residues p) d out _ so_far (rw (← here) b))
        ∙ ap (λ (z : List ℕ). written_at place z d) (sym (last-is h))

  pub first_split : (n : ℕ) → n < length ps → unpacked ps ≡ codes_from ps 0 n ++ unpacked (drop n ps)
  first_split n h = codes_split 0 n (rw (zero-add n) h) ∙ rw (zero-add n)

  pub first_count : (n : ℕ) → n < length ps → length (unpacked ps) ≡ length (codes_from ps 0 n) + length (unpacked (drop n ps))
  first_count n h = ap length (first_split n h) ∙ length-append (codes_from ps 0 n) (unpacked (drop n ps))

  -- the first n packets are written, and the residues from there on behind them
  pub written_split : (n : ℕ) → n < length ps → (d out : List ℕ) (at : ℕ) → length (unpacked ps) ≤ length d → at ≡ length (codes_from ps 0 n)
      → Begun 0 (codes_from ps 0 n) (length (unpacked ps)) d out → written_at at (unpacked (drop n ps)) out ≡ written_at 0 (unpacked ps) d
  written_split n h d out at room here so_far =
      let E = length (unpacked ps) in
      let ys = unpacked (drop n ps) in
      let s = first_split n h in
      let c : at + length ys ≡ E = omega (arith, first_count n h) in
      let b : Begun at ys E out (written_at at ys out) = begun_written at E ys ys out (take-length ys) (omega arith) (omega (arith, so_far.size)) in
      begun-whole 0 E (codes_from ps 0 n ++ ys) d (written_at at ys out) (zero-add _ ∙ ap length (sym s))
      (begun_join 0 E (codes_from ps 0 n) ys d out (written_at at ys out) so_far (rw (zero-add (length (codes_from ps 0 n)), ← here) b))
      ∙ ap (λ (z : List ℕ). written_at 0 z d) (sym s)
