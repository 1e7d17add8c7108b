-- Packing the residues of a packet and a rest gives that packet and the rest's packing, in any alphabet; so a well-formed
-- amino run packs back to itself. Assumes nothing.
use mathlib.Core.Path.{◌≡◌, refl, sym, ap, ap₂, ◌∙◌}
use mathlib.Core.Bool.{Bool, true, false, ◌&&◌}
use mathlib.Core.List.{List, [], ◌∷◌, ◌++◌, append-nil}
use Prim.Native.Nat.{ℕ, zero, suc, ◌+◌, ◌/◌, ◌%◌, ◌^◌, ◌-◌, ◌≤◌, ◌<◌}
use native.Mathlib.Nat.{mod-eq_of_lt}
use native.Mathlib.Omega.{arith}
use lib.Dec.{leb, ltb, eqb}
use lib.ListN.{length, length-append}
use lib.Seq.{take_at, drop_at, take_all}
use borrow.Author.Tests.{eqb-true, eqb-false, le-leb, lt-leb}
use Rattle.laws.specs.Digits.{digits, all_below}
use Rattle.laws.proofs.Tests.{never, bool_cases, both_pass}
use Rattle.laws.proofs.Digits.{length_digits, below_parts, value-digits}
use Rattle.residues.specs.Alphabets.{is_amino, code_limit}
use Rattle.packets.specs.Packing.{plain, is_two_bit, filled, size, run}
use Rattle.packets.specs.Runs.{ends_run, is_five_bit, before_fill, residues, only_fill, valid_tailed, inner, final, formed, well_formed, unpacked}
use Rattle.packets.proofs.Packing.{plain_two, amino_five, short_five, filled-whole, size_two}
use Rattle.packets.proofs.Packing.{size_five, packet_two, packet_five, run-last, run_more}
use Rattle.packets.proofs.Round.{formed_well, unpacked-cons, unpacked-nil}
use Rattle.packets.proofs.Codes.{residues_five, residues_two}
use Rattle.packets.proofs.Shapes.{inner_bit, final_bit, inner_six, final_tailed, five_most, two_plain_codes, inner_nucleic, final_nucleic, rest_some}

-- ---- the codes of a last packet, filled up again

only_is : (ds : List ℕ) → only_fill ds ≡ true → filled (length ds) [] ≡ ds
unfolding only_fill filled
only_is [] e = refl
only_is (d ∷ ds) e =
    let q = both_pass (eqb d 31) (only_fill ds) e in
    ap₂ (λ (x : ℕ) (l : List ℕ). x ∷ l) (sym (eqb-true d 31 q.0)) (only_is ds q.1)

filled-before : (m : ℕ) (ds : List ℕ) → valid_tailed m ds ≡ true → filled (length ds) (before_fill ds) ≡ ds
unfolding valid_tailed before_fill filled
filled-before m [] e = refl
filled-before m (d ∷ ds) e =
    bool_cases (eqb d 31)
    (λ t.
    let f : only_fill ds ≡ true = rw t at e in
    rw t (ap₂ (λ (x : ℕ) (l : List ℕ). x ∷ l) (sym (eqb-true d 31 t)) (only_is ds f)))
    (λ t.
    let f : (ltb d m && valid_tailed m ds) ≡ true = rw t at e in
    rw t (ap (λ (l : List ℕ). d ∷ l) (filled-before m ds (both_pass (ltb d m) (valid_tailed m ds) f).1)))

plain-append : (n : ℕ) (xs ys : List ℕ) → plain n xs ≡ true → plain n (xs ++ ys) ≡ true
unfolding plain
plain-append zero xs ys e = refl
plain-append (suc n) [] ys e = never e
plain-append (suc n) (x ∷ xs) ys e =
    let q = both_pass (ltb x 4) (plain n xs) e in
    rw q.0 (plain-append n xs ys q.1)

-- where a 2-bit packet of a nucleic run stands, the rule too has a 2-bit packet
pub two_again : (a p : ℕ) (rest : List ℕ) → is_five_bit p ≡ false → is_amino a ≡ false → is_two_bit a (residues p ++ rest) ≡ true
two_again a p rest two nucleic =
    plain_two a (residues p ++ rest) nucleic ∙ rw (residues_two p two) (plain-append 15 (digits 2 15 p) rest (two_plain_codes p two))

-- ---- a number from its two highest bits and the rest

module _ (p : ℕ) (h : p < 2 ^ 32) where
  bit : (k : ℕ) → p / 2 ^ k < 2 → (p / 2 ^ k % 2 ≡ 1 → ⊥) → p / 2 ^ k ≡ 0
  bit k l n = let e = mod-eq_of_lt l in go (p / 2 ^ k) l (λ q. n (e ∙ q))
    where
      go : (x : ℕ) → x < 2 → (x ≡ 1 → ⊥) → x ≡ 0
      go zero l n = refl
      go (suc zero) l n = absurd (n refl)
      go (suc (suc x)) l n = let z : ⊥ = omega arith in absurd z

  not_31 : ends_run p ≡ false → p < 2 ^ 31
  not_31 e = let q = bit 31 (omega arith) (eqb-false (p / 2 ^ 31 % 2) 1 e) in omega arith

  five_last : ends_run p ≡ true → is_five_bit p ≡ true → 2 ^ 31 + (2 ^ 30 + p % 2 ^ 30) ≡ p
  five_last e f = omega (arith, eqb-true (p / 2 ^ 31 % 2) 1 e, eqb-true (p / 2 ^ 30 % 2) 1 f)

  five_inner : ends_run p ≡ false → is_five_bit p ≡ true → 0 + (2 ^ 30 + p % 2 ^ 30) ≡ p
  five_inner e f = omega (arith, not_31 e, eqb-true (p / 2 ^ 30 % 2) 1 f)

  two_inner : ends_run p ≡ false → is_five_bit p ≡ false → 0 + p % 2 ^ 30 ≡ p
  two_inner e f =
      let s = not_31 e in
      let q = bit 30 (omega arith) (eqb-false (p / 2 ^ 30 % 2) 1 f) in
      omega arith

two_last : (p : ℕ) → p < 2 ^ 32 → ends_run p ≡ true → is_five_bit p ≡ false → 2 ^ 31 + p % 2 ^ 30 ≡ p
two_last p h e f =
    let one = eqb-true (p / 2 ^ 31 % 2) 1 e in
    let low : p - 2 ^ 31 < 2 ^ 31 = omega arith in
    let same : (p - 2 ^ 31) / 2 ^ 30 % 2 ≡ 1 → ⊥ = λ q. eqb-false (p / 2 ^ 30 % 2) 1 f (omega (arith, one)) in
    let q : (p - 2 ^ 31) / 2 ^ 30 ≡ 0 = bit (p - 2 ^ 31) (omega arith) 30 (omega arith) same in
    omega (arith, one)

-- ---- one packet

pub last_back : (a p : ℕ) → p < 2 ^ 32 → final a p ≡ true → run a (residues p) ≡ p ∷ []
last_back a p h e = bool_cases (is_five_bit p) five two
  where
    five : is_five_bit p ≡ true → run a (residues p) ≡ p ∷ []
    five f =
        let ds = digits 5 6 p in
        let cs = before_fill ds in
        let l : length ds ≡ 6 = length_digits 5 6 p in
        let r : residues p ≡ cs = residues_five p f in
        let six : length cs ≤ 6 = rw r at (five_most p f) in
        let k = short_five a cs (omega arith) in
        let z : length cs ≤ size a cs = omega (arith, size_five a cs (length cs) k) in
        let g : filled 6 cs ≡ ds = rw l at (filled-before (code_limit a) ds (final_tailed a p f e)) in
        rw (r, run-last a cs z, packet_five a cs (length cs) k, le-leb (length cs) 6 six, g, value-digits 5 6 p)
        (ap (λ (x : ℕ). x ∷ []) (five_last p h (final_bit a p e) f))

    two : is_five_bit p ≡ false → run a (residues p) ≡ p ∷ []
    two t =
        let ds = digits 2 15 p in
        let l : length ds ≡ 15 = length_digits 2 15 p in
        let k : is_two_bit a ds ≡ true = plain_two a ds (final_nucleic p t a e) ∙ two_plain_codes p t in
        let z : length ds ≤ size a ds = omega (arith, size_two a ds (length ds) k) in
        rw (
          residues_two p t,
          run-last a ds z,
          packet_two a ds (length ds) k,
          le-leb (length ds) 15 (omega arith),
          take_all 15 ds
              (omega arith),
          value-digits 2 15 p,
        )
        (ap (λ (x : ℕ). x ∷ []) (two_last p h (final_bit a p e) t))

-- a packet of 5-bit codes comes back only where the rule does not want fifteen plain codes together
pub inner_back : (a p : ℕ) (rest : List ℕ) → p < 2 ^ 32 → inner a p ≡ true → 0 < length rest
    → (is_five_bit p ≡ true → is_two_bit a (residues p ++ rest) ≡ false) → run a (residues p ++ rest) ≡ p ∷ run a rest
inner_back a p rest h e more apart = bool_cases (is_five_bit p) five two
  where
    five : is_five_bit p ≡ true → run a (residues p ++ rest) ≡ p ∷ run a rest
    five f =
        let ds = digits 5 6 p in
        let l : length ds ≡ 6 = length_digits 5 6 p in
        let r : residues p ≡ ds = inner_six a p f e in
        let len : length (ds ++ rest) ≡ 6 + length rest = length-append ds rest ∙ ap (λ (n : ℕ). n + length rest) l in
        let k : is_two_bit a (ds ++ rest) ≡ false = rw r at (apart f) in
        let z : size a (ds ++ rest) ≡ 6 = omega (arith, size_five a (ds ++ rest) (length (ds ++ rest)) k) in
        let m : size a (ds ++ rest) < length (ds ++ rest) = omega arith in
        let g : filled 6 (ds ++ rest) ≡ ds = filled-whole 6 (ds ++ rest) (omega arith) ∙ take_at ds rest 6 l in
        let long : leb (length (ds ++ rest)) 6 ≡ false = lt-leb (length (ds ++ rest)) 6 (omega arith) in
        rw (r, run_more a (ds ++ rest) m, z, drop_at ds rest 6 l, packet_five a (ds ++ rest) (length (ds ++ rest)) k, long, g, value-digits 5 6 p)
        (ap (λ (x : ℕ). x ∷ run a rest) (five_inner p h (inner_bit a p e) f))

    two : is_five_bit p ≡ false → run a (residues p ++ rest) ≡ p ∷ run a rest
    two t =
        let ds = digits 2 15 p in
        let l : length ds ≡ 15 = length_digits 2 15 p in
        let r : residues p ≡ ds = residues_two p t in
        let len : length (ds ++ rest) ≡ 15 + length rest = length-append ds rest ∙ ap (λ (n : ℕ). n + length rest) l in
        let k : is_two_bit a (ds ++ rest) ≡ true = rw r at (two_again a p rest t (inner_nucleic p t a e)) in
        let z : size a (ds ++ rest) ≡ 15 = size_two a (ds ++ rest) (length (ds ++ rest)) k in
        let m : size a (ds ++ rest) < length (ds ++ rest) = omega arith in
        let long : leb (length (ds ++ rest)) 15 ≡ false = lt-leb (length (ds ++ rest)) 15 (omega arith) in
        rw (
          r,
          run_more a (ds ++ rest) m,
          z,
          drop_at ds rest 15 l,
          packet_two a (ds ++ rest)
              (length (ds ++ rest)) k,
          long,
          take_at ds rest 15 l,
          value-digits 2 15 p,
        )
        (ap (λ (x : ℕ). x ∷ run a rest) (two_inner p h (inner_bit a p e) t))

-- ---- amino runs

packs_back : (a : ℕ) (w : Bool) (ps : List ℕ) → is_amino a ≡ true → all_below (2 ^ 32) ps ≡ true → formed a w ps ≡ true → run a (unpacked ps) ≡ ps
unfolding formed
packs_back a w [] m b e = never e
packs_back a w (p ∷ []) m b e =
    rw (unpacked-cons, unpacked-nil, append-nil) (last_back a p (below_parts (2 ^ 32) p [] b).0 (both_pass (final a p) _ e).0)
packs_back a w (p ∷ q ∷ ps) m b e =
    let h = below_parts (2 ^ 32) p (q ∷ ps) b in
    let f = both_pass (inner a p) (formed a false (q ∷ ps)) e in
    let rest = unpacked (q ∷ ps) in
    rw (unpacked-cons p (q ∷ ps))
    (inner_back a p rest h.0 f.0 (rest_some a (q ∷ ps) f.1) (λ x. amino_five a (residues p ++ rest) m)
    ∙ ap (λ (l : List ℕ). p ∷ l) (packs_back a false (q ∷ ps) m h.1 f.1))

-- A well-formed amino run packs back to itself.
pub amino_back : (a : ℕ) (ps : List ℕ) → is_amino a ≡ true → all_below (2 ^ 32) ps ≡ true → well_formed a ps ≡ true → run a (unpacked ps) ≡ ps
amino_back a ps m b e = packs_back a true ps m b (sym (formed_well a ps) ∙ e)
