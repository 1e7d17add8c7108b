-- The two-bit bytes of the definition meet the plain statements of specs/Holds.antt, and no others do. Assumes nothing.
use mathlib.Core.Path.{◌≡◌, refl, sym, ap, ◌∙◌, subst}
use mathlib.Core.Bool.{Bool, true, cond, ◌&&◌}
use mathlib.Core.List.{List, [], ◌∷◌}
use Prim.Native.Nat.{ℕ, zero, suc, ◌+◌, ◌*◌, ◌/◌, ◌%◌, ◌^◌, ◌<◌}
use native.Mathlib.Nat.{add-zero, zero-add, zero-mul, mod-eq_of_lt, zero-div}
use native.Mathlib.Omega.{arith}
use lib.Arith.{digits_mod}
use lib.Count.{count_trailing_zeros}
use lib.Dec.{eqb, ltb}
use lib.ListN.{length, get_or, length-append, get_or-append, get_or-eq_default}
use lib.Seq.{ext_get_or, get_or_at}
use borrow.Author.Tests.{ltb-true, ltb-false, eqb-true, eqb-false, ne_eqb}
use Rattle.laws.specs.Digits.{value, all_below}
use Rattle.laws.specs.Places.{every, list_to}
use Rattle.laws.proofs.Digits.{below_none, below-cons, length_digits, digits_value, value-digits}
use Rattle.laws.proofs.Places.{every_at, length-list_to, list_to_at}
use Rattle.laws.proofs.Tests.{bool_cases, both_pass}
use Rattle.residues.specs.Tables.{ambiguity_value, ambiguity_values}
use Rattle.sequence.specs.Bases.{bases_of, base_at}
use Rattle.sequence.proofs.Exact.{base_of}
use Rattle.sequence.proofs.FourBases.{base_is}
use Rattle.nucleotides.specs.TwoBit.{placeholder, placeholder_at, two_bit_byte, last_byte, two_bit_bytes}
use Rattle.nucleotides.specs.Scan.{code_at}
use Rattle.nucleotides.specs.Holds.{PlaceholderHolds, gap, lowest, TwoBitHolds}
use Rattle.nucleotides.proofs.Plain.{by_order}
use Rattle.nucleotides.proofs.Packing.{placeholder-small, placeholder-none, behind-zero, byte_of}

-- ---- the base of a code

-- bit b of a code's ambiguity value
abbrev bit : ℕ → ℕ → ℕ
bit code b = ambiguity_value code / 2 ^ b % 2

-- no bit below place b is set
abbrev none_below : ℕ → ℕ → Bool
none_below code b = every (λ i. eqb (bit code i) 0) b

-- of a code with a bit set, the base's bit is set and no lower one
abbrev lowest_is : ℕ → ℕ → Bool
lowest_is code b = eqb (bit code b) 1 && none_below code b

module _ (code : ℕ) where
  valid : (ambiguity_value code ≡ 0 → ⊥) → code < 16
  valid some = bool_cases (ltb code 16) (ltb-true code 16) (λ e. absurd (some (get_or-eq_default ambiguity_values 0 (ltb-false code 16 e))))

  lowest_told : (ambiguity_value code ≡ 0 → ⊥) → lowest_is code (placeholder code) ≡ true
  unfolding placeholder count_trailing_zeros
  lowest_told some =
      let t : cond (eqb (ambiguity_value code) 0) true (lowest_is code (placeholder code)) ≡ true =
      every_at (λ c. cond (eqb (ambiguity_value c) 0) true (lowest_is c (placeholder c))) 16 code (valid some) refl in
      ap (λ (b : Bool). cond b true (lowest_is code (placeholder code))) (sym (ne_eqb (ambiguity_value code) 0 some)) ∙ t

  -- The base of the definition is that of the plain statement.
  pub placeholder-holds : PlaceholderHolds code (placeholder code)
  placeholder-holds =
      bool_cases (eqb (ambiguity_value code) 0)
      (λ e. let z = eqb-true (ambiguity_value code) 0 e in gap z (sym (placeholder-none code z)))
      (λ e. let b = placeholder code in
      let p = both_pass (eqb (bit code b) 1) (none_below code b) (lowest_told (eqb-false (ambiguity_value code) 0 e)) in
      lowest (eqb-true (bit code b) 1 p.0) (λ i h. eqb-true (bit code i) 0 (every_at (λ j. eqb (bit code j) 0) b i h p.1)))

  -- and one base is
  no_bit : (b : ℕ) → ambiguity_value code ≡ 0 → bit code b ≡ 1 → ⊥
  no_bit b z e = let f : 0 % 2 ≡ 1 = rw (z, zero-div) at e in omega arith

  same_base : (a b : ℕ) → PlaceholderHolds code a → PlaceholderHolds code b → a ≡ b
  same_base a b (gap z e) (gap y f) = e ∙ sym f
  same_base a b (gap z e) (lowest s l) = absurd (no_bit b z s)
  same_base a b (lowest s l) (gap z e) = absurd (no_bit a z s)
  same_base a b (lowest s l) (lowest t m) =
      bool_cases (ltb a b) (λ e. let x = m a (ltb-true a b e) in absurd (omega arith))
      (λ e. bool_cases (ltb b a) (λ f. let x = l b (ltb-true b a f) in absurd (omega arith))
      (λ f. let x = ltb-false a b e in let y = ltb-false b a f in omega arith))

  pub holds-placeholder : (base : ℕ) → PlaceholderHolds code base → base ≡ placeholder code
  holds-placeholder base h = same_base base (placeholder code) h placeholder-holds

-- ---- a byte by its four bases

-- four bases, and the byte that they write
module _ (a b c d : ℕ) (ha : a < 4) (hb : b < 4) (hc : c < 4) (hd : d < 4) where
  abbrev four : List ℕ
  four = a ∷ b ∷ c ∷ d ∷ []

  bases_four : bases_of (value 2 0 four) ≡ four
  bases_four =
      let below : all_below 4 four ≡ true = below-cons 4 a _ ha (below-cons 4 b _ hb (below-cons 4 c _ hc (below-cons 4 d [] hd (below_none 4)))) in
      let e = digits_value 2 0 four below in
      (rw (zero-mul, zero-add) at e)

  low_four : value 2 0 four % 4 ≡ d
  unfolding value
  low_four = let e : value 2 0 four ≡ (a * 16 + b * 4 + c) * 4 + d = omega arith in ap (λ (x : ℕ). x % 4) e ∙ digits_mod (a * 16 + b * 4 + c) hd

  small_four : value 2 0 four < 256
  unfolding value
  small_four = omega arith

-- two bytes with the same bases are one
same_byte : (x y : ℕ) → x < 256 → y < 256 → ((j : ℕ) → j < 4 → get_or (bases_of x) j 0 ≡ get_or (bases_of y) j 0) → x ≡ y
same_byte x y hx hy h =
    let e : bases_of x ≡ bases_of y =
    ext_get_or 0 (bases_of x) (bases_of y) (length_digits 2 4 x ∙ sym (length_digits 2 4 y)) (λ j i. h j (omega (arith, length_digits 2 4 x))) in
    let f : x % 256 ≡ y % 256 = sym (value-digits 2 4 x) ∙ ap (value 2 0) e ∙ value-digits 2 4 y in
    sym (mod-eq_of_lt hx) ∙ f ∙ mod-eq_of_lt hy

-- the bytes of a list by their bases
bases_of_byte : (bytes : List ℕ) (m j : ℕ) → j < 4 → get_or (bases_of (get_or bytes m 0)) j 0 ≡ base_at bytes 0 (4 * m + j)
bases_of_byte bytes m j h =
    ap (λ (i : ℕ). get_or (bases_of (get_or bytes i 0)) j 0) (sym (zero-add m)) ∙ base_is bytes 0 (4 * m + j) m j refl h

-- ---- the bytes of the definition hold

module _ (codes : List ℕ) where
  -- the whole bytes, and the last one
  abbrev wholes : ℕ
  wholes = length codes / 4

  whole_at : (m : ℕ) → m < wholes → get_or (two_bit_bytes codes) m 0 ≡ two_bit_byte codes m
  whole_at m h =
      get_or-append (list_to (two_bit_byte codes) wholes) (last_byte codes ∷ []) 0 m (rw (length-list_to (two_bit_byte codes) wholes) h)
      ∙ list_to_at (two_bit_byte codes) wholes m 0 h

  last_at : get_or (two_bit_bytes codes) wholes 0 ≡ last_byte codes
  last_at = get_or_at (list_to (two_bit_byte codes) wholes) (last_byte codes) [] 0 wholes (length-list_to (two_bit_byte codes) wholes)

  -- byte m: three bases, and a fourth or a count
  abbrev byte_with : ℕ → ℕ → ℕ
  byte_with m d = value 2 0 (placeholder_at codes (4 * m) ∷ placeholder_at codes (4 * m + 1) ∷ placeholder_at codes (4 * m + 2) ∷ d ∷ [])

  module _ (m d : ℕ) (h : d < 4) where
    base_with : (j : ℕ) → j < 4 → (j ≡ 3 → d ≡ placeholder_at codes (4 * m + 3)) → get_or (bases_of (byte_with m d)) j 0 ≡ placeholder_at codes (4 * m + j)
    base_with j i e =
        ap (λ (xs : List ℕ). get_or xs j 0)
        (bases_four (placeholder_at codes (4 * m)) (placeholder_at codes (4 * m + 1)) (placeholder_at codes (4 * m + 2)) d
        (placeholder-small _) (placeholder-small _) (placeholder-small _) h)
        ∙ by j i e
      where
        by : (j : ℕ) → j < 4 → (j ≡ 3 → d ≡ placeholder_at codes (4 * m + 3))
            → get_or (placeholder_at codes (4 * m) ∷ placeholder_at codes (4 * m + 1) ∷ placeholder_at codes (4 * m + 2) ∷ d ∷ []) j 0
            ≡ placeholder_at codes (4 * m + j)
        by zero i e = ap (placeholder_at codes) (sym (add-zero (4 * m)))
        by (suc zero) i e = refl
        by (suc (suc zero)) i e = refl
        by (suc (suc (suc zero))) i e = e refl
        by (suc (suc (suc (suc j)))) i e = absurd (omega arith)

    small_with : byte_with m d < 256
    small_with = small_four _ _ _ d (placeholder-small _) (placeholder-small _) (placeholder-small _) h

    low_with : byte_with m d % 4 ≡ d
    low_with = low_four _ _ _ d (placeholder-small _) (placeholder-small _) (placeholder-small _) h

  whole_is : (m : ℕ) → m < wholes → byte_with m (placeholder_at codes (4 * m + 3)) ≡ get_or (two_bit_bytes codes) m 0
  whole_is m h = byte_of codes m refl refl refl refl ∙ sym (whole_at m h)

  last-is : byte_with wholes (length codes % 4) ≡ get_or (two_bit_bytes codes) wholes 0
  unfolding value
  last-is =
      let z : 0 ≡ placeholder_at codes (4 * wholes + 3) = sym (behind-zero codes (4 * wholes + 3) (omega arith)) in
      let e : byte_with wholes 0 ≡ two_bit_byte codes wholes = byte_of codes wholes refl refl refl z in
      let f : byte_with wholes (length codes % 4) ≡ byte_with wholes 0 + length codes % 4 = omega arith in
      f ∙ ap (λ (x : ℕ). x + length codes % 4) e ∙ sym last_at

  -- each base, and zeros behind the last
  base_written : (k : ℕ) → k < 4 * wholes + 3 → base_at (two_bit_bytes codes) 0 k ≡ placeholder_at codes k
  base_written k h =
      let m = k / 4 in
      let j = k % 4 in
      let e : 4 * m + j ≡ k = omega arith in
      ap (base_at (two_bit_bytes codes) 0) (sym e) ∙ sym (bases_of_byte (two_bit_bytes codes) m j (omega arith)) ∙ at m j (omega arith) (omega arith)
      ∙ ap (placeholder_at codes) e
    where
      at : (m j : ℕ) → j < 4 → 4 * m + j < 4 * wholes + 3 → get_or (bases_of (get_or (two_bit_bytes codes) m 0)) j 0 ≡ placeholder_at codes (4 * m + j)
      at m j i l =
          by_order m wholes
          (λ a. rw (← whole_is m a) (base_with m (placeholder_at codes (4 * m + 3)) (placeholder-small _) j i (λ e. refl)))
          (λ a. let e : m ≡ wholes = omega arith in
          rw (e, ← last-is) (base_with wholes (length codes % 4) (omega arith) j i (λ f. absurd (omega arith))))

  -- What a code's base reads back as.
  pub bases_back : (k : ℕ) → k < length codes → base_at (two_bit_bytes codes) 0 k ≡ placeholder (code_at codes k)
  bases_back k h = base_written k (omega arith)

  size : length (two_bit_bytes codes) ≡ wholes + 1
  size = length-append (list_to (two_bit_byte codes) wholes) (last_byte codes ∷ []) ∙ ap (λ (n : ℕ). n + 1) (length-list_to (two_bit_byte codes) wholes)

  small : (m : ℕ) → m < length (two_bit_bytes codes) → get_or (two_bit_bytes codes) m 0 < 256
  small m h =
      by_order m wholes (λ a. subst (λ (x : ℕ). x < 256) (whole_is m a) (small_with m _ (placeholder-small _)))
      (λ a. let e : m ≡ wholes = omega (arith, size) in
      rw e (subst (λ (x : ℕ). x < 256) last-is (small_with wholes (length codes % 4) (omega arith))))

  -- The two-bit bytes of the definition meet the plain statement.
  pub bytes-hold : TwoBitHolds codes (two_bit_bytes codes)
  bytes-hold = record {
    size = size;
    small = small;
    bases = bases_back;
    unused = λ k h l. base_written k l ∙ behind-zero codes k h;
    last = ap (λ (x : ℕ). x % 4) (sym last-is) ∙ low_with wholes (length codes % 4) (omega arith);
  }

  -- ---- and no others do

  module _ (xs ys : List ℕ) (a : TwoBitHolds codes xs) (b : TwoBitHolds codes ys) where
    -- the last base of the last byte is its low two bits
    low_base : (bytes : List ℕ) → TwoBitHolds codes bytes → base_at bytes 0 (4 * wholes + 3) ≡ length codes % 4
    low_base bytes r =
        let e : (4 * wholes + 3) / 4 ≡ wholes = omega arith in
        let f : (4 * wholes + 3) % 4 ≡ 3 = omega arith in
        base_of bytes 0 (4 * wholes + 3) ∙ rw (e, f, zero-add) (let x = r.last in omega arith)

    same_base_at : (k : ℕ) → k < 4 * wholes + 4 → base_at xs 0 k ≡ base_at ys 0 k
    same_base_at k h =
        by_order k (length codes) (λ l. a.bases k l ∙ sym (b.bases k l))
        (λ l.
        by_order k (4 * wholes + 3) (λ m. a.unused k l m ∙ sym (b.unused k l m))
        (λ m. let e : k ≡ 4 * wholes + 3 = omega arith in rw e (low_base xs a ∙ sym (low_base ys b))))

    same_bytes : xs ≡ ys
    same_bytes =
        let n = a.size in
        let o = b.size in
        ext_get_or 0 xs ys (n ∙ sym o) (λ m h.
        same_byte (get_or xs m 0) (get_or ys m 0) (a.small m h) (b.small m (omega arith))
        (λ j i. bases_of_byte xs m j i ∙ same_base_at (4 * m + j) (omega arith) ∙ sym (bases_of_byte ys m j i)))

-- Whatever meets the plain statement is what the definition gives.
pub hold-bytes : (codes bytes : List ℕ) → TwoBitHolds codes bytes → bytes ≡ two_bit_bytes codes
hold-bytes codes bytes h = same_bytes codes bytes (two_bit_bytes codes) h (bytes-hold codes)
