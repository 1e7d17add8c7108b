-- Allowed integers are in the shortest form: no fewer bytes write the same number. So there is one list of allowed bytes for a number, and there is one for
-- every number of 64 bits. Assumes nothing.
use mathlib.Core.Path.{◌≡◌, refl, sym, subst, ap, ap₂, ◌∙◌}
use mathlib.Core.List.{List, [], ◌∷◌}
use mathlib.Core.Bool.{true, false, ◌||◌}
use Prim.Native.Nat.{ℕ, suc, ◌+◌, ◌-◌, ◌*◌, ◌/◌, ◌%◌, ◌^◌, ◌≤◌, ◌<◌}
use native.Mathlib.Nat.{zero-mul, zero-add, pow-suc, pow-le-pow_right, mul-le-mul_right, add-mul, mul_assoc, mod-eq_of_lt, le_antisymm}
use native.Mathlib.Omega.{arith}
use native.Mathlib.Numerals.{add-one, add-two}
use borrow.Author.Tests.{lt-ltb, ltb-true, ltb-false, leb-true, leb-false, eqb-true, eqb-false}
use lib.Arith.{digits_lt}
use lib.Dec.{ltb, leb, eqb}
use lib.IntN.{ℤ, pos, negsuc, pos-ne-negsuc}
use lib.ListN.{length, get_or, take, drop, length-drop}
use lib.Seq.{drop-cons, length-take-le, take_all}
use lib.Signed.{mag}
use mir.Syntax.{w64}
use mir.Val.{SFits, of_z}
use mir.ValLaws.{of_z_fits, to_z-of_z}
use Rattle.laws.specs.Digits.{digits, value, all_below}
use Rattle.laws.proofs.Digits.{below_parts, below-take, below-drop, length_digits, value_after, digits_value, value-digits}
use Rattle.laws.proofs.Numbers.{digits-below}
use Rattle.laws.proofs.Tests.{never, bool_cases}
use Rattle.fields.specs.Number.{signed}
use Rattle.fields.proofs.Laws.{machine_signed}
use Rattle.elements.specs.Parts.{bytes_of, is_padded}
use Rattle.elements.specs.Statement.{IntegerBytes, IntegerElement, Padded}
use Rattle.elements.specs.Written.{integer_written}
use Rattle.elements.specs.Shortest.{twos_complement, Shortest}
use Rattle.elements.proofs.Padded.{bytes_padded, false_unpadded, unpadded_false, all_or_none, nine_bits, padded_nine}
use Rattle.elements.proofs.Parts.{byte_power, value-bytes, signed_pos, signed_neg}

-- ---- two's complement

signed_cases {ℓ} : {X : Type ℓ} (w x : ℕ) → (x < 256 ^ w / 2 → signed w x ≡ pos x → X) → (256 ^ w / 2 ≤ x → signed w x ≡ negsuc (256 ^ w - suc x) → X) → X
signed_cases w x low high =
    bool_cases (ltb x (256 ^ w / 2))
    (λ e. let h = ltb-true _ _ e in low h (signed_pos w x h))
    (λ e. let h = ltb-false _ _ e in high h (signed_neg w x h))

-- a number of so many bytes has a magnitude below half of their numbers
mag_below : (k y : ℕ) → y < 256 ^ suc k → mag (signed (suc k) y) < 256 ^ k * 128
mag_below k y h =
    let p : 256 ^ suc k ≡ 256 ^ k * 256 = pow-suc 256 k in
    signed_cases (suc k) y (λ l e. rw e (omega arith)) (λ l e. rw e (omega arith))

-- numbers of as many bytes that are the same in two's complement are the same
signed_same : (w x y : ℕ) → x < 256 ^ w → y < 256 ^ w → signed w x ≡ signed w y → x ≡ y
signed_same w x y h l e =
    signed_cases w x
    (λ a p. signed_cases w y (λ b q. ap mag (sym p ∙ e ∙ q)) (λ b q. absurd (pos-ne-negsuc _ _ (sym p ∙ e ∙ q))))
    (λ a p. signed_cases w y (λ b q. absurd (pos-ne-negsuc _ _ (sym q ∙ sym e ∙ p)))
    (λ b q. let m : 256 ^ w - suc x ≡ 256 ^ w - suc y = ap mag (sym p ∙ e ∙ q) in omega arith))

-- ---- the number of some bytes

first_byte : (a : ℕ) (rest : List ℕ) → value 8 0 (a ∷ rest) ≡ a * 256 ^ length rest + value 8 0 rest
unfolding value
first_byte a rest = value_after 8 (0 * 2 ^ 8 + a) rest ∙ rw (byte_power (length rest), zero-mul, zero-add)

-- as many bytes that write the same number are the same
value_same : (xs ys : List ℕ) → all_below 256 xs ≡ true → all_below 256 ys ≡ true → length xs ≡ length ys → value 8 0 xs ≡ value 8 0 ys → xs ≡ ys
value_same xs ys a b l e =
    let back : (zs : List ℕ) → all_below 256 zs ≡ true → digits 8 (length zs) (0 * 2 ^ (8 * length zs) + value 8 0 zs) ≡ zs = digits_value 8 0 in
    sym (back xs a) ∙ rw (l, e) (back ys b)

-- ---- two bytes and the rest: their number is that of the first nine bits, so many units, and what is left of one

-- the first nine bits are all equal in 0 and in 511
all_or_none_lem : {X : Type 0} (n : ℕ) → all_or_none n ≡ true → (n ≡ 0 → X) → (n ≡ 511 → X) → X
all_or_none_lem n e none all = bool_cases (eqb n 0) (λ z. none (eqb-true _ _ z)) (λ z. all (eqb-true n 511 (let f : (false || eqb n 511) ≡ true = rw z at e in f)))

neither : (n : ℕ) → n < 512 → all_or_none n ≡ false → (0 < n) × (n < 511)
neither n h e =
    bool_cases (eqb n 0) (λ z. never (sym e ∙ rw z))
    (λ z. bool_cases (eqb n 511) (λ o. never (sym e ∙ rw (z, o)))
    (λ o. let p = eqb-false n 0 z in let q = eqb-false n 511 o in (omega arith, omega arith)))

module _ (w unit left : ℕ) (size : 256 ^ w ≡ 512 * unit) (small : left < unit) where
  -- with other bits a number is at least a unit away from 0, farther than one byte less can write
  signed-wide : (nine : ℕ) → 0 < nine → nine < 511 → unit ≤ mag (signed w (nine * unit + left))
  signed-wide nine h l =
      let low : 1 * unit ≤ nine * unit = mul-le-mul_right unit h in
      let high : nine * unit + left < 511 * unit = digits_lt l small in
      signed_cases w (nine * unit + left) (λ a e. rw e (omega arith)) (λ a e. rw e (omega arith))

  -- without its first byte a padded number is the same
  module _ (v : ℕ) (less : 256 ^ v ≡ 2 * unit) where
    signed_zeros : signed w (0 * unit + left) ≡ signed v (0 * unit + left)
    signed_zeros = signed_pos w (0 * unit + left) (omega arith) ∙ sym (signed_pos v (0 * unit + left) (omega arith))

    signed_ones : signed w (511 * unit + left) ≡ signed v (1 * unit + left)
    signed_ones =
        let m : 256 ^ w - suc (511 * unit + left) ≡ 256 ^ v - suc (1 * unit + left) = omega arith in
        signed_neg w (511 * unit + left) (omega arith) ∙ ap negsuc m ∙ sym (signed_neg v (1 * unit + left) (omega arith))

module _ (a b : ℕ) (rest : List ℕ) (below : all_below 256 (a ∷ b ∷ rest) ≡ true) where
  abbrev unit : ℕ
  unit = 128 * 256 ^ length rest

  abbrev left : ℕ
  left = b % 128 * 256 ^ length rest + value 8 0 rest

  abbrev nine : ℕ
  nine = nine_bits (a ∷ b ∷ rest)

  bytes_below : (a < 256) × (b < 256)
  bytes_below = let p = below_parts 256 a (b ∷ rest) below in (p.0, (below_parts 256 b rest p.1).0)

  left-small : left < unit
  left-small = digits_lt (omega arith) (value-bytes rest (below_parts 256 b rest (below_parts 256 a (b ∷ rest) below).1).1)

  size_less : 256 ^ suc (length rest) ≡ 2 * unit
  size_less = let p : 256 ^ suc (length rest) ≡ 256 ^ length rest * 256 = pow-suc 256 (length rest) in omega arith

  size-whole : 256 ^ suc (suc (length rest)) ≡ 512 * unit
  size-whole = let p : 256 ^ suc (suc (length rest)) ≡ 256 ^ suc (length rest) * 256 = pow-suc 256 (suc (length rest)) in omega (arith, size_less)

  value-later : value 8 0 (b ∷ rest) ≡ b / 128 * unit + left
  value-later =
      let p = 256 ^ length rest in
      let e : b ≡ b / 128 * 128 + b % 128 = omega arith in
      let d : b * p ≡ b / 128 * unit + b % 128 * p = ap (λ (n : ℕ). n * p) e ∙ add-mul (b / 128 * 128) (b % 128) p ∙ ap (λ (n : ℕ). n + b % 128 * p) (mul_assoc (b / 128) 128 p) in
      first_byte b rest ∙ omega (arith, d)

  value-whole : value 8 0 (a ∷ b ∷ rest) ≡ nine * unit + left
  value-whole =
      let d : a * 256 ^ suc (length rest) ≡ a * 2 * unit = ap (λ (n : ℕ). a * n) size_less ∙ sym (mul_assoc a 2 unit) in
      let e : nine * unit ≡ a * 2 * unit + b / 128 * unit = add-mul (a * 2) (b / 128) unit in
      first_byte a (b ∷ rest) ∙ omega (arith, d, e, value-later)

  -- the test, over the first nine bits
  tested : is_padded (a ∷ b ∷ rest) ≡ all_or_none nine
  tested = padded_nine (a ∷ b ∷ rest) bytes_below.0 bytes_below.1 ∙ rw (lt-ltb 1 (suc (suc (length rest))) (omega arith))

  -- what the padding stands before writes the same number
  padded_later : is_padded (a ∷ b ∷ rest) ≡ true → twos_complement (a ∷ b ∷ rest) ≡ twos_complement (b ∷ rest)
  padded_later e =
      let s = bytes_below in
      let zeros = signed_zeros _ unit left size-whole left-small _ size_less in
      let ones = signed_ones _ unit left size-whole left-small _ size_less in
      all_or_none_lem nine (sym tested ∙ e)
      (λ z. let q : b / 128 ≡ 0 = omega arith in rw (value-whole, value-later, z, q) zeros)
      (λ o. let q : b / 128 ≡ 1 = omega arith in rw (value-whole, value-later, o, q) ones)

  unpadded-wide : is_padded (a ∷ b ∷ rest) ≡ false → unit ≤ mag (twos_complement (a ∷ b ∷ rest))
  unpadded-wide e =
      let s = bytes_below in
      let n = neither nine (omega arith) (sym tested ∙ e) in
      rw value-whole (signed-wide _ unit left size-whole left-small nine n.0 n.1)

-- ---- allowed bytes are the shortest form of their number, and of 1 to 8 bytes the shortest form is allowed

-- what so many bytes write is not as far from 0 as a unit of more bytes
not_wide : (other : List ℕ) (n : ℕ) → all_below 256 other ≡ true → 1 ≤ length other → length other ≤ suc n → mag (twos_complement other) < 128 * 256 ^ n
not_wide [] n e some few = absurd (omega arith)
not_wide (y ∷ ys) n e some few =
    let m : mag (twos_complement (y ∷ ys)) < 256 ^ length ys * 128 = mag_below (length ys) (value 8 0 (y ∷ ys)) (value-bytes (y ∷ ys) e) in
    let p : 256 ^ length ys ≤ 256 ^ n = pow-le-pow_right {n = 256} (omega arith) {i = length ys} {j = n} (omega arith) in
    omega arith

pub allowed_shortest : (bytes : List ℕ) → all_below 256 bytes ≡ true → IntegerBytes bytes → Shortest bytes
allowed_shortest [] l i other m some e = omega arith
allowed_shortest (a ∷ []) l i other m some e = some
allowed_shortest (a ∷ b ∷ rest) l i other m some e =
    bool_cases (leb (length other) (suc (length rest)))
    (λ t.
    let small : mag (twos_complement other) < 128 * 256 ^ length rest = not_wide other (length rest) m some (leb-true _ _ t) in
    let wide : 128 * 256 ^ length rest ≤ mag (twos_complement (a ∷ b ∷ rest)) = unpadded-wide a b rest l (unpadded_false (a ∷ b ∷ rest) i.unpadded) in
    let same : mag (twos_complement other) ≡ mag (twos_complement (a ∷ b ∷ rest)) = ap mag e in
    absurd (omega arith))
    (λ f. let g : suc (length rest) < length other = leb-false _ _ f in omega arith)

shortest_unpadded : (bytes : List ℕ) → all_below 256 bytes ≡ true → Shortest bytes → Padded bytes → ⊥
shortest_unpadded [] l s p = let m = p.more in omega arith
shortest_unpadded (a ∷ []) l s p = let m = p.more in omega arith
shortest_unpadded (a ∷ b ∷ rest) l s p =
    let e = padded_later a b rest l (bytes_padded (a ∷ b ∷ rest) p) in
    let h : suc (suc (length rest)) ≤ suc (length rest) = s (b ∷ rest) (below_parts 256 a (b ∷ rest) l).1 (omega arith) (sym e) in
    omega arith

pub shortest_allowed : (bytes : List ℕ) → all_below 256 bytes ≡ true → 1 ≤ length bytes → length bytes ≤ 8 → Shortest bytes → IntegerBytes bytes
shortest_allowed bytes l some few s = record { some = some; few = few; unpadded = shortest_unpadded bytes l s }

-- ---- one list of allowed bytes for each number

pub allowed_same : (xs ys : List ℕ) → all_below 256 xs ≡ true → all_below 256 ys ≡ true → IntegerBytes xs → IntegerBytes ys
    → twos_complement xs ≡ twos_complement ys → xs ≡ ys
allowed_same xs ys a b i j e =
    let l : length xs ≡ length ys = le_antisymm (allowed_shortest xs a i ys b j.some (sym e)) (allowed_shortest ys b j xs a i.some e) in
    let f : signed (length ys) (value 8 0 xs) ≡ signed (length ys) (value 8 0 ys) = subst (λ (n : ℕ). signed n (value 8 0 xs) ≡ twos_complement ys) l e in
    value_same xs ys a b l (signed_same (length ys) (value 8 0 xs) (value 8 0 ys) (subst (λ (n : ℕ). value 8 0 xs < 256 ^ n) l (value-bytes xs a)) (value-bytes ys b) f)

-- a number that some bytes write has allowed ones: those behind the padding
abbrev pub AllowedFor : ℤ → Type 0
AllowedFor z = (bytes : List ℕ) × (all_below 256 bytes ≡ true) × IntegerBytes bytes × (twos_complement bytes ≡ z)

stripped : (bytes : List ℕ) → all_below 256 bytes ≡ true → 1 ≤ length bytes → length bytes ≤ 8 → AllowedFor (twos_complement bytes)
stripped [] l some few = absurd (omega arith)
stripped (a ∷ []) l some few = (a ∷ [], l, record { some = some; few = few; unpadded = λ p. let m = p.more in omega arith }, refl)
stripped (a ∷ b ∷ rest) l some few =
    bool_cases (is_padded (a ∷ b ∷ rest))
    (λ e.
    let s = stripped (b ∷ rest) (below_parts 256 a (b ∷ rest) l).1 (omega arith) (omega arith) in
    (s.0, s.1, s.2, s.3 ∙ sym (padded_later a b rest l e)))
    (λ e. (a ∷ b ∷ rest, l, record { some = some; few = few; unpadded = false_unpadded (a ∷ b ∷ rest) e }, refl))

-- every number of 64 bits has allowed bytes
pub allowed_for : (z : ℤ) → SFits w64 z → AllowedFor z
allowed_for z f =
    let bytes : List ℕ = digits 8 8 (of_z w64 z) in
    let l : length bytes ≡ 8 = length_digits 8 8 (of_z w64 z) in
    let v : value 8 0 bytes ≡ of_z w64 z = value-digits 8 8 (of_z w64 z) ∙ mod-eq_of_lt (of_z_fits w64 z f).fits in
    let e : twos_complement bytes ≡ z = ap₂ signed l v ∙ sym (machine_signed w64 (of_z w64 z)) ∙ to_z-of_z w64 z f in
    subst AllowedFor e (stripped bytes (digits-below 8 8 (of_z w64 z)) (rw l (omega arith)) (rw l (omega arith)))

-- ---- elements: 02, the length, the bytes

module _ {s : List ℕ} {p m : ℕ} (i : IntegerElement s p m) where
  abbrev pub integer_bytes : List ℕ
  integer_bytes = take (get_or s (p + 1) 0) (drop (p + 2) s)

  pub element_bytes : bytes_of s p (m - p) ≡ 2 ∷ get_or s (p + 1) 0 ∷ integer_bytes
  element_bytes =
      let e = i.ends in
      let f = i.fits in
      let t = i.tag.is in
      let n : m - p ≡ suc (suc (get_or s (p + 1) 0)) = omega arith in
      let l : suc p < length s = rw (← add-one p) i.sized in
      rw (n, add-one p, add-two p, drop-cons s p 0 i.tag.there, t, drop-cons s (suc p) 0 l)

  -- as many bytes as the length says
  pub element_length : length integer_bytes ≡ get_or s (p + 1) 0
  element_length = let e = i.ends in let f = i.fits in length-take-le _ (drop (p + 2) s) (rw length-drop (omega arith))

  pub element_number_lem : twos_complement integer_bytes ≡ integer_written i
  element_number_lem = ap (λ (n : ℕ). signed n (value 8 0 integer_bytes)) element_length

  pub element_below : all_below 256 s ≡ true → all_below 256 integer_bytes ≡ true
  element_below e = below-take 256 (get_or s (p + 1) 0) (drop (p + 2) s) (below-drop 256 (p + 2) s e)

-- bytes behind 02 and their length
pub element_of : (bytes : List ℕ) → IntegerBytes bytes → IntegerElement (2 ∷ length bytes ∷ bytes) 0 (length (2 ∷ length bytes ∷ bytes))
element_of bytes b =
    record {
      tag = record { there = omega arith; is = refl };
      sized = omega arith;
      ends = omega arith;
      fits = omega arith;
      allowed = rw (take_all (length bytes) bytes (omega arith)) b;
    }
