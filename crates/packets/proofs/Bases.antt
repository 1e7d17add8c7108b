-- Fifteen codes read four at once: whether all are below 4, and the number that they make. Assumes nothing.
use mathlib.Core.Path.{◌≡◌, refl, sym, ap, ◌∙◌}
use mathlib.Core.Bool.{Bool, true, ◌&&◌}
use mathlib.Core.List.{List}
use Prim.Native.Nat.{ℕ, ◌+◌, ◌*◌, ◌/◌, ◌%◌, ◌^◌, ◌≤◌, ◌<◌}
use native.Mathlib.Nat.{mod-eq_of_lt}
use native.Mathlib.Omega.{arith}
use borrow.Author.Tests.{eq-eqb, eqb-true, eqb-false, lt-ltb, ltb-true, ltb-false}
use lib.Dec.{eqb, ltb}
use lib.Bits.{bit_and, bit_or, and_mod, and_shr, and_le_r}
use lib.ListN.{length, take, get_or}
use lib.Seq.{get_or-take, length-take-le}
use Rattle.laws.specs.Digits.{value}
use Rattle.laws.specs.Places.{every}
use Rattle.laws.proofs.Digits.{below_at, below_all}
use Rattle.laws.proofs.Places.{every_at}
use Rattle.laws.proofs.Tests.{never, bool_cases, both_pass}
use Rattle.packets.specs.Packing.{four_from, plain, two_bit_part}
use Rattle.packets.proofs.Faults.{or_none, agree, agree_same}
use Rattle.packets.proofs.Filled.{two_more, two_none}
use Rattle.packets.proofs.Packing.{plain-long, plain-below, below_plain}

-- ---- a mask over four bytes

cut_byte : (x y j : ℕ) → bit_and x y / 2 ^ j % 256 ≡ bit_and (x / 2 ^ j % 256) (y / 2 ^ j % 256)
cut_byte x y j = ap (λ (n : ℕ). n % 256) (and_shr x y j) ∙ and_mod (x / 2 ^ j) (y / 2 ^ j) 8

small : ℕ → Bool
small v = agree (ltb (bit_and v 252) 1) (ltb v 4)

all_small : every small 256 ≡ true
unfolding small agree
all_small = refl

-- one byte of the masked number
small_byte : (x v j : ℕ) → v < 256 → x / 2 ^ j % 256 ≡ v → 0xfcfcfcfc / 2 ^ j % 256 ≡ 252 → ltb (bit_and x 0xfcfcfcfc / 2 ^ j % 256) 1 ≡ ltb v 4
unfolding small
small_byte x v j h e m =
    rw (cut_byte x 0xfcfcfcfc j, e, m) (agree_same (ltb (bit_and v 252) 1) (ltb v 4) (every_at small 256 v h all_small))

module _ (a b c d : ℕ) (ha : a < 256) (hb : b < 256) (hc : c < 256) (hd : d < 256) where
  abbrev number : ℕ
  number = a + b * 256 + c * 65536 + d * 16777216

  abbrev masked : ℕ
  masked = bit_and number 0xfcfcfcfc

  t₀ : ltb (masked / 2 ^ 0 % 256) 1 ≡ ltb a 4
  t₀ = let e : number / 1 % 256 ≡ a = omega arith in small_byte number a 0 ha e refl

  t₁ : ltb (masked / 2 ^ 8 % 256) 1 ≡ ltb b 4
  t₁ =
      let q : number / 256 ≡ b + c * 256 + d * 65536 = omega arith in
      let r : (b + c * 256 + d * 65536) % 256 ≡ b = omega arith in
      small_byte number b 8 hb (ap (λ (n : ℕ). n % 256) q ∙ r) refl

  t₂ : ltb (masked / 2 ^ 16 % 256) 1 ≡ ltb c 4
  t₂ =
      let q : number / 65536 ≡ c + d * 256 = omega arith in
      let r : (c + d * 256) % 256 ≡ c = omega arith in
      small_byte number c 16 hc (ap (λ (n : ℕ). n % 256) q ∙ r) refl

  t₃ : ltb (masked / 2 ^ 24 % 256) 1 ≡ ltb d 4
  t₃ =
      let q : number / 16777216 ≡ d = omega arith in
      let r : d % 256 ≡ d = omega arith in
      small_byte number d 24 hd (ap (λ (n : ℕ). n % 256) q ∙ r) refl

  -- no bit above the lowest two: each is below 4 ..
  pub masked_none : eqb masked 0 ≡ true → (a < 4) × (b < 4) × (c < 4) × (d < 4)
  masked_none e =
      let z : masked ≡ 0 = eqb-true masked 0 e in
      let z₀ : masked / 1 % 256 < 1 = omega arith in
      let z₁ : masked / 256 % 256 < 1 = omega arith in
      let z₂ : masked / 65536 % 256 < 1 = omega arith in
      let z₃ : masked / 16777216 % 256 < 1 = omega arith in (
        ltb-true a 4 (sym t₀ ∙ lt-ltb _ 1 z₀),
        ltb-true b 4 (sym t₁ ∙ lt-ltb _ 1 z₁),
        ltb-true c 4 (sym t₂ ∙ lt-ltb _ 1 z₂),
        ltb-true d 4 (sym t₃ ∙ lt-ltb _ 1 z₃),
      )

  -- .. and back
  pub none_masked : a < 4 → b < 4 → c < 4 → d < 4 → eqb masked 0 ≡ true
  none_masked ka kb kc kd =
      let m : masked ≤ 0xfcfcfcfc = and_le_r number 0xfcfcfcfc in
      let z₀ : masked / 1 % 256 < 1 = ltb-true _ 1 (t₀ ∙ lt-ltb a 4 ka) in
      let z₁ : masked / 256 % 256 < 1 = ltb-true _ 1 (t₁ ∙ lt-ltb b 4 kb) in
      let z₂ : masked / 65536 % 256 < 1 = ltb-true _ 1 (t₂ ∙ lt-ltb c 4 kc) in
      let z₃ : masked / 16777216 % 256 < 1 = ltb-true _ 1 (t₃ ∙ lt-ltb d 4 kd) in
      let k : masked / 16777216 < 256 = omega arith in
      let n : masked / 16777216 < 1 = rw (mod-eq_of_lt k) at z₃ in
      let q₃ : masked < 16777216 = omega arith in
      let k₂ : masked / 65536 < 256 = omega arith in
      let n₂ : masked / 65536 < 1 = rw (mod-eq_of_lt k₂) at z₂ in
      let q₂ : masked < 65536 = omega arith in
      let k₁ : masked / 256 < 256 = omega arith in
      let n₁ : masked / 256 < 1 = rw (mod-eq_of_lt k₁) at z₁ in
      let q₁ : masked < 256 = omega arith in
      let k₀ : masked / 1 < 256 = omega arith in
      let n₀ : masked / 1 < 1 = rw (mod-eq_of_lt k₀) at z₀ in
      let q₀ : masked ≡ 0 = omega arith in
      eq-eqb masked 0 q₀

-- ---- fifteen codes

module _ (cs : List ℕ) (bytes : (k : ℕ) → get_or cs k 0 < 256) where
  -- the mask of four codes
  abbrev Low : ℕ → Bool
  Low i = eqb (bit_and (four_from cs i) 0xfcfcfcfc) 0

  low_at : (i k : ℕ) → Low i ≡ true → i ≤ k → k < i + 4 → get_or cs k 0 < 4
  low_at i k e l h =
      let m = masked_none (get_or cs i 0) (get_or cs (i + 1) 0) (get_or cs (i + 2) 0) (get_or cs (i + 3) 0) (bytes i) (bytes (i + 1)) (bytes (i + 2))
      (bytes (i + 3)) e in
      bool_cases (eqb k i)
      (λ t. rw (eqb-true k i t) m.0)
      (λ t₀.
      bool_cases (eqb k (i + 1))
      (λ t. rw (eqb-true k (i + 1) t) m.1)
      (λ t₁.
      bool_cases (eqb k (i + 2))
      (λ t. rw (eqb-true k (i + 2) t) m.2)
      (λ t₂.
      let n₀ = eqb-false k i t₀ in
      let n₁ = eqb-false k (i + 1) t₁ in
      let n₂ = eqb-false k (i + 2) t₂ in
      let q : k ≡ i + 3 = omega arith in
      rw q m.3)))

  low-all : (i : ℕ) → ((k : ℕ) → k < i + 4 → get_or cs k 0 < 4) → Low i ≡ true
  low-all i f =
      none_masked (get_or cs i 0) (get_or cs (i + 1) 0) (get_or cs (i + 2) 0) (get_or cs (i + 3) 0) (bytes i) (bytes (i + 1)) (bytes (i + 2)) (bytes (i + 3))
      (f i (omega arith)) (f (i + 1) (omega arith)) (f (i + 2) (omega arith)) (f (i + 3) (omega arith))

  plain_at : plain 15 cs ≡ true → (k : ℕ) → k < 15 → get_or cs k 0 < 4
  plain_at e k h = rw (get_or-take 15 cs k 0 h) at (below_at 4 k (take 15 cs) (omega arith) (plain-below 15 cs e))

  at_plain : 15 ≤ length cs → ((k : ℕ) → k < 15 → get_or cs k 0 < 4) → plain 15 cs ≡ true
  at_plain l f =
      let n : length (take 15 cs) ≡ 15 = length-take-le 15 cs l in
      below_plain 15 cs l (below_all 4 (take 15 cs) (λ i h. rw (get_or-take 15 cs i 0 (omega arith)) (f i (omega arith))))

  pub plain_fours : (a b c d : ℕ) → 15 ≤ length cs → a ≡ four_from cs 0 → b ≡ four_from cs 4 → c ≡ four_from cs 8 → d ≡ four_from cs 11
      → eqb (bit_or (bit_or (bit_and a 0xfcfcfcfc) (bit_and b 0xfcfcfcfc)) (bit_or (bit_and c 0xfcfcfcfc) (bit_and d 0xfcfcfcfc))) 0 ≡ plain 15 cs
  plain_fours a b c d l ea eb ec ed =
      let s : eqb (bit_or (bit_or (bit_and a 0xfcfcfcfc) (bit_and b 0xfcfcfcfc)) (bit_or (bit_and c 0xfcfcfcfc) (bit_and d 0xfcfcfcfc))) 0
      ≡ ((Low 0 && Low 4) && (Low 8 && Low 11)) =
      or_none (bit_or (bit_and a 0xfcfcfcfc) (bit_and b 0xfcfcfcfc)) (bit_or (bit_and c 0xfcfcfcfc) (bit_and d 0xfcfcfcfc))
      ∙ rw (or_none (bit_and a 0xfcfcfcfc) (bit_and b 0xfcfcfcfc), or_none (bit_and c 0xfcfcfcfc) (bit_and d 0xfcfcfcfc), ea, eb, ec, ed) in
      s
      ∙ bool_cases (plain 15 cs)
      (λ e.
      let f = plain_at e in
      let x₀ : Low 0 ≡ true = low-all 0 (λ k h. f k (omega arith)) in
      let x₁ : Low 4 ≡ true = low-all 4 (λ k h. f k (omega arith)) in
      let x₂ : Low 8 ≡ true = low-all 8 (λ k h. f k (omega arith)) in
      let x₃ : Low 11 ≡ true = low-all 11 (λ k h. f k (omega arith)) in
      rw (x₀, x₁, x₂, x₃) (sym e))
      (λ e.
      bool_cases ((Low 0 && Low 4) && (Low 8 && Low 11))
      (λ t.
      let p = both_pass (Low 0 && Low 4) (Low 8 && Low 11) t in
      let q = both_pass (Low 0) (Low 4) p.0 in
      let r = both_pass (Low 8) (Low 11) p.1 in
      never (sym e ∙ at_plain l (λ k h.
      bool_cases (ltb k 4)
      (λ u. low_at 0 k q.0 (omega arith) (omega (arith, ltb-true k 4 u)))
      (λ u.
      bool_cases (ltb k 8)
      (λ v. low_at 4 k q.1 (ltb-false k 4 u) (omega (arith, ltb-true k 8 v)))
      (λ v.
      bool_cases (ltb k 12)
      (λ w. low_at 8 k r.0 (ltb-false k 8 v) (omega (arith, ltb-true k 12 w)))
      (λ w. low_at 11 k r.1 (omega (arith, ltb-false k 12 w)) (omega arith)))))))
      (λ t. t ∙ sym e))

-- ---- the number of fifteen codes

-- four codes by a product: all are tried
gathered : ℕ → Bool
gathered v = eqb ((v / 64 + v / 16 % 4 * 256 + v / 4 % 4 * 65536 + v % 4 * 16777216) * 0x40100401 / 16777216 % 256) v

all_gathered : every gathered 256 ≡ true
unfolding gathered
all_gathered = refl

-- the four digits of a number
pub quarters : (a b c d v : ℕ) → v ≡ a * 64 + b * 16 + c * 4 + d → a < 4 → b < 4 → c < 4 → d < 4
    → (v / 64 ≡ a) × (v / 16 % 4 ≡ b) × (v / 4 % 4 ≡ c) × (v % 4 ≡ d)
quarters a b c d v e ha hb hc hd =
    let q₁ : v / 16 ≡ a * 4 + b = omega arith in
    let e₁ : (a * 4 + b) % 4 ≡ b = omega arith in
    let q₂ : v / 4 ≡ a * 16 + b * 4 + c = omega arith in
    let e₂ : (a * 16 + b * 4 + c) % 4 ≡ c = omega arith in
    (omega arith, ap (λ (x : ℕ). x % 4) q₁ ∙ e₁, ap (λ (x : ℕ). x % 4) q₂ ∙ e₂, omega arith)

gather : (a b c d : ℕ) → a < 4 → b < 4 → c < 4 → d < 4 → (a + b * 256 + c * 65536 + d * 16777216) * 0x40100401 / 16777216 % 256 ≡ a * 64 + b * 16 + c * 4 + d
unfolding gathered
gather a b c d ha hb hc hd =
    let v = a * 64 + b * 16 + c * 4 + d in
    let q = quarters a b c d v refl ha hb hc hd in
    let h : v < 256 = omega arith in
    let t = eqb-true _ v (every_at gathered 256 v h all_gathered) in
    rw (q.0, q.1, q.2, q.3) at t

low_three : (a b c d w : ℕ) → b < 4 → c < 4 → d < 4 → w ≡ a * 64 + b * 16 + c * 4 + d → w % 64 ≡ b * 16 + c * 4 + d
low_three a b c d w hb hc hd e = omega arith

four_steps : (v₀ v₁ v₂ v₃ v₄ a b c d : ℕ) → v₁ ≡ v₀ * 4 + a → v₂ ≡ v₁ * 4 + b → v₃ ≡ v₂ * 4 + c → v₄ ≡ v₃ * 4 + d → v₄ ≡ v₀ * 256 +
    (a * 64 + b * 16 + c * 4 + d)
four_steps v₀ v₁ v₂ v₃ v₄ a b c d e f g h = omega arith

three_steps : (v₀ v₁ v₂ v₃ a b c : ℕ) → v₁ ≡ v₀ * 4 + a → v₂ ≡ v₁ * 4 + b → v₃ ≡ v₂ * 4 + c → v₃ ≡ v₀ * 64 + (a * 16 + b * 4 + c)
three_steps v₀ v₁ v₂ v₃ a b c e f g = omega arith

joined : (v₄ v₈ v₁₂ v₁₅ x y z w : ℕ) → v₄ ≡ x → v₈ ≡ v₄ * 256 + y → v₁₂ ≡ v₈ * 256 + z → v₁₅ ≡ v₁₂ * 64 + w → x * 4194304 + y * 16384 + z * 64 + w ≡ v₁₅
joined v₄ v₈ v₁₂ v₁₅ x y z w e f g h = omega arith

module _ (cs : List ℕ) (e : plain 15 cs ≡ true) where
  code : (k : ℕ) → k < 15 → get_or cs k 0 < 4
  code k h = rw (get_or-take 15 cs k 0 h) at (below_at 4 k (take 15 cs) (omega arith) (plain-below 15 cs e))

  four : (i x : ℕ) → i + 4 ≤ 15 → x ≡ four_from cs i * 0x40100401 / 16777216 % 256 → x ≡ get_or cs i 0 * 64 + get_or cs (i + 1) 0 * 16 + get_or cs
      (i + 2) 0 * 4 + get_or cs (i + 3) 0
  four i x h f =
      f ∙ gather (get_or cs i 0) (get_or cs (i + 1) 0) (get_or cs (i + 2) 0) (get_or cs (i + 3) 0) (code i (omega arith)) (code (i + 1) (omega arith))
      (code (i + 2) (omega arith)) (code (i + 3) (omega arith))

  more : (j : ℕ) → j < 15 → value 2 0 (take (j + 1) cs) ≡ value 2 0 (take j cs) * 4 + get_or cs j 0
  more j h = two_more j cs (omega (arith, plain-long 15 cs e))

  pub bases-sum : (x y z w : ℕ) → x ≡ four_from cs 0 * 0x40100401 / 16777216 % 256 → y ≡ four_from cs 4 * 0x40100401 / 16777216 % 256
      → z ≡ four_from cs 8 * 0x40100401 / 16777216 % 256 → w ≡ four_from cs 11 * 0x40100401 / 16777216 % 256
      → x * 4194304 + y * 16384 + z * 64 + w % 64 ≡ two_bit_part cs
  bases-sum x y z w ex ey ez ew =
      let fx = four 0 x (omega arith) ex in
      let fy = four 4 y (omega arith) ey in
      let fz = four 8 z (omega arith) ez in
      let fw = four 11 w (omega arith) ew in
      let r = low_three (get_or cs 11 0) (get_or cs 12 0) (get_or cs 13 0) (get_or cs 14 0) w (code 12 (omega arith)) (code 13 (omega arith))
      (code 14 (omega arith)) fw in
      let v₄ = four_steps (value 2 0 (take 0 cs)) (value 2 0 (take 1 cs)) (value 2 0 (take 2 cs)) (value 2 0 (take 3 cs)) (value 2 0 (take 4 cs))
      (get_or cs 0 0) (get_or cs 1 0) (get_or cs 2 0) (get_or cs 3 0) (more 0 (omega arith)) (more 1 (omega arith)) (more 2 (omega arith)) (more 3 (omega arith)) in
      let v₈ = four_steps (value 2 0 (take 4 cs)) (value 2 0 (take 5 cs)) (value 2 0 (take 6 cs)) (value 2 0 (take 7 cs)) (value 2 0 (take 8 cs))
      (get_or cs 4 0) (get_or cs 5 0) (get_or cs 6 0) (get_or cs 7 0) (more 4 (omega arith)) (more 5 (omega arith)) (more 6 (omega arith)) (more 7 (omega arith)) in
      let v₁₂ = four_steps (value 2 0 (take 8 cs)) (value 2 0 (take 9 cs)) (value 2 0 (take 10 cs)) (value 2 0 (take 11 cs)) (value 2 0 (take 12 cs))
      (get_or cs 8 0) (get_or cs 9 0) (get_or cs 10 0) (get_or cs 11 0) (more 8 (omega arith)) (more 9 (omega arith)) (more 10 (omega arith))
      (more 11 (omega arith)) in
      let v₁₅ = three_steps (value 2 0 (take 12 cs)) (value 2 0 (take 13 cs)) (value 2 0 (take 14 cs)) (value 2 0 (take 15 cs)) (get_or cs 12 0) (get_or cs 13 0)
      (get_or cs 14 0) (more 12 (omega arith)) (more 13 (omega arith)) (more 14 (omega arith)) in
      let z₀ = two_none cs in
      joined (value 2 0 (take 4 cs)) (value 2 0 (take 8 cs)) (value 2 0 (take 12 cs)) (value 2 0 (take 15 cs)) x y z (w % 64) (v₄ ∙ rw (z₀, fx) (omega arith))
      (v₈ ∙ rw fy) (v₁₂ ∙ rw fz) (v₁₅ ∙ rw r)
