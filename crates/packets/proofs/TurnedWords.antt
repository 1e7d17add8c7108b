-- A big-endian packet that may not stand before the last of a run, told by the word of its bytes. Assumes nothing.
use mathlib.Core.Path.{◌≡◌, refl, sym, ap, ◌∙◌}
use mathlib.Core.Bool.{◌&&◌}
use Prim.Native.Nat.{ℕ, ◌+◌, ◌*◌, ◌/◌, ◌%◌, ◌^◌, ◌<◌}
use native.Mathlib.Omega.{arith}
use native.Mathlib.Nat.{mod-eq_of_lt, mul-one, mul-zero, zero-div}
use borrow.Author.Tests.{eq-eqb, ne_eqb, eqb-true, eqb-false}
use lib.Dec.{eqb}
use lib.Bits.{bit_and, bit_or, and_mod, and_shr, and_le_r}
use Rattle.laws.proofs.Numbers.{bytes_of}
use Rattle.laws.proofs.Tests.{bool_cases}
use Rattle.fields.specs.Number.{big, number}
use Rattle.fields.specs.Written.{little_bytes}
use Rattle.fields.proofs.Laws.{big_word}
use Rattle.packets.specs.Runs.{inner}
use Rattle.packets.proofs.Faults.{or_none, nucleic_fault}

-- two numbers that are 0 together
same_none : (x y : ℕ) → (x ≡ 0 → y ≡ 0) → (y ≡ 0 → x ≡ 0) → eqb x 0 ≡ eqb y 0
same_none x y f g =
    bool_cases (eqb x 0) (λ e. e ∙ sym (eq-eqb y 0 (f (eqb-true x 0 e)))) (λ e. e ∙ sym (ne_eqb y 0 (λ z. eqb-false x 0 e (g z))))

-- the same, each times a bit
bit_none : (x y b : ℕ) → b < 2 → eqb x 0 ≡ eqb y 0 → eqb (x * b) 0 ≡ eqb (y * b) 0
bit_none x y b h e =
    bool_cases (eqb b 1)
    (λ f. rw (eqb-true b 1 f, mul-one x, mul-one y) e)
    (λ f. let z : b ≡ 0 = omega (arith, eqb-false b 1 f) in rw (z, mul-zero x, mul-zero y))

-- a byte of a mask's result
byte_and : (x m j : ℕ) → bit_and x m / 2 ^ j % 256 ≡ bit_and (x / 2 ^ j % 256) (m / 2 ^ j % 256)
byte_and x m j = ap (λ (n : ℕ). n % 256) (and_shr x m j) ∙ and_mod (x / 2 ^ j) (m / 2 ^ j) 8

-- a number is 0 where all its bytes are
last_none : (z n : ℕ) → z / 2 ^ n < 256 → z / 2 ^ n % 256 ≡ 0 → z / 2 ^ n ≡ 0
last_none z n h e = sym (mod-eq_of_lt h) ∙ e

bytes-none : (z : ℕ) → z < 2 ^ 32 → z / 2 ^ 0 % 256 ≡ 0 → z / 2 ^ 8 % 256 ≡ 0 → z / 2 ^ 16 % 256 ≡ 0 → z / 2 ^ 24 % 256 ≡ 0 → z ≡ 0
bytes-none z h a b c d =
    let i : z / 16777216 ≡ 0 = last_none z 24 (let l : z / 16777216 < 256 = omega arith in l) d in
    let j : z / 65536 ≡ 0 = last_none z 16 (let l : z / 65536 < 256 = omega (arith, i) in l) c in
    let k : z / 256 ≡ 0 = last_none z 8 (let l : z / 256 < 256 = omega (arith, j) in l) b in
    let l : z < 256 = omega (arith, k) in
    omega (arith, l, a)

-- the bytes of 0
none_byte : (z j : ℕ) → z ≡ 0 → z / 2 ^ j % 256 ≡ 0
none_byte z j e = rw (e, zero-div (2 ^ j))

module _ (w : ℕ) (small : w < 2 ^ 32) where
  -- the packet of the word
  abbrev pub turned : ℕ
  turned = number big (little_bytes 4 w)

  turned_is : turned ≡ w / 16777216 + w / 65536 % 256 * 256 + w / 256 % 256 * 65536 + w % 256 * 16777216
  turned_is =
      let e : w / 256 / 256 % 256 ≡ w / 65536 % 256 = omega arith in
      let f : w / 256 / 256 / 256 % 256 ≡ w / 16777216 = omega arith in
      sym (big_word (w % 256) (w / 256 % 256) (w / 256 / 256 % 256) (w / 256 / 256 / 256 % 256)) ∙ rw (e, f)

  pub turned_small : turned < 2 ^ 32
  turned_small = omega (arith, turned_is)

  turned_bytes : (turned % 256 ≡ w / 16777216) × (turned / 256 % 256 ≡ w / 65536 % 256) × (turned / 65536 % 256 ≡ w / 256 % 256)
      × (turned / 16777216 ≡ w % 256)
  turned_bytes =
      bytes_of turned (w / 16777216) (w / 65536 % 256) (w / 256 % 256) (w % 256) turned_is (omega arith) (omega arith) (omega arith) (omega arith)

  -- a byte of the packet under its mask is that of the word under the turned one
  byte_turned : (m n i j : ℕ) → turned / 2 ^ i % 256 ≡ w / 2 ^ j % 256 → m / 2 ^ i % 256 ≡ n / 2 ^ j % 256
      → bit_and turned m / 2 ^ i % 256 ≡ bit_and w n / 2 ^ j % 256
  byte_turned m n i j e f = byte_and turned m i ∙ (rw (e, f) (sym (byte_and w n j)))

  -- the mask of the packet's codes is none just where the turned mask of the word is
  mask_turned : eqb (bit_and turned 0x21084210) 0 ≡ eqb (bit_and w 0x10420821) 0
  mask_turned =
      let t = turned_bytes in
      let p : ℕ = bit_and turned 0x21084210 in
      let q : ℕ = bit_and w 0x10420821 in
      let m = and_le_r turned 0x21084210 in
      let n = and_le_r w 0x10420821 in
      let e₀ = byte_turned 0x21084210 0x10420821 0 24 (omega (arith, t.0)) refl in
      let e₁ = byte_turned 0x21084210 0x10420821 8 16 t.1 refl in
      let e₂ = byte_turned 0x21084210 0x10420821 16 8 t.2 refl in
      let e₃ = byte_turned 0x21084210 0x10420821 24 0 (omega (arith, t.3)) refl in
      same_none p q
      (λ z. bytes-none q (omega arith) (sym e₃ ∙ none_byte p 24 z) (sym e₂ ∙ none_byte p 16 z) (sym e₁ ∙ none_byte p 8 z) (sym e₀ ∙ none_byte p 0 z))
      (λ z. bytes-none p (omega arith) (e₀ ∙ none_byte q 24 z) (e₁ ∙ none_byte q 16 z) (e₂ ∙ none_byte q 8 z) (e₃ ∙ none_byte q 0 z))

  -- bits 30 and 31 of the packet stand in the word's lowest byte
  five_turned : turned / 1073741824 % 2 ≡ w / 64 % 2
  five_turned =
      let e : turned / 1073741824 ≡ turned / 16777216 / 64 = omega arith in
      let f : turned / 16777216 ≡ w % 256 = turned_bytes.3 in
      rw (e, f) (omega arith)

  end_turned : turned / 2147483648 ≡ w / 128 % 2
  end_turned =
      let e : turned / 2147483648 ≡ turned / 16777216 / 128 = omega arith in
      let f : turned / 16777216 ≡ w % 256 = turned_bytes.3 in
      rw (e, f) (omega arith)

  pub turned_fault : eqb (bit_or (bit_and w 0x10420821 * (w / 64 % 2)) (w / 128 % 2)) 0 ≡ inner 1 turned
  turned_fault =
      let e : eqb (bit_and w 0x10420821 * (w / 64 % 2)) 0 ≡ eqb (bit_and turned 0x21084210 * (turned / 1073741824 % 2)) 0 = rw five_turned
      (sym (bit_none (bit_and turned 0x21084210) (bit_and w 0x10420821) (w / 64 % 2) (omega arith) mask_turned)) in
      let f : (eqb (bit_and w 0x10420821 * (w / 64 % 2)) 0 && eqb (w / 128 % 2) 0) ≡ inner 1 turned = rw (e, ← end_turned)
      (sym (or_none (bit_and turned 0x21084210 * (turned / 1073741824 % 2)) (turned / 2147483648)) ∙ nucleic_fault turned turned_small) in
      or_none (bit_and w 0x10420821 * (w / 64 % 2)) (w / 128 % 2) ∙ f
