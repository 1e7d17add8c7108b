-- A packet that may not stand before the last of a run, told by masks over all its codes at once. Assumes nothing.
use mathlib.Core.Path.{◌≡◌, refl, sym, ap, ◌∙◌}
use mathlib.Core.Bool.{Bool, true, false, not, cond, ◌&&◌}
use Prim.Native.Nat.{ℕ, zero, suc, ◌+◌, ◌*◌, ◌/◌, ◌%◌, ◌^◌, ◌≤◌, ◌<◌}
use native.Mathlib.Nat.{mod-eq_of_lt, mul-one, mul-zero}
use native.Mathlib.Omega.{arith}
use borrow.Author.Tests.{eq-eqb, ne_eqb, eqb-true, eqb-false}
use lib.Dec.{eqb, ltb}
use lib.Pow.{shr-shr}
use lib.Bits.{bit_and, bit_or, bit_xor, and_mod, and_shr, and_le_l, and_le_r, or_add_and, xor_add_and}
use Rattle.laws.specs.Digits.{digits, all_below}
use Rattle.laws.specs.Places.{every}
use Rattle.laws.proofs.Digits.{below_parts}
use Rattle.laws.proofs.Places.{every_at}
use Rattle.laws.proofs.Tests.{never, bool_cases}
use Rattle.residues.specs.Alphabets.{is_amino}
use Rattle.packets.specs.Runs.{ends_run, is_five_bit, inner}
use Rattle.packets.proofs.Codes.{inner-is}

-- ---- numbers that are 0

-- both are 0 where their bits together are
pub or_none : (a b : ℕ) → eqb (bit_or a b) 0 ≡ (eqb a 0 && eqb b 0)
or_none a b =
    bool_cases (eqb (bit_or a b) 0)
    (λ e.
    let z : bit_or a b ≡ 0 = eqb-true _ _ e in
    let x : a ≡ 0 = omega (arith, or_add_and a b, and_le_r a b) in
    let y : b ≡ 0 = omega (arith, or_add_and a b, and_le_l a b) in
    e ∙ rw (eq-eqb a 0 x, eq-eqb b 0 y))
    (λ e.
    bool_cases (eqb a 0)
    (λ f.
    bool_cases (eqb b 0)
    (λ g. let z : bit_or a b ≡ 0 = omega (arith, or_add_and a b, eqb-true a 0 f, eqb-true b 0 g) in never (sym e ∙ eq-eqb _ 0 z))
    (λ g. e ∙ rw (f, g)))
    (λ f. e ∙ rw f))

-- only 1 has the bits of 1
pub xor_one : (a : ℕ) → eqb (bit_xor a 1) 0 ≡ eqb a 1
xor_one a =
    bool_cases (eqb a 1)
    (λ e. rw (eqb-true a 1 e))
    (λ e.
    rw e (ne_eqb (bit_xor a 1) 0 (λ (z : bit_xor a 1 ≡ 0). let x : a ≡ 1 = omega (arith, xor_add_and a 1, and_le_r a 1) in never (sym e ∙ eq-eqb a 1 x))))

-- a number is 0 where all its digits are
zero-below : all_below 1 (digits 5 6 0) ≡ true
unfolding all_below digits
zero-below = refl

none_below : (z : ℕ) → z < 2 ^ 30 → eqb z 0 ≡ all_below 1 (digits 5 6 z)
unfolding digits
none_below z h =
    bool_cases (all_below 1 (digits 5 6 z))
    (λ e.
    let p₅ = below_parts 1 (z / 2 ^ 25 % 2 ^ 5) (digits 5 5 z) e in
    let p₄ = below_parts 1 (z / 2 ^ 20 % 2 ^ 5) (digits 5 4 z) p₅.1 in
    let p₃ = below_parts 1 (z / 2 ^ 15 % 2 ^ 5) (digits 5 3 z) p₄.1 in
    let p₂ = below_parts 1 (z / 2 ^ 10 % 2 ^ 5) (digits 5 2 z) p₃.1 in
    let p₁ = below_parts 1 (z / 2 ^ 5 % 2 ^ 5) (digits 5 1 z) p₂.1 in
    let p₀ = below_parts 1 (z / 2 ^ 0 % 2 ^ 5) (digits 5 0 z) p₁.1 in
    let q₅ : z < 33554432 = omega (arith, p₅.0) in
    let q₄ : z < 1048576 = omega (arith, p₄.0) in
    let q₃ : z < 32768 = omega (arith, p₃.0) in
    let q₂ : z < 1024 = omega (arith, p₂.0) in
    let q₁ : z < 32 = omega (arith, p₁.0) in
    let n : z ≡ 0 = omega (arith, p₀.0) in
    eq-eqb z 0 n ∙ sym e)
    (λ e. ne_eqb z 0 (λ n. never (sym e ∙ rw n zero-below)) ∙ sym e)

-- digits of z that are 0 just where those of p are below a limit
same-below : (m p z : ℕ) → ((j : ℕ) → j < 6 → ltb (z / 2 ^ (5 * j) % 32) 1 ≡ ltb (p / 2 ^ (5 * j) % 32) m) → all_below 1 (digits 5 6 z) ≡ all_below m
    (digits 5 6 p)
unfolding digits all_below
same-below m p z f =
    rw (f 5 (omega arith), f 4 (omega arith), f 3 (omega arith), f 2 (omega arith), f 1 (omega arith), f 0 (omega arith))

-- two tests that say the same
unfoldable pub agree : Bool → Bool → Bool
agree a b = cond a b (not b)

pub agree_same : (a b : Bool) → agree a b ≡ true → a ≡ b
unfolding agree
agree_same true true e = refl
agree_same true false e = never e
agree_same false true e = never e
agree_same false false e = refl

-- a digit of a mask's result
cut_and : (x y j : ℕ) → bit_and x y / 2 ^ j % 32 ≡ bit_and (x / 2 ^ j % 32) (y / 2 ^ j % 32)
cut_and x y j = ap (λ (n : ℕ). n % 32) (and_shr x y j) ∙ and_mod (x / 2 ^ j) (y / 2 ^ j) 5

-- ---- nucleic: bit 4 of each code

low : ℕ → Bool
low d = agree (ltb (bit_and d 16) 1) (ltb d 16)

all-low : every low 32 ≡ true
unfolding low agree
all-low = refl

bits_four : (j : ℕ) → j < 6 → 0x21084210 / 2 ^ (5 * j) % 32 ≡ 16
bits_four zero h = refl
bits_four (suc zero) h = refl
bits_four (suc (suc zero)) h = refl
bits_four (suc (suc (suc zero))) h = refl
bits_four (suc (suc (suc (suc zero)))) h = refl
bits_four (suc (suc (suc (suc (suc zero))))) h = refl
bits_four (suc (suc (suc (suc (suc (suc j)))))) h = let z : ⊥ = omega arith in absurd z

low_digit : (p j : ℕ) → j < 6 → ltb (bit_and p 0x21084210 / 2 ^ (5 * j) % 32) 1 ≡ ltb (p / 2 ^ (5 * j) % 32) 16
unfolding low
low_digit p j h =
    let d = p / 2 ^ (5 * j) % 32 in
    let e : bit_and p 0x21084210 / 2 ^ (5 * j) % 32 ≡ bit_and d 16 = cut_and p 0x21084210 (5 * j) ∙ ap (bit_and d) (bits_four j h) in
    let t = every_at low 32 d (omega arith) all-low in
    rw e (agree_same (ltb (bit_and d 16) 1) (ltb d 16) t)

pub low-codes : (p : ℕ) → eqb (bit_and p 0x21084210) 0 ≡ all_below 16 (digits 5 6 p)
low-codes p = none_below (bit_and p 0x21084210) (omega (arith, and_le_r p 0x21084210)) ∙ same-below 16 p (bit_and p 0x21084210) (low_digit p)

-- ---- amino: bits 4, 3 and 2 of each code

abbrev pub high_bits : ℕ → ℕ → ℕ
high_bits m p = bit_and (bit_and p m) (bit_and (bit_and (p / 2) m) (bit_and (p / 4) m))

high : ℕ → Bool
high w = agree (ltb (bit_and (bit_and (w % 32) 4) (bit_and (bit_and (w / 2 % 32) 4) (bit_and (w / 4 % 32) 4))) 1) (ltb (w % 32) 28)

all-high : every high 128 ≡ true
unfolding high agree
all-high = refl

bits_two : (j : ℕ) → j < 6 → 0x08421084 / 2 ^ (5 * j) % 32 ≡ 4
bits_two zero h = refl
bits_two (suc zero) h = refl
bits_two (suc (suc zero)) h = refl
bits_two (suc (suc (suc zero))) h = refl
bits_two (suc (suc (suc (suc zero)))) h = refl
bits_two (suc (suc (suc (suc (suc zero))))) h = refl
bits_two (suc (suc (suc (suc (suc (suc j)))))) h = let z : ⊥ = omega arith in absurd z

-- the shifts may be exchanged
shift_two : (p k j : ℕ) → p / 2 ^ k / 2 ^ j ≡ p / 2 ^ j / 2 ^ k
shift_two p k j = let e : k + j ≡ j + k = omega arith in shr-shr p k j ∙ (ap (λ (n : ℕ). p / 2 ^ n) e ∙ sym (shr-shr p j k))

masked_digit : (p m j : ℕ) → m / 2 ^ j % 32 ≡ 4 → bit_and p m / 2 ^ j % 32 ≡ bit_and (p / 2 ^ j % 32) 4
masked_digit p m j e = cut_and p m j ∙ ap (bit_and (p / 2 ^ j % 32)) e

high_digit : (p j : ℕ) → j < 6 → ltb (high_bits 0x08421084 p / 2 ^ (5 * j) % 32) 1 ≡ ltb (p / 2 ^ (5 * j) % 32) 28
unfolding high
high_digit p j h =
    let m : ℕ = 0x08421084 in
    let i : ℕ = 5 * j in
    let q = p / 2 ^ i in
    let w = q % 128 in
    let b = bits_two j h in
    let e₀ : p / 2 ^ i % 32 ≡ w % 32 = omega arith in
    let e₁ : p / 2 / 2 ^ i % 32 ≡ w / 2 % 32 = ap (λ (n : ℕ). n % 32) (shift_two p 1 i) ∙ omega arith in
    let e₂ : p / 4 / 2 ^ i % 32 ≡ w / 4 % 32 = ap (λ (n : ℕ). n % 32) (shift_two p 2 i) ∙ omega arith in
    let f : high_bits m p / 2 ^ i % 32 ≡ bit_and (bit_and (w % 32) 4) (bit_and (bit_and (w / 2 % 32) 4) (bit_and (w / 4 % 32) 4)) =
    cut_and (bit_and p m) (bit_and (bit_and (p / 2) m) (bit_and (p / 4) m)) i
    ∙ rw (cut_and (bit_and (p / 2) m) (bit_and (p / 4) m) i, masked_digit p m i b, masked_digit (p / 2) m i b, masked_digit (p / 4) m i b, e₀, e₁, e₂) in
    let t = every_at high 128 w (omega arith) all-high in
    rw (f, e₀) (agree_same _ _ t)

pub high-codes : (p : ℕ) → eqb (high_bits 0x08421084 p) 0 ≡ all_below 28 (digits 5 6 p)
high-codes p =
    none_below (high_bits 0x08421084 p) (omega
    (arith, and_le_l (bit_and p 0x08421084) (bit_and (bit_and (p / 2) 0x08421084) (bit_and (p / 4) 0x08421084)), and_le_r p 0x08421084))
    ∙ same-below 28 p (high_bits 0x08421084 p) (high_digit p)

-- ---- the tests of a packet

moved : (a b c : Bool) → (a && (not b && c)) ≡ (not b && cond c a false)
moved true true c = refl
moved true false true = refl
moved true false false = refl
moved false true c = refl
moved false false true = refl
moved false false false = refl

swapped : (b c : Bool) → (c && not b) ≡ (not b && c)
swapped true true = refl
swapped true false = refl
swapped false true = refl
swapped false false = refl

-- bits 31 and 30
not-one : (p : ℕ) → p < 2 ^ 32 → (p / 2147483648 % 2 ≡ 1 → ⊥) → p / 1073741824 % 2 ≡ 1 → p / 1073741824 ≡ 1
not-one p h a x =
    bool_cases (eqb (p / 2147483648 % 2) 1)
    (λ e. absurd (a (eqb-true _ 1 e)))
    (λ e. let z : p / 2147483648 % 2 ≡ 0 = omega arith in let k : p / 2147483648 < 2 = omega arith in let n : p / 2147483648 ≡ 0 = sym (mod-eq_of_lt k)
    ∙ z in let l : p < 2147483648 = omega arith in omega arith)

top_nucleic : (p : ℕ) → p < 2 ^ 32 → eqb (p / 2147483648) 0 ≡ not (ends_run p)
top_nucleic p h =
    bool_cases (ends_run p)
    (λ e. let q : p / 2147483648 % 2 ≡ 1 = eqb-true _ 1 e in rw e (ne_eqb (p / 2147483648) 0 (λ x. omega arith)))
    (λ e. let q : p / 2147483648 % 2 ≡ 1 → ⊥ = eqb-false _ 1 e in let z : p / 2147483648 ≡ 0 = omega arith in rw e (eq-eqb (p / 2147483648) 0 z))

-- a mask's result times a bit
pub masked_most : (x m b : ℕ) → b < 2 → bit_and x m * b ≤ m
masked_most x m b h =
    bool_cases (eqb b 1)
    (λ e. rw (eqb-true b 1 e, mul-one) (and_le_r x m))
    (λ e. let z : b ≡ 0 = omega (arith, eqb-false b 1 e) in rw (z, mul-zero) (omega arith))

-- the codes count where bit 30 is set
five_part : (p : ℕ) → eqb (bit_and p 0x21084210 * (p / 1073741824 % 2)) 0 ≡ cond (is_five_bit p) (all_below 16 (digits 5 6 p)) true
five_part p =
    bool_cases (is_five_bit p)
    (λ e. let q : p / 1073741824 % 2 ≡ 1 = eqb-true _ 1 e in rw (e, q, mul-one) (low-codes p))
    (λ e. let n = eqb-false (p / 1073741824 % 2) 1 e in let q : p / 1073741824 % 2 ≡ 0 = omega arith in rw (e, q, mul-zero))

pub top_amino : (p : ℕ) → p < 2 ^ 32 → eqb (p / 1073741824) 1 ≡ (not (ends_run p) && is_five_bit p)
top_amino p h =
    bool_cases (eqb (p / 1073741824) 1)
    (λ e.
    let q : p / 1073741824 ≡ 1 = eqb-true _ 1 e in
    let a : p / 2147483648 % 2 ≡ 1 → ⊥ = λ x. omega arith in
    let b : p / 1073741824 % 2 ≡ 1 = omega arith in
    e ∙ rw (ne_eqb (p / 2147483648 % 2) 1 a, eq-eqb (p / 1073741824 % 2) 1 b))
    (λ e.
    let q : p / 1073741824 ≡ 1 → ⊥ = eqb-false _ 1 e in
    bool_cases (ends_run p)
    (λ f. e ∙ rw f)
    (λ f.
    let a : p / 2147483648 % 2 ≡ 1 → ⊥ = eqb-false _ 1 f in
    let b : p / 1073741824 % 2 ≡ 1 → ⊥ = λ x. q (not-one p h a x) in
    e ∙ rw (f, ne_eqb (p / 1073741824 % 2) 1 b)))

pub amino_fault : (p : ℕ) → p < 2 ^ 32 → eqb (bit_or (high_bits 0x08421084 p) (bit_xor (p / 1073741824) 1)) 0 ≡ inner 3 p
amino_fault p h =
    or_none (high_bits 0x08421084 p) (bit_xor (p / 1073741824) 1)
    ∙ (rw (xor_one (p / 1073741824), top_amino p h, high-codes p, inner-is 3 p) (moved (all_below 28 (digits 5 6 p)) (ends_run p) (is_five_bit p)))

pub nucleic_fault : (p : ℕ) → p < 2 ^ 32 → eqb (bit_or (bit_and p 0x21084210 * (p / 1073741824 % 2)) (p / 2147483648)) 0 ≡ inner 1 p
nucleic_fault p h =
    or_none (bit_and p 0x21084210 * (p / 1073741824 % 2)) (p / 2147483648)
    ∙ rw (top_nucleic p h, five_part p, inner-is 1 p) (swapped (ends_run p) (cond (is_five_bit p) (all_below 16 (digits 5 6 p)) true))

pub inner_nucleic : (a p : ℕ) → is_amino a ≡ false → inner 1 p ≡ inner a p
inner_nucleic a p n = rw (inner-is 1 p, inner-is a p, n)
