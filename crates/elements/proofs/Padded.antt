-- Padded integers: the test and the plain statement agree, and the first nine bits are one number. Assumes nothing.
use mathlib.Core.Path.{◌≡◌, refl, sym, ap, ap₂, ◌∙◌}
use mathlib.Core.List.{List}
use mathlib.Core.Bool.{Bool, true, false, beq, ◌&&◌, ◌||◌}
use mathlib.Core.Logic.{⊎_elim}
use Prim.Native.Nat.{ℕ, ◌+◌, ◌-◌, ◌*◌, ◌/◌, ◌%◌, ◌^◌, ◌<◌}
use native.Mathlib.Nat.{eq-or-lt_of_le, le_of_suc-le-suc}
use native.Mathlib.Omega.{arith}
use borrow.Author.Tests.{lt-ltb, eq-eqb, ltb-true, eqb-true}
use lib.ListN.{length, get_or}
use lib.Dec.{ltb, eqb}
use lib.Pow.{shr-shr}
use Rattle.laws.specs.Places.{every}
use Rattle.laws.proofs.Tests.{never, bool_cases, both_pass}
use Rattle.laws.proofs.Places.{every_at, every-all, every-same}
use Rattle.elements.specs.Parts.{is_padded}
use Rattle.elements.specs.Statement.{bit_at, Padded}

-- ---- the test and the plain statement

pub padded_bytes : (bytes : List ℕ) → is_padded bytes ≡ true → Padded bytes
padded_bytes bytes e =
    let same : ℕ → Bool = λ i. eqb (bit_at bytes i) (bit_at bytes 0) in
    let p = both_pass (ltb 1 (length bytes)) (every same 9) e in
    record { more = ltb-true _ _ p.0; equal = λ i h. eqb-true _ _ (every_at same 9 i h p.1) }

pub bytes_padded : (bytes : List ℕ) → Padded bytes → is_padded bytes ≡ true
bytes_padded bytes b =
    let same : ℕ → Bool = λ i. eqb (bit_at bytes i) (bit_at bytes 0) in
    ap₂ ◌&&◌ (lt-ltb _ _ b.more) (every-all same 9 (λ i h. eq-eqb _ _ (b.equal i h)))

-- the same where they fail
pub false_unpadded : (bytes : List ℕ) → is_padded bytes ≡ false → Padded bytes → ⊥
false_unpadded bytes e b = never (sym e ∙ bytes_padded bytes b)

pub unpadded_false : (bytes : List ℕ) → (Padded bytes → ⊥) → is_padded bytes ≡ false
unpadded_false bytes h = bool_cases (is_padded bytes) (λ e. absurd (h (padded_bytes bytes e))) (λ e. e)

-- ---- the first nine bits as a number

-- nine bits are all equal in 0 and in 511 alone: computed over all numbers of nine bits
abbrev bits_equal : ℕ → Bool
bits_equal n = every (λ i. eqb (n / 2 ^ (8 - i) % 2) (n / 2 ^ 8 % 2)) 9

abbrev pub all_or_none : ℕ → Bool
all_or_none n = eqb n 0 || eqb n 511

beq_same : (a b : Bool) → beq a b ≡ true → a ≡ b
beq_same true true e = refl
beq_same true false e = sym e
beq_same false true e = e
beq_same false false e = refl

bits_equal_lem : (n : ℕ) → n < 512 → bits_equal n ≡ all_or_none n
bits_equal_lem n h = beq_same _ _ (every_at (λ n. beq (bits_equal n) (all_or_none n)) 512 n h refl)

-- the first byte, and the highest bit of the second
abbrev pub nine_bits : List ℕ → ℕ
nine_bits bytes = get_or bytes 0 0 * 2 + get_or bytes 1 0 / 128

module _ (bytes : List ℕ) (first : get_or bytes 0 0 < 256) (second : get_or bytes 1 0 < 256) where
  bit_nine : (i : ℕ) → i < 9 → bit_at bytes i ≡ nine_bits bytes / 2 ^ (8 - i) % 2
  bit_nine i h = ⊎_elim last before (eq-or-lt_of_le (le_of_suc-le-suc h))
    where
      last : i ≡ 8 → bit_at bytes i ≡ nine_bits bytes / 2 ^ (8 - i) % 2
      last e = rw e (omega arith)

      before : i < 8 → bit_at bytes i ≡ nine_bits bytes / 2 ^ (8 - i) % 2
      before l =
          let q : i / 8 ≡ 0 = omega arith in
          let r : i % 8 ≡ i = omega arith in
          let k : 8 - i ≡ 1 + (7 - i) = omega arith in
          let t : nine_bits bytes / 2 ^ 1 ≡ get_or bytes 0 0 = omega arith in
          rw (q, r, k, ← shr-shr (nine_bits bytes) 1 (7 - i), t)

  -- padded is: more than one byte, and the first nine bits all 0 or all 1
  pub padded_nine : is_padded bytes ≡ (ltb 1 (length bytes) && all_or_none (nine_bits bytes))
  padded_nine =
      let n = nine_bits bytes in
      let l : n < 512 = omega arith in
      ap (λ (b : Bool). ltb 1 (length bytes) && b)
      (every-same (λ i. eqb (bit_at bytes i) (bit_at bytes 0)) (λ i. eqb (n / 2 ^ (8 - i) % 2) (n / 2 ^ 8 % 2)) 9
      (λ i h. ap₂ eqb (bit_nine i h) (bit_nine 0 (omega arith)))
      ∙ bits_equal_lem n l)
