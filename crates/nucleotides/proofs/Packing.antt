-- Two-bit bytes: the base of a code, and the byte of four. Assumes nothing.
use mathlib.Core.Path.{◌≡◌, refl, ap, ◌∙◌}
use mathlib.Core.List.{List, [], ◌∷◌}
use Prim.Native.Nat.{ℕ, ◌+◌, ◌*◌, ◌/◌, ◌%◌, ◌≤◌, ◌<◌}
use native.Mathlib.Nat.{add-zero}
use native.Mathlib.Omega.{arith}
use lib.Arith.{digits_mod}
use lib.Count.{count_trailing_zeros}
use lib.Dec.{eqb, ltb, lit<}
use lib.ListN.{length, get_or-eq_default}
use borrow.Author.Tests.{ltb-true, ltb-false, eqb-true}
use Rattle.laws.specs.Digits.{value}
use Rattle.laws.proofs.Places.{every_at}
use Rattle.laws.proofs.Tests.{bool_cases}
use Rattle.residues.specs.Tables.{ambiguity_value, ambiguity_values}
use Rattle.nucleotides.specs.TwoBit.{placeholder, placeholder_at, two_bit_byte}

-- ---- the base of a code

pub placeholder-small : (code : ℕ) → placeholder code < 4
unfolding placeholder count_trailing_zeros
placeholder-small code =
    bool_cases (ltb code 16) (λ e. ltb-true _ _ (every_at (λ k. ltb (placeholder k) 4) 16 code (ltb-true code 16 e) refl))
    (λ e. rw (get_or-eq_default ambiguity_values 0 (ltb-false code 16 e)) (lit< tt))

-- a base stands for itself
pub placeholder-plain : (code : ℕ) → code < 4 → placeholder code ≡ code
unfolding placeholder count_trailing_zeros
placeholder-plain code h = eqb-true _ _ (every_at (λ k. eqb (placeholder k) k) 4 code h refl)

-- '-' has no bit
pub placeholder-none : (code : ℕ) → ambiguity_value code ≡ 0 → 0 ≡ placeholder code
unfolding placeholder
placeholder-none code e = rw e

-- with bit 4 set above the value, '-' comes round to A
pub placeholder-is : (code : ℕ) → count_trailing_zeros 32 (ambiguity_value code + 16) % 4 ≡ placeholder code
unfolding placeholder count_trailing_zeros
placeholder-is code =
    bool_cases (ltb code 16)
    (λ e. eqb-true _ _ (every_at (λ k. eqb (count_trailing_zeros 32 (ambiguity_value k + 16) % 4) (placeholder k)) 16 code (ltb-true code 16 e) refl))
    (λ e. rw (get_or-eq_default ambiguity_values 0 (ltb-false code 16 e)))

-- no bit is set behind the last code
pub behind-zero : (codes : List ℕ) (k : ℕ) → length codes ≤ k → placeholder_at codes k ≡ 0
behind-zero codes k h = ap placeholder (get_or-eq_default codes 0 h) ∙ placeholder-plain 0 (lit< tt)

-- ---- the byte of four

-- the product has the byte in bits 24 to 31
pub four_packed : (a b c d : ℕ) → a < 4 → b < 4 → c < 4 → d < 4
    → (a + b * 256 + c * 65536 + d * 16777216) * 1074791425 / 16777216 % 256 ≡ value 2 0 (a ∷ b ∷ c ∷ d ∷ [])
unfolding value
four_packed a b c d ha hb hc hd =
    let product = (a + b * 256 + c * 65536 + d * 16777216) * 1074791425 in
    let above = b * 64 + c * 16400 + d * 4198404 in
    let byte = a * 64 + b * 16 + c * 4 + d in
    let quotient : product / 16777216 ≡ above * 256 + byte = omega arith in
    ap (λ (x : ℕ). x % 256) quotient ∙ digits_mod above (omega arith) ∙ omega arith

-- byte m by the bases at its places
pub byte_of : (codes : List ℕ) (m : ℕ) {a b c d : ℕ} → a ≡ placeholder_at codes (4 * m) → b ≡ placeholder_at codes (4 * m + 1)
    → c ≡ placeholder_at codes (4 * m + 2) → d ≡ placeholder_at codes (4 * m + 3) → value 2 0 (a ∷ b ∷ c ∷ d ∷ []) ≡ two_bit_byte codes m
unfolding two_bit_byte
byte_of codes m e f g h = rw (e, f, g, h, add-zero)

-- three bases, and a count below 4 in the bits that they leave
pub last-small : (a b c n : ℕ) → a < 4 → b < 4 → c < 4 → n < 4 → value 2 0 (a ∷ b ∷ c ∷ 0 ∷ []) + n < 256
unfolding value
last-small a b c n ha hb hc hn = omega arith
