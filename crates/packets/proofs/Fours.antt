-- The 2-bit codes of a packet, four at once as the bytes of a number. Assumes nothing.
use mathlib.Core.Path.{◌≡◌, refl, sym, ap, ◌∙◌}
use mathlib.Core.Bool.{Bool, true, ◌&&◌}
use mathlib.Core.List.{List, [], ◌∷◌, ◌++◌}
use Prim.Native.Nat.{ℕ, ◌+◌, ◌*◌, ◌/◌, ◌%◌, ◌^◌, ◌≤◌, ◌<◌}
use native.Mathlib.Omega.{arith}
use borrow.Author.Tests.{eqb-true}
use lib.Dec.{eqb}
use lib.Bits.{bit_and, and_mod, and_shr, and_mask}
use lib.ListN.{length, take}
use Rattle.laws.specs.Digits.{digits}
use Rattle.laws.specs.Places.{every}
use Rattle.laws.specs.Writing.{written_at}
use Rattle.laws.proofs.Digits.{length_digits, digits_split, take-digits}
use Rattle.laws.proofs.Numbers.{digits_low}
use Rattle.laws.proofs.Places.{every_at}
use Rattle.laws.proofs.Tests.{both_pass}
use Rattle.laws.proofs.Writing.{length_written, written_over}
use Rattle.fields.specs.Number.{little}
use Rattle.fields.specs.Written.{little_bytes, number_put}
use Rattle.fields.proofs.Laws.{put_fits, length-little}

-- ---- the four codes of a byte

-- a mask with 3 in a byte leaves two bits of it
masked_low : (x m : ℕ) → m % 256 ≡ 3 → bit_and x m % 256 ≡ x % 4
masked_low x m h =
    let e : x % 256 % 4 ≡ x % 4 = omega arith in
    and_mod x m 8 ∙ (ap (λ (n : ℕ). bit_and (x % 256) n) h ∙ (and_mask (x % 256) 2 ∙ e))

masked_rest : (x m : ℕ) → bit_and x m / 256 ≡ bit_and (x / 256) (m / 256)
masked_rest x m = and_shr x m 8

masked_bytes : (x : ℕ) → little_bytes 4 (bit_and x 0x03030303) ≡ x % 4 ∷ x / 256 % 4 ∷ x / 65536 % 4 ∷ x / 16777216 % 4 ∷ []
masked_bytes x =
    let a : x / 256 / 256 ≡ x / 65536 = omega arith in
    let b : x / 65536 / 256 ≡ x / 16777216 = omega arith in
    rw (
      masked_rest x 0x03030303,
      masked_rest (x / 256) 197379,
      masked_rest (x / 256 / 256) 771,
      masked_low x 0x03030303,
      masked_low (x / 256) 197379,
      masked_low (x / 256 / 256) 771,
      masked_low (x / 256 / 256 / 256) 3,
      a,
      b,
    )

-- the product moves each code of a byte to its byte of the number: every byte is tried
moved : ℕ → Bool
moved b =
    let x = b * 0x100401004 / 256 in
    eqb (x % 4) (b / 64 % 4) && (eqb (x / 256 % 4) (b / 16 % 4) && (eqb (x / 65536 % 4) (b / 4 % 4) && eqb (x / 16777216 % 4) (b / 1 % 4)))

all_moved : every moved 256 ≡ true
unfolding moved
all_moved = refl

pub four_codes : (b : ℕ) → b < 256 → little_bytes 4 (bit_and (b * 0x100401004 / 256) 0x03030303) ≡ digits 2 4 b
unfolding digits moved
four_codes b h =
    let p = both_pass _ _ (every_at moved 256 b h all_moved) in
    let q = both_pass _ _ p.1 in
    let r = both_pass _ _ q.1 in
    let x = b * 0x100401004 / 256 in
    let e₀ : x % 4 ≡ b / 64 % 4 = eqb-true _ _ p.0 in
    let e₁ : x / 256 % 4 ≡ b / 16 % 4 = eqb-true _ _ q.0 in
    let e₂ : x / 65536 % 4 ≡ b / 4 % 4 = eqb-true _ _ r.0 in
    let e₃ : x / 16777216 % 4 ≡ b / 1 % 4 = eqb-true _ _ r.1 in
    masked_bytes x ∙ rw (e₀, e₁, e₂, e₃)

-- ---- all codes of a packet

-- the first i of the codes so far, and four more
over : (i j p q : ℕ) → q / 2 ^ (2 * j) ≡ p / 256 → take i (digits 2 (i + j) q) ++ digits 2 4 p ≡ digits 2 (i + 4) p
over i j p q e = ap (λ (l : List ℕ). l ++ digits 2 4 p) (take-digits 2 i j q ∙ ap (digits 2 i) e) ∙ sym (digits_split 2 i 4 p)

module _ (at : ℕ) (out : List ℕ) where
  -- four bytes over the end of what was written, from its element i on
  put_over : (i n p : ℕ) (xs : List ℕ) → little_bytes 4 n ≡ digits 2 4 (p % 256) → i ≤ length xs → length xs ≤ i + 4 → at + i + 4 ≤ length out
      → number_put little 4 (at + i) n (written_at at xs out) ≡ written_at at (take i xs ++ digits 2 4 p) out
  put_over i n p xs e h l r =
      let b = length-little 4 n in
      let w : length (written_at at xs out) ≡ length out = length_written at xs out (omega arith) in
      put_fits little 4 (at + i) n (written_at at xs out) (omega arith)
      ∙ written_over at i xs (little_bytes 4 n) out h (omega arith) (omega arith)
      ∙ ap (λ (l : List ℕ). written_at at (take i xs ++ l) out) (e ∙ digits_low 2 4 p)

  -- The fifteen codes: twelve, and then the last four, of which the first was there.
  pub fours_written : (p a b c d : ℕ) → at + 15 ≤ length out → little_bytes 4 a ≡ digits 2 4 (p / 4194304 % 256) → little_bytes 4 b ≡ digits 2 4 (p / 16384 % 256)
      → little_bytes 4 c ≡ digits 2 4 (p / 64 % 256) → little_bytes 4 d ≡ digits 2 4 (p % 256)
      → number_put little 4 (at + 11) d (number_put little 4 (at + 8) c (number_put little 4 (at + 4) b (number_put little 4 at a out)))
      ≡ written_at at (digits 2 15 p) out
  fours_written p a b c d h ea eb ec ed =
      let q = p / 4194304 in
      let s = p / 16384 in
      let t = p / 64 in
      let first : number_put little 4 at a out ≡ written_at at (digits 2 4 q) out =
      put_fits little 4 at a out (omega arith) ∙ ap (λ (l : List ℕ). written_at at l out) (ea ∙ digits_low 2 4 q) in
      let eight : number_put little 4 (at + 4) b (written_at at (digits 2 4 q) out) ≡ written_at at (digits 2 8 s) out =
      put_over 4 b s (digits 2 4 q) eb (omega (arith, length_digits 2 4 q)) (omega (arith, length_digits 2 4 q)) (omega arith)
      ∙ ap (λ (l : List ℕ). written_at at l out) (over 4 0 s q (omega arith)) in
      let twelve : number_put little 4 (at + 8) c (written_at at (digits 2 8 s) out) ≡ written_at at (digits 2 12 t) out =
      put_over 8 c t (digits 2 8 s) ec (omega (arith, length_digits 2 8 s)) (omega (arith, length_digits 2 8 s)) (omega arith)
      ∙ ap (λ (l : List ℕ). written_at at l out) (over 8 0 t s (omega arith)) in
      let all : number_put little 4 (at + 11) d (written_at at (digits 2 12 t) out) ≡ written_at at (digits 2 15 p) out =
      put_over 11 d p (digits 2 12 t) ed (omega (arith, length_digits 2 12 t)) (omega (arith, length_digits 2 12 t)) (omega arith)
      ∙ ap (λ (l : List ℕ). written_at at l out) (over 11 1 p t (omega arith)) in
      ap (λ (l : List ℕ). number_put little 4 (at + 11) d (number_put little 4 (at + 8) c (number_put little 4 (at + 4) b l))) first
      ∙ ap (λ (l : List ℕ). number_put little 4 (at + 11) d (number_put little 4 (at + 8) c l)) eight
      ∙ ap (λ (l : List ℕ). number_put little 4 (at + 11) d l) twelve
      ∙ all
