-- What is promised of the integers of header records (request 2026-06): a number is written by one element and no other, and every number of 64 bits by
-- one. So where records are compared by their bytes, their numbers are told apart rightly. Assumes nothing.
use Rattle.std.specs.Prelude.{Err, Ok}
use mathlib.Core.Path.{◌≡◌, refl, sym, ap, ap₂, ◌∙◌}
use mathlib.Core.Bool.{true}
use mathlib.Core.List.{List, [], ◌∷◌}
use Prim.Native.Nat.{ℕ, ◌+◌, ◌-◌}
use native.Mathlib.Omega.{arith}
use borrow.Author.Tests.{leb-true}
use lib.IntN.{ℤ, pos, negsuc}
use lib.ListN.{length, get_or, drop}
use lib.Seq.{take_all}
use lib.Signed.{◌≤ℤ◌}
use mir.Syntax.{w64}
use mir.Val.{SFits}
use Rattle.laws.specs.Digits.{value, all_below}
use Rattle.laws.proofs.Digits.{below-cons}
use Rattle.laws.proofs.Tests.{T_true}
use Rattle.answers.specs.declared.Refusal.TheVariants.{BadHeader}
use Rattle.elements.specs.Parts.{bytes_of, integer_allowed, integer_part, integer_at}
use Rattle.elements.specs.Statement.{IntegerElement}
use Rattle.elements.specs.Written.{integer_written}
use Rattle.elements.specs.Shortest.{twos_complement}
use Rattle.elements.proofs.Refusals.{integer_found}
use Rattle.elements.proofs.Shortest.{allowed_same, allowed_for, integer_bytes, element_bytes, element_length, element_number_lem, element_below, element_of}

-- ---- one element for a number

module _ {s t : List ℕ} {p m q n : ℕ} (i : IntegerElement s p m) (j : IntegerElement t q n) where
  -- Two integer elements that write the same number have the same bytes.
  pub same-number-bytes : all_below 256 s ≡ true → all_below 256 t ≡ true → integer_written i ≡ integer_written j → bytes_of s p (m - p) ≡ bytes_of t q (n - q)
  same-number-bytes a b e =
      let w : integer_bytes i ≡ integer_bytes j =
      allowed_same (integer_bytes i) (integer_bytes j) (element_below i a) (element_below j b) i.allowed j.allowed
      (element_number_lem i ∙ e ∙ sym (element_number_lem j)) in
      let l : get_or s (p + 1) 0 ≡ get_or t (q + 1) 0 = sym (element_length i) ∙ ap length w ∙ element_length j in
      element_bytes i ∙ ap₂ (λ k xs. 2 ∷ k ∷ xs) l w ∙ sym (element_bytes j)

  -- .. and those that have the same bytes write the same number.
  pub same-bytes-number : bytes_of s p (m - p) ≡ bytes_of t q (n - q) → integer_written i ≡ integer_written j
  same-bytes-number e =
      let w : integer_bytes i ≡ integer_bytes j = ap (drop 2) (sym (element_bytes i) ∙ e ∙ element_bytes j) in
      sym (element_number_lem i) ∙ ap twos_complement w ∙ element_number_lem j

-- So has what is read as the same number at two places: 02, the length, and so many bytes.
pub read_once : (s t : List ℕ) (p q : ℕ) (z : ℤ) → all_below 256 s ≡ true → all_below 256 t ≡ true → integer_at s p ≡ Ok z → integer_at t q ≡ Ok z
    → bytes_of s p (2 + get_or s (p + 1) 0) ≡ bytes_of t q (2 + get_or t (q + 1) 0)
read_once s t p q z a b e f =
    let i = integer_found s p z e in
    let j = integer_found t q z f in
    sym (whole i.1) ∙ same-number-bytes i.1 j.1 a b (i.2 ∙ sym j.2) ∙ whole j.1
  where
    whole : {s : List ℕ} {p m : ℕ} → IntegerElement s p m → bytes_of s p (m - p) ≡ bytes_of s p (2 + get_or s (p + 1) 0)
    whole {s} {p} {m} i = let e = i.ends in let n : m - p ≡ 2 + get_or s (p + 1) 0 = omega arith in ap (λ (k : ℕ). bytes_of s p k) n

-- Every number from -2^63 up to 2^63 - 1 has an integer element.
pub every-number : (z : ℤ) → negsuc 9223372036854775807 ≤ℤ z → z ≤ℤ pos 9223372036854775807
    → (element : List ℕ) × (all_below 256 element ≡ true) × (i : IntegerElement element 0 (length element)) × (integer_written i ≡ z)
every-number z low high =
    let a = allowed_for z (in_range_lem z low high) in
    let bytes = a.0 in
    let i = element_of bytes a.2 in
    let few = a.2.few in (
      2 ∷ length bytes ∷ bytes,
      below-cons 256 2 (length bytes ∷ bytes) (omega arith) (below-cons 256 (length bytes) bytes (omega arith) a.1),
      i,
      sym (element_number_lem i) ∙ ap twos_complement (take_all (length bytes) bytes (omega arith)) ∙ a.3,
    )
  where
    in_range_lem : (z : ℤ) → negsuc 9223372036854775807 ≤ℤ z → z ≤ℤ pos 9223372036854775807 → SFits w64 z
    in_range_lem (pos k) l h = record { sfits = let b = leb-true k 9223372036854775807 (T_true _ h.le) in omega arith }
    in_range_lem (negsuc k) l h = record { sfits = let b = leb-true k 9223372036854775807 (T_true _ l.le) in omega arith }

-- ---- the request's cases, and that of a negative number: 02 02 00 05 and 02 02 FF 80 go, 02 02 00 80 stays 128, 02 01 00 stays 0, 02 02 FF 7F stays -129

pub cases_right :
    (integer_at (0x02 ∷ 0x02 ∷ 0x00 ∷ 0x05 ∷ []) 0 ≡ Err BadHeader)
    × (integer_at (0x02 ∷ 0x02 ∷ 0xFF ∷ 0x80 ∷ []) 0 ≡ Err BadHeader)
    × (integer_at (0x02 ∷ 0x02 ∷ 0x00 ∷ 0x80 ∷ []) 0 ≡ Ok (pos 128))
    × (integer_at (0x02 ∷ 0x01 ∷ 0x00 ∷ []) 0 ≡ Ok (pos 0))
    × (integer_at (0x02 ∷ 0x02 ∷ 0xFF ∷ 0x7F ∷ []) 0 ≡ Ok (negsuc 128))
unfolding integer_at integer_part integer_allowed value
cases_right = (refl, refl, refl, refl, refl)
