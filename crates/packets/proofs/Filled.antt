-- The codes of the next packet, as the code adds them up. Assumes nothing.
use mathlib.Core.Path.{◌≡◌, refl, ap, ◌∙◌}
use mathlib.Core.List.{List, [], ◌∷◌, ◌++◌}
use Prim.Native.Nat.{ℕ, zero, suc, ◌+◌, ◌*◌, ◌≤◌, ◌<◌}
use native.Mathlib.Omega.{arith}
use lib.ListN.{length, take, drop, get_or}
use lib.Seq.{drop-drop, get_or-drop, take-suc}
use native.Mathlib.Nat.{add-zero}
use native.Mathlib.Numerals.{add-one}
use Rattle.laws.specs.Digits.{value}
use Rattle.laws.proofs.Numbers.{value-more}
use Rattle.packets.specs.Packing.{filled, five_bit_part}
use Rattle.packets.proofs.Packing.{filled-cons, filled_none}

-- the default does not matter within the list
pub code_inside : (cs : List ℕ) (k : ℕ) → k < length cs → get_or cs k 0 ≡ get_or cs k 31
code_inside [] k h = let z : ⊥ = omega arith in absurd z
code_inside (c ∷ cs) zero h = refl
code_inside (c ∷ cs) (suc k) h = code_inside cs k (omega arith)

filled_next : (n i : ℕ) (cs : List ℕ) → filled (suc n) (drop i cs) ≡ get_or cs i 31 ∷ filled n (drop (i + 1) cs)
filled_next n i cs = filled-cons n (drop i cs) ∙ rw (get_or-drop, drop-drop, add-zero)

pub six_filled : (cs : List ℕ) → filled 6 cs ≡ get_or cs 0 31 ∷ get_or cs 1 31 ∷ get_or cs 2 31 ∷ get_or cs 3 31 ∷ get_or cs 4 31 ∷ get_or cs 5 31 ∷ []
six_filled cs =
    rw (filled_next 5 0 cs, filled_next 4 1 cs, filled_next 3 2 cs, filled_next 2 3 cs, filled_next 1 4 cs, filled_next 0 5 cs, filled_none (drop 6 cs))

-- the next six where there are six, and fewer with 31 behind them
pub six_whole : (cs : List ℕ) → 6 ≤ length cs
    → get_or cs 0 0 ∷ get_or cs 1 0 ∷ get_or cs 2 0 ∷ get_or cs 3 0 ∷ get_or cs 4 0 ∷ get_or cs 5 0 ∷ [] ≡ filled 6 cs
six_whole cs h =
    rw (
      six_filled cs,
      code_inside cs 0 (omega arith),
      code_inside cs 1 (omega arith),
      code_inside cs 2 (omega arith),
      code_inside cs 3 (omega arith),
      code_inside cs 4 (omega arith),
      code_inside cs 5 (omega arith),
    )

filled_short : (n : ℕ) (cs : List ℕ) → length cs ≤ n → cs ++ drop (length cs) (filled n []) ≡ filled n cs
unfolding filled
filled_short n [] h = refl
filled_short zero (c ∷ cs) h = let z : ⊥ = omega arith in absurd z
filled_short (suc n) (c ∷ cs) h = ap (λ (l : List ℕ). c ∷ l) (filled_short n cs (omega arith))

pub six_short : (cs : List ℕ) → length cs < 6 → cs ++ drop (length cs) (31 ∷ 31 ∷ 31 ∷ 31 ∷ 31 ∷ 31 ∷ []) ≡ filled 6 cs
unfolding filled
six_short cs h = filled_short 6 cs (omega arith)

-- bit 30 and six codes, each at its place
module _ (cs : List ℕ) (c₀ c₁ c₂ c₃ c₄ c₅ : ℕ) (e₀ : c₀ ≡ get_or cs 0 31) (e₁ : c₁ ≡ get_or cs 1 31) (e₂ : c₂ ≡ get_or cs 2 31)
    (e₃ : c₃ ≡ get_or cs 3 31) (e₄ : c₄ ≡ get_or cs 4 31) (e₅ : c₅ ≡ get_or cs 5 31) where
  pub five_sum : 1073741824 + c₀ * 33554432 + c₁ * 1048576 + c₂ * 32768 + c₃ * 1024 + c₄ * 32 + c₅ ≡ five_bit_part cs
  unfolding value
  five_sum = rw (six_filled cs, ← e₀, ← e₁, ← e₂, ← e₃, ← e₄, ← e₅) (omega arith)

-- the same of the list of the six
pub six_sum : (cs codes : List ℕ) → codes ≡ filled 6 cs
    → 1073741824 + get_or codes 0 0 * 33554432 + get_or codes 1 0 * 1048576 + get_or codes 2 0 * 32768 + get_or codes 3 0 * 1024 + get_or codes 4 0 * 32
    + get_or codes 5 0 ≡ five_bit_part cs
unfolding value
six_sum cs codes e = rw (e, six_filled cs) (omega arith)

-- ---- the 2-bit codes, one by one

-- one code more
pub two_more : (j : ℕ) (cs : List ℕ) → j < length cs → value 2 0 (take (j + 1) cs) ≡ value 2 0 (take j cs) * 4 + get_or cs j 0
two_more j cs h = rw (add-one j, take-suc cs j 0 h) (value-more 2 0 (take j cs) (get_or cs j 0))

pub two_none : (cs : List ℕ) → value 2 0 (take 0 cs) ≡ 0
unfolding value
two_none cs = refl
