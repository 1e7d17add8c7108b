-- How far a scan of the codes is: private contracts alone cite these.
-- Assumes nothing.
use Rattle.std.specs.Prelude.{◌≡◌, cond, List, ◌⊎◌, ℕ, ◌+◌, ◌-◌, ◌≤◌, eqb, length, drop, get_or}
use Rattle.laws.specs.Places.{list_to, sum_to}
use Rattle.nucleotides.specs.TwoBit.{two_bit_byte}
use Rattle.nucleotides.specs.Pieces.{is_ambiguous, pieces_from}

-- Code k; 0 behind the last.
abbrev pub code_at : List ℕ → ℕ → ℕ
code_at codes k = get_or codes k 0

-- Of the pieces from place k on, n were met; the others are those from place `next` on.
pub record Met (limit : ℕ) (codes : List ℕ) (k n next : ℕ) : Type 0 where
  pub inside : next ≤ length codes
  pub some : n ≤ length (pieces_from limit codes k)
  pub others : drop n (pieces_from limit codes k) ≡ pieces_from limit codes next

-- n of the two-bit bytes, from byte m on.
abbrev pub bytes_from : List ℕ → ℕ → ℕ → List ℕ
bytes_from codes m n = list_to (λ j. two_bit_byte codes (m + j)) n

-- 1 at a code of 4 or more, else 0.
abbrev pub ambiguous : ℕ → ℕ
ambiguous code = cond (is_ambiguous code) 1 0

-- The same, but 0 at a code that is the one before.
abbrev pub begun : ℕ → ℕ → ℕ
begun before code = cond (eqb before code) 0 (ambiguous code)

-- The sums over the n codes behind place k.
abbrev pub ambiguous_in : List ℕ → ℕ → ℕ → ℕ
ambiguous_in codes k n = sum_to (λ i. ambiguous (code_at codes (k + i + 1))) n

abbrev pub begun_in : List ℕ → ℕ → ℕ → ℕ
begun_in codes k n = sum_to (λ i. begun (code_at codes (k + i)) (code_at codes (k + i + 1))) n

-- Of the codes from place k on, those from s to p are one code, and none before s continues them.
pub record Stretch (codes : List ℕ) (k s p : ℕ) : Type 0 where
  pub behind : k ≤ s
  pub before : s ≤ p
  pub one : (i : ℕ) → s ≤ i → i ≤ p → code_at codes i ≡ code_at codes p
  pub front : (s ≡ k) ⊎ (code_at codes (s - 1) ≡ code_at codes p → ⊥)
