-- A well-formed run, rule by rule as document 01 words them.
-- Assumes nothing.
use Rattle.std.specs.Prelude.{◌≡◌, ◌⊎◌, List, ℕ, ◌+◌, ◌*◌, ◌-◌, ◌/◌, ◌%◌, ◌^◌, ◌<◌, length, get_or}
use Rattle.residues.specs.Alphabets.{code_limit}

-- A bit of a packet is set.
abbrev pub Bit : ℕ → ℕ → Type 0
Bit k packet = packet / 2 ^ k % 2 ≡ 1

-- Code j of a 5-bit packet, from bit 29 down.
abbrev pub five_bit_code : ℕ → ℕ → ℕ
five_bit_code packet j = packet / 2 ^ (5 * (5 - j)) % 32

pub record WellFormed (alphabet : ℕ) (packets : List ℕ) : Type 0 where
  -- it has a packet
  pub has_packet : 0 < length packets
  -- bit 31 in the last only
  pub last_ends : (k : ℕ) → k + 1 ≡ length packets → Bit 31 (get_or packets k 0)
  pub others_go_on : (k : ℕ) → k + 1 < length packets → Bit 31 (get_or packets k 0) → ⊥
  -- bit 30 in all for amino
  pub amino_five_bit : alphabet ≡ 3 → (k : ℕ) → k < length packets → Bit 30 (get_or packets k 0)
  -- every code valid: each that is not 31
  pub codes_valid : (k j : ℕ) → k < length packets → Bit 30 (get_or packets k 0) → j < 6
      → (five_bit_code (get_or packets k 0) j < code_limit alphabet) ⊎ (five_bit_code (get_or packets k 0) j ≡ 31)
  -- 31 only in the last packet, and there only as a tail
  pub fill_last : (k j : ℕ) → k < length packets → Bit 30 (get_or packets k 0) → j < 6 → five_bit_code (get_or packets k 0) j ≡ 31 → k + 1 ≡ length packets
  pub fill_tail : (k i j : ℕ) → k < length packets → Bit 30 (get_or packets k 0) → i < j → j < 6
      → five_bit_code (get_or packets k 0) i ≡ 31 → five_bit_code (get_or packets k 0) j ≡ 31
  -- a packet without residues only as the whole run
  pub none_whole : (k : ℕ) → k < length packets → Bit 30 (get_or packets k 0) → five_bit_code (get_or packets k 0) 0 ≡ 31 → length packets ≡ 1
