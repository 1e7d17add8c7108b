-- What a packet holds, well-formed runs and their residues (document 01, "Packets").
-- Assumes nothing.
use Rattle.std.specs.Prelude.{Bool, true, false, not, cond, ◌&&◌, List, [], ◌∷◌, ◌++◌, ℕ, ◌/◌, ◌%◌, ◌^◌, ltb, eqb, length}
use Rattle.laws.specs.Digits.{digits, all_below}
use Rattle.residues.specs.Alphabets.{is_amino, code_limit}

-- Bit 31 ends a run.
abbrev pub ends_run : ℕ → Bool
ends_run packet = eqb (packet / 2 ^ 31 % 2) 1

-- Bit 30 set means six 5-bit codes, clear means fifteen 2-bit codes.
abbrev pub is_five_bit : ℕ → Bool
is_five_bit packet = eqb (packet / 2 ^ 30 % 2) 1

-- The codes of a packet from bit 29 down, with those that are 31.
unfoldable pub codes_in : ℕ → List ℕ
codes_in packet = cond (is_five_bit packet) (digits 5 6 packet) (digits 2 15 packet)

-- The codes before the first 31.
unfoldable pub before_fill : List ℕ → List ℕ
before_fill [] = []
before_fill (c ∷ codes) = cond (eqb c 31) [] (c ∷ before_fill codes)

-- The residues of a packet: its 5-bit codes before the first 31, or all its fifteen 2-bit codes.
unfoldable pub residues : ℕ → List ℕ
residues packet = cond (is_five_bit packet) (before_fill (digits 5 6 packet)) (digits 2 15 packet)

-- The packet has a residue.
abbrev pub has_residues : ℕ → Bool
has_residues packet = ltb 0 (length (residues packet))

-- Every code is 31.
unfoldable pub only_fill : List ℕ → Bool
only_fill [] = true
only_fill (c ∷ codes) = eqb c 31 && only_fill codes

-- Every code is valid, and 31 stands only as a tail.
unfoldable pub valid_tailed : ℕ → List ℕ → Bool
valid_tailed limit [] = true
valid_tailed limit (c ∷ codes) = cond (eqb c 31) (only_fill codes) (ltb c limit && valid_tailed limit codes)

-- A packet of a run before its last: no bit 31, bit 30 for amino, every code valid and none 31.
unfoldable pub inner : ℕ → ℕ → Bool
inner alphabet packet =
    not (ends_run packet) && cond (is_five_bit packet) (all_below (code_limit alphabet) (digits 5 6 packet)) (not (is_amino alphabet))

-- The last packet of a run: bit 31, bit 30 for amino, every code valid and 31 only as a tail.
unfoldable pub final : ℕ → ℕ → Bool
final alphabet packet =
    ends_run packet && cond (is_five_bit packet) (valid_tailed (code_limit alphabet) (digits 5 6 packet)) (not (is_amino alphabet))

-- A run, or what follows its first packets: a packet without residues stands only as the whole run.
unfoldable pub formed : ℕ → Bool → List ℕ → Bool
formed alphabet whole [] = false
formed alphabet whole (p ∷ []) = final alphabet p && cond whole true (has_residues p)
formed alphabet whole (p ∷ q ∷ packets) = inner alphabet p && formed alphabet false (q ∷ packets)

-- A well-formed run. specs/Rules.antt has its rules one by one, and proofs/Rules.antt that they say the same.
unfoldable pub well_formed : ℕ → List ℕ → Bool
well_formed alphabet packets = formed alphabet true packets

-- The residues of a run.
unfoldable pub unpacked : List ℕ → List ℕ
unpacked [] = []
unpacked (p ∷ packets) = residues p ++ unpacked packets
