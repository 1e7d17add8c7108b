-- What request 2026-03 says of the two-bit bytes and of the corrections of nucleic codes, rule by rule, in plain statements.
-- proofs/Plain.antt and proofs/PlainBytes.antt show that what is written meets them, and that nothing else does.
-- Assumes nothing.
use Rattle.std.specs.Prelude.{◌≡◌, List, ◌⊎◌, ℕ, ◌+◌, ◌*◌, ◌-◌, ◌/◌, ◌%◌, ◌^◌, ◌≤◌, ◌<◌, length, get_or}
use Rattle.residues.specs.Tables.{ambiguity_value}
use Rattle.sequence.specs.declared.Correction.{Correction}
use Rattle.sequence.specs.Bases.{base_at}
use Rattle.sequence.specs.Corrections.{correction_in, correction_end, Apart, EndWithin}
use Rattle.nucleotides.specs.TwoBit.{placeholder}
use Rattle.nucleotides.specs.Scan.{code_at}

-- ---- two-bit bytes

-- The base that stands for a code.
pub data PlaceholderHolds (code base : ℕ) : Type 0 where
  -- '-' has no bit set: A
  gap : ambiguity_value code ≡ 0 → base ≡ 0 → PlaceholderHolds code base
  -- of another code the lowest set bit: the base's own bit is set, and no lower one is
  lowest : ambiguity_value code / 2 ^ base % 2 ≡ 1 → ((b : ℕ) → b < base → ambiguity_value code / 2 ^ b % 2 ≡ 0) → PlaceholderHolds code base

-- The two-bit bytes of codes; L is their count.
pub record TwoBitHolds (codes bytes : List ℕ) : Type 0 where
  -- L / 4 + 1 bytes
  pub size : length bytes ≡ length codes / 4 + 1
  pub small : (m : ℕ) → m < length bytes → get_or bytes m 0 < 256
  -- each code's base, four to a byte, the first highest
  pub bases : (k : ℕ) → k < length codes → base_at bytes 0 k ≡ placeholder (code_at codes k)
  -- unused bits are zero
  pub unused : (k : ℕ) → length codes ≤ k → k < 4 * (length codes / 4) + 3 → base_at bytes 0 k ≡ 0
  -- the low two bits of the last byte are L mod 4
  pub last : get_or bytes (length codes / 4) 0 % 4 ≡ length codes % 4

-- ---- corrections

-- Every place from one up to an end has a code.
abbrev pub HaveCode : List ℕ → ℕ → ℕ → ℕ → Type 0
HaveCode codes code from end = (k : ℕ) → from ≤ k → k < end → code_at codes k ≡ code

-- Pieces are cut from the front of a longest stretch: so many whole pieces stand between the stretch's first place and a piece's start.
pub record CutFromFront (limit : ℕ) (codes : List ℕ) (start : ℕ) : Type 0 where
  pub first : ℕ
  pub before : ℕ
  pub cut : first + limit * before ≡ start
  -- the stretch goes on from its first place to the start
  pub one : HaveCode codes (code_at codes start) first start
  -- and does not begin earlier
  pub begins : (first ≡ 0) ⊎ (code_at codes (first - 1) ≡ code_at codes start → ⊥)

-- A correction is a piece of a longest stretch of one code of 4 or more.
pub record PieceHolds (limit : ℕ) (codes : List ℕ) (c : Correction) : Type 0 where
  pub code : 4 ≤ code_at codes c.start
  pub value : c.value ≡ ambiguity_value (code_at codes c.start)
  pub one : HaveCode codes (code_at codes c.start) c.start (correction_end c)
  pub some : 0 < c.length
  pub most : c.length ≤ limit
  -- it goes on to the limit, or to the end of the stretch
  pub whole : (c.length ≡ limit) ⊎ ((correction_end c ≡ length codes) ⊎ (code_at codes (correction_end c) ≡ code_at codes c.start → ⊥))
  pub front : CutFromFront limit codes c.start

-- A correction of the list covers a place.
pub record Covered (corrections : List Correction) (k : ℕ) : Type 0 where
  pub number : ℕ
  pub within : number < length corrections
  pub from : (correction_in corrections number).start ≤ k
  pub below : k < correction_end (correction_in corrections number)

-- The corrections of codes, each of at most `limit` residues.
pub record PiecesHold (limit : ℕ) (codes : List ℕ) (corrections : List Correction) : Type 0 where
  pub each : (j : ℕ) → j < length corrections → PieceHolds limit codes (correction_in corrections j)
  pub within : EndWithin corrections (length codes)
  -- they stand in order, and no two cover one place
  pub apart : Apart corrections
  -- every place with a code of 4 or more is covered
  pub all : (k : ℕ) → k < length codes → 4 ≤ code_at codes k → Covered corrections k
