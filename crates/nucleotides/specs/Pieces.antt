-- The corrections of nucleic codes (request 2026-03): one for each piece of each longest stretch of one code of 4 or more.
-- Assumes nothing.
use Rattle.std.specs.Prelude.{Bool, cond, List, [], ◌∷◌, ℕ, zero, suc, ◌*◌, ◌-◌, ◌^◌, min, leb, ltb, eqb, length, drop}
use Rattle.residues.specs.Tables.{ambiguity_value}
use Rattle.sequence.specs.declared.Correction.{Correction}
use Rattle.nucleotides.specs.declared.width.Width.{Width}
use Rattle.nucleotides.specs.declared.width.Width.TheVariants.{Narrow, Wide}

-- A code of 4 or more: it is corrected.
abbrev pub is_ambiguous : ℕ → Bool
is_ambiguous code = leb 4 code

-- How many of the codes at the front are a given one.
abbrev pub same : ℕ → List ℕ → ℕ
same code [] = 0
same code (c ∷ codes) = cond (eqb c code) (suc (same code codes)) 0

-- The length of the piece that begins with a code, by the codes behind it: up to the end of its stretch, but at most the limit.
abbrev pub piece_length : ℕ → ℕ → List ℕ → ℕ
piece_length limit code behind = min limit (suc (same code behind))

-- The piece of a code from a place on.
abbrev pub piece : ℕ → ℕ → ℕ → Correction
piece code start length = record { value = ambiguity_value code; start = start; length = length }

-- The pieces of codes that stand from place k on. The first `skip` of them belong to the piece before.
unfoldable pub pieces : ℕ → ℕ → ℕ → List ℕ → List Correction
pieces limit skip k [] = []
pieces limit (suc skip) k (c ∷ codes) = pieces limit skip (suc k) codes
pieces limit zero k (c ∷ codes) =
    cond (is_ambiguous c)
    (piece c k (piece_length limit c codes) ∷ pieces limit (piece_length limit c codes - 1) (suc k) codes)
    (pieces limit zero (suc k) codes)

-- The pieces that begin at place k or behind it.
abbrev pub pieces_from : ℕ → List ℕ → ℕ → List Correction
pieces_from limit codes k = pieces limit 0 k (drop k codes)

-- Entries have 8 bytes exactly where there are more than 16,777,216 codes, and else 4.
abbrev pub most_narrow : ℕ
most_narrow = 16777216

abbrev pub width_of : ℕ → ℕ
width_of l = cond (ltb most_narrow l) 8 4

-- The bytes of an entry of a width.
abbrev pub bytes_of : Width → ℕ
bytes_of Narrow = 4
bytes_of Wide = 8

-- The most residues that an entry of w bytes corrects: 16, or 4,096.
abbrev pub most_repeat : ℕ → ℕ
most_repeat w = 2 ^ (2 * w - 4)

-- The same for a width.
abbrev pub limit_of : Width → ℕ
limit_of width = most_repeat (bytes_of width)

-- The corrections of a sequence.
abbrev pub corrections_of : List ℕ → List Correction
corrections_of codes = pieces_from (most_repeat (width_of (length codes))) codes 0
