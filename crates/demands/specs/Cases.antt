-- The marked cases of document 01's table: one list, one statement of what is right.
-- Assumes nothing.
use Rattle.std.specs.Prelude.{◌≡◌, List, [], ◌∷◌, ℕ, ℤ, pos, negsuc, length, replicate, Ok}
use Rattle.answers.specs.Limits.{checked_by}
use Rattle.packets.specs.Packing.{run}
use Rattle.volume.specs.Tables.{two_bit_length}
use Rattle.sequence.specs.Bases.{two_bit_residues}
use Rattle.sequence.specs.Corrections.{range_rules, range_corrections, corrected}
use Rattle.elements.specs.Parts.{integer_at}

-- A case: some codes packed in an alphabet give these packets; two-bit bytes are these residues; an ambiguity range over some residues gives
-- these; an integer element of a header record is this number.
pub data Case : Type 0 where
  packs : ℕ → List ℕ → List ℕ → Case
  reads : List ℕ → List ℕ → Case
  corrects : List ℕ → List ℕ → List ℕ → Case
  counts : List ℕ → ℤ → Case

-- What a case says.
abbrev pub Right : Case → Type 0
Right (packs alphabet codes packets) = run alphabet codes ≡ packets
Right (reads bytes residues) = two_bit_residues bytes 0 (two_bit_length bytes 0 (length bytes)) ≡ residues
Right (corrects range residues result) =
    (checked_by (range_rules range 0 (length range) (length residues)) ≡ Ok tt)
    × (corrected (range_corrections range 0 (length range)) residues ≡ result)
Right (counts element number) = integer_at element 0 ≡ Ok number

-- Every case of a list is right.
abbrev pub AllRight : List Case → Type 0
AllRight [] = Unit
AllRight (c ∷ cases) = Right c × AllRight cases

-- The cases marked T.
abbrev pub table : List Case
table =
    -- DNA ACGT is C0110FFF
    packs 2 (0 ∷ 1 ∷ 2 ∷ 3 ∷ []) (0xC0110FFF ∷ [])
    -- no residues, FFFFFFFF
    ∷ packs 2 [] (0xFFFFFFFF ∷ [])
    -- 15 A's, 80000000; 15 T's, BFFFFFFF
    ∷ packs 2 (replicate 15 0) (0x80000000 ∷ [])
    ∷ packs 2 (replicate 15 3) (0xBFFFFFFF ∷ [])
    -- 16 A's, 00000000 C1FFFFFF
    ∷ packs 2 (replicate 16 0) (0x00000000 ∷ 0xC1FFFFFF ∷ [])
    -- amino MK, D48FFFFF
    ∷ packs 3 (10 ∷ 8 ∷ []) (0xD48FFFFF ∷ [])
    -- seven amino A's, 40000000 C1FFFFFF
    ∷ packs 3 (replicate 7 0) (0x40000000 ∷ 0xC1FFFFFF ∷ [])
    -- two-bit 1B is ACG, 1B 00 is ACGT, 00 is empty
    ∷ reads (0x1B ∷ []) (0 ∷ 1 ∷ 2 ∷ [])
    ∷ reads (0x1B ∷ 0x00 ∷ []) (0 ∷ 1 ∷ 2 ∷ 3 ∷ [])
    ∷ reads (0x00 ∷ []) []
    -- 00000001 F0000001 over ACGT gives ANGT; 80000002 F0000000 00000001 the same
    ∷ corrects (0x00 ∷ 0x00 ∷ 0x00 ∷ 0x01 ∷ 0xF0 ∷ 0x00 ∷ 0x00 ∷ 0x01 ∷ []) (0 ∷ 1 ∷ 2 ∷ 3 ∷ []) (0 ∷ 15 ∷ 2 ∷ 3 ∷ [])
    ∷ corrects (0x80 ∷ 0x00 ∷ 0x00 ∷ 0x02 ∷ 0xF0 ∷ 0x00 ∷ 0x00 ∷ 0x00 ∷ 0x00 ∷ 0x00 ∷ 0x00 ∷ 0x01 ∷ []) (0 ∷ 1 ∷ 2 ∷ 3 ∷ []) (0 ∷ 15 ∷ 2 ∷ 3 ∷ [])
    -- 02 01 FF is -1; 02 02 00 80 is 128
    ∷ counts (0x02 ∷ 0x01 ∷ 0xFF ∷ []) (negsuc 0)
    ∷ counts (0x02 ∷ 0x02 ∷ 0x00 ∷ 0x80 ∷ []) (pos 128)
    ∷ []
