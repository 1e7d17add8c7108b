-- The codes of a packet written into a lent range.
-- Assumes nothing.
use Rattle.std.specs.Prelude.{cond, List, [], ◌++◌, ℕ, zero, suc, ◌+◌, leb, length, get_or}
use Rattle.laws.specs.Writing.{written_at}
use Rattle.packets.specs.Runs.{codes_in, residues}

-- Some codes from a place of a range on; as it was where they do not fit.
abbrev pub put_at : List ℕ → ℕ → List ℕ → List ℕ
put_at codes at range = cond (leb (at + length codes) (length range)) (written_at at codes range) range

-- All codes of a packet, those that are 31 among them.
unfoldable pub codes_put : ℕ → ℕ → List ℕ → List ℕ
codes_put packet at range = put_at (codes_in packet) at range

-- The residues of a packet.
unfoldable pub residues_put : ℕ → ℕ → List ℕ → List ℕ
residues_put packet at range = put_at (residues packet) at range

-- The codes of n packets from a place on, one behind another, those that are 31 among them.
unfoldable pub codes_from : List ℕ → ℕ → ℕ → List ℕ
codes_from packets from zero = []
codes_from packets from (suc n) = codes_from packets from n ++ codes_in (get_or packets (from + n) 0)
