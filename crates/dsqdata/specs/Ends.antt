-- The ends of a set's metadata records and runs (document 01, "A dsqdata set"). `table` is where a table of ends begins in the index.
-- Assumes nothing.
use Rattle.std.specs.Prelude.{Bool, List, ℕ, zero, suc, ◌+◌, ◌*◌, eqb, ℤ, negsuc, length}
use Rattle.std.specs.Int.Signed.{lt_z}
use Rattle.laws.specs.Places.{list_to}
use Rattle.fields.specs.declared.Order.{Order}
use Rattle.fields.specs.Number.{signed_at}
use Rattle.packets.specs.Runs.{unpacked}
use Rattle.packets.specs.Ends.{after, between}
use Rattle.dsqdata.specs.Header.{count_of, body_of}

-- After the index's 52 bytes stand, per sequence, two signed 8-byte ends: the metadata's, then the packets'.
abbrev pub metadata_table : ℕ
metadata_table = 52

abbrev pub packet_table : ℕ
packet_table = 60

module _ (order : Order) where
  -- The end before number k of a table, which is the end of number k - 1; before the first stands -1.
  unfoldable pub end_before : List ℕ → ℕ → ℕ → ℤ
  end_before index table zero = negsuc 0
  end_before index table (suc k) = signed_at order 8 index (table + 16 * k)

  -- Each end rises: the end of number k is above the one before.
  abbrev pub rises_at : List ℕ → ℕ → ℕ → Bool
  rises_at index table k = lt_z (end_before index table k) (end_before index table (suc k))

  -- The last of n ends is the last of `size` places: the place after it is `size`. With none, -1 stands there and no place is left.
  abbrev pub meets_end : List ℕ → ℕ → ℕ → ℕ → Bool
  meets_end index table n size = eqb (after (end_before index table n)) size

  -- The packet ends of a set, as the index has them.
  abbrev pub packet_ends : List ℕ → List ℤ
  packet_ends index = list_to (λ k. end_before index packet_table (suc k)) (count_of order index)

  -- The run of number k: the packets after the end before, up to and with its own end.
  unfoldable pub run_at : List ℕ → List ℕ → ℕ → List ℕ
  run_at index sequence k = between (body_of order sequence) (end_before index packet_table k) (end_before index packet_table (suc k))

  -- The length of sequence k, in residues.
  abbrev pub residues_at : List ℕ → List ℕ → ℕ → ℕ
  residues_at index sequence k = length (unpacked (run_at index sequence k))

  -- The byte of the metadata file where the metadata of number k begins, behind the file's header.
  abbrev pub metadata_start : List ℕ → ℕ → ℕ
  metadata_start index k = 8 + after (end_before index metadata_table k)
