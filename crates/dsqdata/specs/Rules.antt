-- What document 01 asks of a set and of a lookup, rule by rule.
-- proofs/SetRules.antt and proofs/LookupRules.antt show that the calls pass exactly where these rules hold.
-- Assumes nothing.
use Rattle.std.specs.Prelude.{◌≡◌, ◌⊎◌, List, ℕ, suc, ◌+◌, ◌*◌, ◌%◌, ◌≤◌, ◌<◌, length, pos, negsuc, ◌<ℤ◌, ◌≤ℤ◌}
use Rattle.laws.specs.Places.{sum_to, largest_to}
use Rattle.fields.specs.declared.Order.{Order}
use Rattle.packets.specs.Ends.{last_place}
use Rattle.packets.specs.Rules.{WellFormed}
use Rattle.metadata.specs.Rules.{MetadataRule}
use Rattle.dsqdata.specs.declared.SetRecord.{SetRecord}
use Rattle.dsqdata.specs.Header.{set_magic, magic_of, tag_of, alphabet_of, flags_of, count_of, record_of, bytes_after_header, packets_in}
use Rattle.dsqdata.specs.Ends.{metadata_table, packet_table, end_before, run_at, residues_at, metadata_start}

module _ (order : Order) where
  -- Ends: before the first stands -1; each rises; the last is the body's last place; with none, the body is empty.
  pub record EndsRule (index : List ℕ) (table n size : ℕ) : Type 0 where
    pub first : end_before order index table 0 ≡ negsuc 0
    pub rises : (k : ℕ) → k < n → end_before order index table k <ℤ end_before order index table (suc k)
    pub last : end_before order index table n ≡ last_place size
    pub none : n ≡ 0 → size ≡ 0

-- ---- the set

module _ (order : Order) where
  -- All that the check asks of a set of a byte order except 7 for the packet ends and 17: the other rules of demand 3.
  pub record OtherRules (index metadata sequence : List ℕ) : Type 0 where
    -- 22: no file is over 2,147,483,647 bytes
    pub index_fits : length index ≤ 2147483647
    pub metadata_fits : length metadata ≤ 2147483647
    pub sequence_fits : length sequence ≤ 2147483647
    -- 1 and 14, file by file: each begins with the magic in the same order
    pub index_starts : 52 ≤ length index
    pub index_magic : magic_of order index ≡ set_magic
    pub metadata_starts : 8 ≤ length metadata
    pub metadata_magic : magic_of order metadata ≡ set_magic
    pub sequence_starts : 8 ≤ length sequence
    pub sequence_magic : magic_of order sequence ≡ set_magic
    -- 15: the three tags are the same
    pub metadata_tag : tag_of order metadata ≡ tag_of order index
    pub sequence_tag : tag_of order sequence ≡ tag_of order index
    -- 3: the alphabet is 1, 2 or 3
    pub alphabet : (alphabet_of order index ≡ 1) ⊎ ((alphabet_of order index ≡ 2) ⊎ (alphabet_of order index ≡ 3))
    -- 4: flags 0, and the count at most 134,217,728
    pub flags : flags_of order index ≡ 0
    pub few : count_of order index ≤ 134217728
    -- 1, 6: the index is neither short nor long
    pub index_whole : length index ≡ 52 + 16 * count_of order index
    -- 1: the body is a multiple of 4
    pub body_whole : bytes_after_header sequence % 4 ≡ 0
    -- 7 for the metadata ends
    pub metadata_ends : EndsRule order index metadata_table (count_of order index) (bytes_after_header metadata)
    -- 19: the metadata of each number is a record, with texts of these lengths
    pub name : ℕ → ℕ
    pub accession : ℕ → ℕ
    pub description : ℕ → ℕ
    pub records : (k : ℕ) → k < count_of order index
        → MetadataRule order metadata (metadata_start order index k) (metadata_start order index (suc k)) (name k) (accession k) (description k)
    -- 9: the total of residues and all four longest lengths
    pub residues : sum_to (residues_at order index sequence) (count_of order index) ≡ (record_of order index).residues
    pub longest_sequence : largest_to (residues_at order index sequence) (count_of order index) ≡ (record_of order index).longest_sequence
    pub longest_name : largest_to name (count_of order index) ≡ (record_of order index).longest_name
    pub longest_accession : largest_to accession (count_of order index) ≡ (record_of order index).longest_accession
    pub longest_description : largest_to description (count_of order index) ≡ (record_of order index).longest_description

  -- The rules of a set of a byte order.
  pub record SetRules (index metadata sequence : List ℕ) : Type 0 where
    pub others : OtherRules index metadata sequence
    -- 7 for the packet ends
    pub packet_ends : EndsRule order index packet_table (count_of order index) (packets_in sequence)
    -- 17: each run between ends is well formed
    pub runs : (k : ℕ) → k < count_of order index → WellFormed (alphabet_of order index) (run_at order index sequence k)

-- ---- the lookup

module _ (order : Order) where
  -- The end of number k is above the one before, that one at least -1, and it is at most 2,147,483,646.
  pub record PartRule (index : List ℕ) (table k : ℕ) : Type 0 where
    pub low : negsuc 0 ≤ℤ end_before order index table k
    pub rises : end_before order index table k <ℤ end_before order index table (suc k)
    pub high : end_before order index table (suc k) ≤ℤ pos 2147483646

-- The rules of a lookup, in the byte order of the record.
pub record LookupRules (set : SetRecord) (index : List ℕ) (number : ℕ) : Type 0 where
  -- 22
  pub fits : length index ≤ 2147483647
  -- 4
  pub few : set.count ≤ 134217728
  -- 1, 6
  pub index_whole : length index ≡ 52 + 16 * set.count
  -- 10
  pub known : number < set.count
  -- 7
  pub metadata_part : PartRule set.order index metadata_table number
  pub run_part : PartRule set.order index packet_table number
