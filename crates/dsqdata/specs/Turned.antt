-- A set in the other byte order: every integer and every packet of its three files is turned, and no text (request 2026-07).
-- Assumes nothing.
use Rattle.std.specs.Prelude.{Bool, true, List, ℕ, suc, ◌+◌, ◌*◌, ◌-◌, leb}
use Rattle.fields.specs.declared.Order.{Order}
use Rattle.fields.specs.Turned.{other, turned_to}
use Rattle.dsqdata.specs.declared.SetRecord.{SetRecord}
use Rattle.dsqdata.specs.Header.{count_of, packets_in}
use Rattle.dsqdata.specs.Ends.{metadata_start}

-- An integer stands at every place.
abbrev pub everywhere : ℕ → Bool
everywhere k = true

-- The taxonomy id of number k is the last four bytes of its record, where it has as many.
abbrev pub has_taxonomy : Order → List ℕ → ℕ → Bool
has_taxonomy order index k = leb (metadata_start order index k + 4) (metadata_start order index (suc k))

abbrev pub taxonomy_place : Order → List ℕ → ℕ → ℕ
taxonomy_place order index k = metadata_start order index (suc k) - 4

module _ (order : Order) where
  -- The index: seven integers of 4 bytes, then of 8 bytes three header fields and two ends for each sequence.
  unfoldable pub turned_index : List ℕ → List ℕ
  turned_index index = turned_to order 8 everywhere (λ k. 28 + 8 * k) (3 + 2 * count_of order index) (turned_to order 4 everywhere (λ k. 4 * k) 7 index)

  -- The metadata: magic and tag, and the taxonomy id of each record.
  unfoldable pub turned_metadata : List ℕ → List ℕ → List ℕ
  turned_metadata index metadata =
      turned_to order 4 (has_taxonomy order index) (taxonomy_place order index) (count_of order index) (turned_to order 4 everywhere (λ k. 4 * k) 2 metadata)

  -- The sequence file: magic, tag and packets.
  unfoldable pub turned_sequence : List ℕ → List ℕ
  turned_sequence sequence = turned_to order 4 everywhere (λ k. 4 * k) (2 + packets_in sequence) sequence

-- A record with another byte order, its ten fields the same.
abbrev pub with_order : Order → SetRecord → SetRecord
with_order order set =
    record {
      magic = set.magic;
      tag = set.tag;
      alphabet = set.alphabet;
      flags = set.flags;
      longest_name = set.longest_name;
      longest_accession = set.longest_accession;
      longest_description = set.longest_description;
      longest_sequence = set.longest_sequence;
      count = set.count;
      residues = set.residues;
      order = order;
    }

-- The record of the turned set: the same ten fields, and the other order.
abbrev pub turned_record : SetRecord → SetRecord
turned_record set = with_order (other set.order) set
