-- The header fields of a set's files, and the packets of its sequence file (document 01, "A dsqdata set").
-- Assumes nothing.
use Rattle.std.specs.Prelude.{cond, List, ℕ, ◌-◌, ◌/◌, eqb, length}
use Rattle.laws.specs.Places.{list_to}
use Rattle.fields.specs.declared.Order.{Order}
use Rattle.fields.specs.Number.{big, little, unsigned_at}
use Rattle.packets.specs.Positions.{byte_of}
use Rattle.dsqdata.specs.declared.SetRecord.{SetRecord}

-- What every file of a set begins with, read in the byte order of the set.
abbrev pub set_magic : ℕ
set_magic = 0xc4d3d1b1

-- The byte order of a set, by its index: big-endian where the index begins with the magic in that order, otherwise little-endian.
unfoldable pub set_order : List ℕ → Order
set_order index = cond (eqb (unsigned_at big 4 index 0) set_magic) big little

-- The bytes of a file after its 8-byte header (magic, tag).
abbrev pub bytes_after_header : List ℕ → ℕ
bytes_after_header file = length file - 8

-- The number of packets of a sequence file.
abbrev pub packets_in : List ℕ → ℕ
packets_in sequence = bytes_after_header sequence / 4

-- ---- what a file of a set of a byte order holds

module _ (order : Order) where
  -- The first two fields of each file: magic, tag.
  abbrev pub magic_of : List ℕ → ℕ
  magic_of file = unsigned_at order 4 file 0

  abbrev pub tag_of : List ℕ → ℕ
  tag_of file = unsigned_at order 4 file 4

  -- The fields of the index that its rules ask by name: alphabet, flags, count.
  abbrev pub alphabet_of : List ℕ → ℕ
  alphabet_of index = unsigned_at order 4 index 8

  abbrev pub flags_of : List ℕ → ℕ
  flags_of index = unsigned_at order 4 index 12

  abbrev pub count_of : List ℕ → ℕ
  count_of index = unsigned_at order 8 index 36

  -- The set's record: all ten header fields, seven of 4 bytes and three of 8, and the byte order in which they are read.
  abbrev pub record_of : List ℕ → SetRecord
  record_of index =
      record {
        magic = magic_of index;
        tag = tag_of index;
        alphabet = alphabet_of index;
        flags = flags_of index;
        longest_name = unsigned_at order 4 index 16;
        longest_accession = unsigned_at order 4 index 20;
        longest_description = unsigned_at order 4 index 24;
        longest_sequence = unsigned_at order 8 index 28;
        count = count_of index;
        residues = unsigned_at order 8 index 44;
        order = order;
      }

  -- The packet at a place of a sequence file, counted in packets after its header.
  abbrev pub packet_at : List ℕ → ℕ → ℕ
  packet_at sequence place = unsigned_at order 4 sequence (byte_of 8 place)

  -- The body of a sequence file: its packets.
  unfoldable pub body_of : List ℕ → List ℕ
  body_of sequence = list_to (packet_at sequence) (packets_in sequence)
