-- The lookup of one sequence by the set's record and the index (document 01, "A dsqdata set").
-- Assumes nothing.
use Rattle.std.specs.Prelude.{List, [], ◌∷◌, ◌++◌, ℕ, suc, ◌-◌, ltb, pos, negsuc, Result, Ok, Err}
use Rattle.std.specs.Int.Signed.{lt_z, le_z}
use Rattle.laws.specs.Rules.{Rule, ask, verdict}
use Rattle.answers.specs.Limits.{bytes_fit}
use Rattle.answers.specs.Numbers.{number_of}
use Rattle.answers.specs.declared.Refusal.{Refusal}
use Rattle.answers.specs.declared.Refusal.TheVariants.{BadOffsets, NoSuchSequence, TooLarge}
use Rattle.fields.specs.declared.Order.{Order}
use Rattle.packets.specs.Ends.{after}
use Rattle.dsqdata.specs.declared.SetRecord.{SetRecord}
use Rattle.dsqdata.specs.declared.Located.{Located}
use Rattle.dsqdata.specs.Ends.{metadata_table, packet_table, end_before}
use Rattle.dsqdata.specs.Check.{count_rules}

module _ (order : Order) where
  -- The end of number k is above the one before, that one at least -1, and it is at most 2,147,483,646 (7).
  unfoldable pub part_rules : List ℕ → ℕ → ℕ → List (Rule Refusal)
  part_rules index table k =
      ask (le_z (negsuc 0) (end_before order index table k)) BadOffsets
      ∷ ask (lt_z (end_before order index table k) (end_before order index table (suc k))) BadOffsets
      ∷ ask (le_z (end_before order index table (suc k)) (pos 2147483646)) BadOffsets
      ∷ []

  -- Where the part of number k begins, counted after the header as the ends are, and its length: bytes of metadata, packets of a run.
  abbrev pub start_at : List ℕ → ℕ → ℕ → ℕ
  start_at index table k = after (end_before order index table k)

  abbrev pub length_at : List ℕ → ℕ → ℕ → ℕ
  length_at index table k = after (end_before order index table (suc k)) - after (end_before order index table k)

-- 22; record count 4; index length against that count 1, 6; 10; 7 for the metadata end and the packet end.
unfoldable pub lookup_rules : SetRecord → List ℕ → ℕ → List (Rule Refusal)
lookup_rules set index number =
    ask (bytes_fit index) TooLarge
    ∷ (count_rules set.count index
    ++ (ask (ltb number set.count) NoSuchSequence
    ∷ (part_rules set.order index metadata_table number
    ++ part_rules set.order index packet_table number)))

module _ (order : Order) where
  -- Start and length, for metadata in bytes and for the run in packets.
  abbrev pub found_at : List ℕ → ℕ → Located
  found_at index number =
      record {
        start = record { 0 = start_at order index metadata_table number };
        bytes = length_at order index metadata_table number;
        run = record { 0 = start_at order index packet_table number };
        packets = length_at order index packet_table number;
      }

-- The answer of the lookup, which reads the index in the byte order of the record.
unfoldable pub lookup_of : SetRecord → List ℕ → ℕ → Result Located Refusal
lookup_of set index number = verdict Err (Ok (found_at set.order index number)) (lookup_rules set index number)

-- Document 01's number of an answer, and its values: start and length of the metadata, start and length of the run.
abbrev pub lookup_number : Result Located Refusal → ℕ
lookup_number (Ok found) = 0
lookup_number (Err r) = number_of r

abbrev pub lookup_values : Result Located Refusal → List ℕ
lookup_values (Ok found) = found.start.0 ∷ found.bytes ∷ found.run.0 ∷ found.packets ∷ []
lookup_values (Err r) = []
