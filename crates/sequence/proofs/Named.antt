-- The rules of one sequence by name: for each group a record of its tests, made from the group's list and turned back into it. Assumes nothing.
use mathlib.Core.Path.{◌≡◌}
use mathlib.Core.Bool.{true}
use mathlib.Core.List.{List}
use Prim.Native.Nat.{ℕ, ◌+◌, ◌-◌}
use lib.Dec.{eqb}
use lib.IntN.{pos}
use lib.ListN.{length, get_or}
use lib.Signed.{le_z, lt_z}
use Rattle.laws.specs.Places.{every}
use Rattle.laws.specs.Rules.{AllHold}
use Rattle.volume.specs.Tables.{sequence_offset, ambiguity_offset, sequence_start, protein_end}
use Rattle.sequence.specs.Corrections.{is_table, entry_width, entry_count, entry_fits, range_rules}
use Rattle.sequence.specs.Sequence.{protein_entry_rules, dna_entry_rules}

module _ (index sequence : List ℕ) (i : ℕ) where
  pub record ProteinEntryTests : Type 0 where
    pub first : le_z (pos 1) (sequence_offset index i) ≡ true
    pub step : lt_z (sequence_offset index i) (sequence_offset index (i + 1)) ≡ true
    pub last : le_z (sequence_offset index (i + 1)) (pos (length sequence)) ≡ true
    pub nul_before : eqb (get_or sequence (sequence_start index i - 1) 0) 0 ≡ true
    pub nul_behind : eqb (get_or sequence (protein_end index i) 0) 0 ≡ true

  pub protein_entry_tests : AllHold (protein_entry_rules index sequence i) → ProteinEntryTests
  protein_entry_tests (first, (step, (last, (nul_before, (nul_behind, _))))) =
      record { first = first; step = step; last = last; nul_before = nul_before; nul_behind = nul_behind }

  pub protein_entry_tests_back : ProteinEntryTests → AllHold (protein_entry_rules index sequence i)
  protein_entry_tests_back t = (t.first, (t.step, (t.last, (t.nul_before, (t.nul_behind, tt)))))

  pub record DnaEntryTests : Type 0 where
    pub first : le_z (pos 0) (sequence_offset index i) ≡ true
    pub bytes : lt_z (sequence_offset index i) (ambiguity_offset index i) ≡ true
    pub range : le_z (ambiguity_offset index i) (sequence_offset index (i + 1)) ≡ true
    pub last : le_z (sequence_offset index (i + 1)) (pos (length sequence)) ≡ true

  pub dna_entry_tests : AllHold (dna_entry_rules index sequence i) → DnaEntryTests
  dna_entry_tests (first, (bytes, (range, (last, _)))) =
      record { first = first; bytes = bytes; range = range; last = last }

  pub dna_entry_tests_back : DnaEntryTests → AllHold (dna_entry_rules index sequence i)
  dna_entry_tests_back t = (t.first, (t.bytes, (t.range, (t.last, tt))))

module _ (sequence : List ℕ) (place end l : ℕ) where
  pub record RangeTests : Type 0 where
    pub table : is_table sequence place end ≡ true
    pub entries_fit : every (entry_fits sequence (place + 4) (entry_width sequence place) l) (entry_count sequence place end) ≡ true

  pub range_tests : AllHold (range_rules sequence place end l) → RangeTests
  range_tests (table, (entries_fit, _)) =
      record { table = table; entries_fit = entries_fit }

  pub range_tests_back : RangeTests → AllHold (range_rules sequence place end l)
  range_tests_back t = (t.table, (t.entries_fit, tt))
