-- The rules of a volume by name: for each group a record of its tests, made from the group's list and turned back into it. Who needs a
-- rule names it, so a rule more in a list is one name more here. Assumes nothing.
use mathlib.Core.Path.{◌≡◌}
use mathlib.Core.Bool.{Bool, true}
use mathlib.Core.List.{List, ◌++◌}
use Prim.Native.Nat.{ℕ, ◌+◌, ◌%◌}
use lib.Dec.{eqb, leb}
use lib.IntN.{pos}
use lib.ListN.{length, get_or}
use lib.Signed.{non_neg}
use Rattle.laws.specs.Places.{every, sum_to, largest_to}
use Rattle.laws.specs.Rules.{AllHold}
use Rattle.laws.specs.Signed.{eq_z}
use Rattle.laws.proofs.Rules.{hold-append, hold-first, hold-second}
use Rattle.answers.specs.Limits.{bytes_fit}
use Rattle.volume.specs.Index as I
use Rattle.volume.specs.Tables as T
use Rattle.volume.specs.Volume.{volume_size_rules}

-- ---- an index alone

module _ (index : List ℕ) where
  pub record TitleTests : Type 0 where
    pub version_there : I.reaches index 4 ≡ true
    pub version_is : eq_z (I.stated_version index) (pos 4) ≡ true
    pub type_there : I.reaches index 8 ≡ true
    pub type_is : I.is_type index ≡ true
    pub length_there : I.reaches index 12 ≡ true
    pub natural : non_neg (I.stated_title_length index) ≡ true
    pub title_there : I.reaches index (I.title_end index) ≡ true

  pub title_tests : AllHold (I.title_rules index) → TitleTests
  title_tests (version_there, (version_is, (type_there, (type_is, (length_there, (natural, (title_there, _))))))) =
      record {
        version_there = version_there;
        version_is = version_is;
        type_there = type_there;
        type_is = type_is;
        length_there = length_there;
        natural = natural;
        title_there = title_there;
      }

  pub title_tests_back : TitleTests → AllHold (I.title_rules index)
  title_tests_back t = (t.version_there, (t.version_is, (t.type_there, (t.type_is, (t.length_there, (t.natural, (t.title_there, tt)))))))

  pub record TimestampTests : Type 0 where
    pub length_there : I.reaches index (I.timestamp_start index) ≡ true
    pub natural : non_neg (I.stated_timestamp_length index) ≡ true
    pub timestamp_there : I.reaches index (I.timestamp_end index) ≡ true
    pub aligned : eqb (I.timestamp_end index % I.timestamp_alignment) 0 ≡ true

  pub timestamp_tests : AllHold (I.timestamp_rules index) → TimestampTests
  timestamp_tests (length_there, (natural, (timestamp_there, (aligned, _)))) =
      record { length_there = length_there; natural = natural; timestamp_there = timestamp_there; aligned = aligned }

  pub timestamp_tests_back : TimestampTests → AllHold (I.timestamp_rules index)
  timestamp_tests_back t = (t.length_there, (t.natural, (t.timestamp_there, (t.aligned, tt))))

  pub record CountTests : Type 0 where
    pub number_there : I.reaches index (I.timestamp_end index + 4) ≡ true
    pub number_natural : non_neg (I.stated_sequences index) ≡ true
    pub few : leb (I.sequences index) I.most_sequences ≡ true
    pub residues_there : I.reaches index (I.timestamp_end index + 12) ≡ true
    pub residues_natural : non_neg (I.stated_residues index) ≡ true
    pub longest_there : I.reaches index (I.header_table index) ≡ true
    pub longest_natural : non_neg (I.stated_longest index) ≡ true

  pub count_tests : AllHold (I.count_rules index) → CountTests
  count_tests (number_there, (number_natural, (few, (residues_there, (residues_natural, (longest_there, (longest_natural, _))))))) =
      record {
        number_there = number_there;
        number_natural = number_natural;
        few = few;
        residues_there = residues_there;
        residues_natural = residues_natural;
        longest_there = longest_there;
        longest_natural = longest_natural;
      }

  pub count_tests_back : CountTests → AllHold (I.count_rules index)
  count_tests_back t = (t.number_there, (t.number_natural, (t.few, (t.residues_there, (t.residues_natural, (t.longest_there, (t.longest_natural, tt)))))))

  pub record TableTests : Type 0 where
    pub tables_there : I.reaches index (I.tables_end index) ≡ true
    pub nothing_after : leb (length index) (I.tables_end index) ≡ true

  pub table_tests : AllHold (I.table_rules index) → TableTests
  table_tests (tables_there, (nothing_after, _)) =
      record { tables_there = tables_there; nothing_after = nothing_after }

  pub table_tests_back : TableTests → AllHold (I.table_rules index)
  table_tests_back t = (t.tables_there, (t.nothing_after, tt))

  -- all of them
  pub record IndexTests : Type 0 where
    pub title : TitleTests
    pub timestamp : TimestampTests
    pub counts : CountTests
    pub tables : TableTests

  pub index_tests : AllHold (I.index_rules index) → IndexTests
  unfolding I.index_rules
  index_tests h =
      let a = hold-second (I.title_rules index) (I.timestamp_rules index ++ (I.count_rules index ++ I.table_rules index)) h in
      let b = hold-second (I.timestamp_rules index) (I.count_rules index ++ I.table_rules index) a in
      record {
        title = title_tests (hold-first (I.title_rules index) (I.timestamp_rules index ++ (I.count_rules index ++ I.table_rules index)) h);
        timestamp = timestamp_tests (hold-first (I.timestamp_rules index) (I.count_rules index ++ I.table_rules index) a);
        counts = count_tests (hold-first (I.count_rules index) (I.table_rules index) b);
        tables = table_tests (hold-second (I.count_rules index) (I.table_rules index) b);
      }

  pub index_tests_back : IndexTests → AllHold (I.index_rules index)
  unfolding I.index_rules
  index_tests_back t =
      hold-append (I.title_rules index) (I.timestamp_rules index ++ (I.count_rules index ++ I.table_rules index)) (title_tests_back t.title)
      (hold-append (I.timestamp_rules index) (I.count_rules index ++ I.table_rules index) (timestamp_tests_back t.timestamp)
      (hold-append (I.count_rules index) (I.table_rules index) (count_tests_back t.counts) (table_tests_back t.tables)))

-- ---- offsets, separators and totals

module _ (index header : List ℕ) where
  pub record HeaderTests : Type 0 where
    pub first : eq_z (T.header_offset index 0) (pos 0) ≡ true
    pub steps : every (T.not_below index (I.header_table index)) (I.sequences index) ≡ true
    pub last : eq_z (T.header_offset index (I.sequences index)) (pos (length header)) ≡ true

  pub header_tests : AllHold (T.header_offset_rules index header) → HeaderTests
  header_tests (first, (steps, (last, _))) =
      record { first = first; steps = steps; last = last }

  pub header_tests_back : HeaderTests → AllHold (T.header_offset_rules index header)
  header_tests_back t = (t.first, (t.steps, (t.last, tt)))

-- the byte behind protein k is NUL
abbrev pub nul_behind : (index sequence : List ℕ) → ℕ → Bool
nul_behind index sequence k = eqb (get_or sequence (T.protein_end index k) 0) 0

module _ (index sequence : List ℕ) where
  pub record ProteinTests : Type 0 where
    pub first : eq_z (T.sequence_offset index 0) (pos 1) ≡ true
    pub steps : every (T.above index (I.sequence_table index)) (I.sequences index) ≡ true
    pub last : eq_z (T.sequence_offset index (I.sequences index)) (pos (length sequence)) ≡ true

  pub protein_tests : AllHold (T.protein_offset_rules index sequence) → ProteinTests
  protein_tests (first, (steps, (last, _))) =
      record { first = first; steps = steps; last = last }

  pub protein_tests_back : ProteinTests → AllHold (T.protein_offset_rules index sequence)
  protein_tests_back t = (t.first, (t.steps, (t.last, tt)))

  pub record DnaTests : Type 0 where
    pub first : eq_z (T.sequence_offset index 0) (pos T.first_nucleotide_offset) ≡ true
    pub steps : every (T.ambiguity_between index (I.sequence_table index) (I.ambiguity_table index)) (I.sequences index) ≡ true
    pub last : eq_z (T.sequence_offset index (I.sequences index)) (pos (length sequence)) ≡ true
    pub last_ambiguity : eq_z (T.ambiguity_offset index (I.sequences index)) (pos (length sequence)) ≡ true

  pub dna_tests : AllHold (T.dna_offset_rules index sequence) → DnaTests
  dna_tests (first, (steps, (last, (last_ambiguity, _)))) =
      record { first = first; steps = steps; last = last; last_ambiguity = last_ambiguity }

  pub dna_tests_back : DnaTests → AllHold (T.dna_offset_rules index sequence)
  dna_tests_back t = (t.first, (t.steps, (t.last, (t.last_ambiguity, tt))))

  pub record SeparatorTests : Type 0 where
    pub byte_zero : eqb (get_or sequence 0 0) 0 ≡ true
    pub separators : every (nul_behind index sequence) (I.sequences index) ≡ true

  pub separator_tests : AllHold (T.protein_separator_rules index sequence) → SeparatorTests
  separator_tests (byte_zero, (separators, _)) =
      record { byte_zero = byte_zero; separators = separators }

  pub separator_tests_back : SeparatorTests → AllHold (T.protein_separator_rules index sequence)
  separator_tests_back t = (t.byte_zero, (t.separators, tt))

module _ (index : List ℕ) (length_of : ℕ → ℕ) where
  pub record TotalTests : Type 0 where
    pub sum : eqb (sum_to length_of (I.sequences index)) (I.residue_count index) ≡ true
    pub largest : eqb (largest_to length_of (I.sequences index)) (I.longest index) ≡ true

  pub total_tests : AllHold (T.totals_of index length_of) → TotalTests
  total_tests (sum, (largest, _)) =
      record { sum = sum; largest = largest }

  pub total_tests_back : TotalTests → AllHold (T.totals_of index length_of)
  total_tests_back t = (t.sum, (t.largest, tt))

-- ---- the whole volume

module _ (index sequence header : List ℕ) where
  pub record SizeTests : Type 0 where
    pub index_fits : bytes_fit index ≡ true
    pub sequence_fits : bytes_fit sequence ≡ true
    pub header_fits : bytes_fit header ≡ true

  pub size_tests : AllHold (volume_size_rules index sequence header) → SizeTests
  size_tests (index_fits, (sequence_fits, (header_fits, _))) =
      record { index_fits = index_fits; sequence_fits = sequence_fits; header_fits = header_fits }

  pub size_tests_back : SizeTests → AllHold (volume_size_rules index sequence header)
  size_tests_back t = (t.index_fits, (t.sequence_fits, (t.header_fits, tt)))
