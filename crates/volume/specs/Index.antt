-- A volume's index: its fields, each at the place that the fields before it give, and the rules of the fixed fields in the
-- order of document 01. A field that lies past the end of the file reads as 0, so every definition has a value on every file.
-- Assumes nothing.
use Rattle.std.specs.Prelude.{Bool, cond, ◌||◌, List, [], ◌∷◌, ◌++◌, ℕ, ◌+◌, ◌*◌, ◌%◌, leb, eqb, ℤ, pos, length, Result, Ok, Err}
use Rattle.std.specs.Int.Signed.{non_neg}
use Rattle.laws.specs.Rules.{Rule, ask, verdict}
use Rattle.laws.specs.Signed.{to_nat, eq_z}
use Rattle.fields.specs.Number.{big, little, signed_at}
use Rattle.answers.specs.Limits.{bytes_fit}
use Rattle.answers.specs.Numbers.{number_of}
use Rattle.answers.specs.declared.Refusal.{Refusal}
use Rattle.answers.specs.declared.Refusal.TheVariants.{TooShort, WrongVersion, WrongKind, OutOfRange, Misaligned, Leftover, TooLarge}
use Rattle.volume.specs.declared.Index.{Index}

-- ---- the fields, in the order of the file; integers are big-endian and signed, four bytes

-- The version.
abbrev pub stated_version : List ℕ → ℤ
stated_version index = signed_at big 4 index 0

-- The type: 0 DNA, 1 protein.
abbrev pub stated_type : List ℕ → ℤ
stated_type index = signed_at big 4 index 4

abbrev pub is_type : List ℕ → Bool
is_type index = eq_z (stated_type index) (pos 0) || eq_z (stated_type index) (pos 1)

unfoldable pub volume_type : List ℕ → ℕ
volume_type index = to_nat (stated_type index)

abbrev pub is_protein : List ℕ → Bool
is_protein index = eqb (volume_type index) 1

-- The title length, and the title, which starts at place 12.
abbrev pub stated_title_length : List ℕ → ℤ
stated_title_length index = signed_at big 4 index 8

unfoldable pub title_length : List ℕ → ℕ
title_length index = to_nat (stated_title_length index)

abbrev pub title_start : ℕ
title_start = 12

abbrev pub title_end : List ℕ → ℕ
title_end index = title_start + title_length index

-- The timestamp length, behind the title, and the timestamp.
abbrev pub stated_timestamp_length : List ℕ → ℤ
stated_timestamp_length index = signed_at big 4 index (title_end index)

unfoldable pub timestamp_length : List ℕ → ℕ
timestamp_length index = to_nat (stated_timestamp_length index)

abbrev pub timestamp_start : List ℕ → ℕ
timestamp_start index = title_end index + 4

abbrev pub timestamp_end : List ℕ → ℕ
timestamp_end index = timestamp_start index + timestamp_length index

-- The timestamp ends at a multiple of this, counted from the file's start.
abbrev pub timestamp_alignment : ℕ
timestamp_alignment = 4

-- N, the number of sequences, at most 134,217,728.
abbrev pub stated_sequences : List ℕ → ℤ
stated_sequences index = signed_at big 4 index (timestamp_end index)

unfoldable pub sequences : List ℕ → ℕ
sequences index = to_nat (stated_sequences index)

abbrev pub most_sequences : ℕ
most_sequences = 134217728

-- The residue count, eight bytes, little-endian.
abbrev pub stated_residues : List ℕ → ℤ
stated_residues index = signed_at little 8 index (timestamp_end index + 4)

unfoldable pub residue_count : List ℕ → ℕ
residue_count index = to_nat (stated_residues index)

-- The longest length.
abbrev pub stated_longest : List ℕ → ℤ
stated_longest index = signed_at big 4 index (timestamp_end index + 12)

unfoldable pub longest : List ℕ → ℕ
longest index = to_nat (stated_longest index)

-- The tables of N+1 offsets each: headers, sequences and, for DNA only, ambiguities.
abbrev pub table_size : List ℕ → ℕ
table_size index = 4 * (sequences index + 1)

abbrev pub header_table : List ℕ → ℕ
header_table index = timestamp_end index + 16

abbrev pub sequence_table : List ℕ → ℕ
sequence_table index = header_table index + table_size index

abbrev pub ambiguity_table : List ℕ → ℕ
ambiguity_table index = sequence_table index + table_size index

abbrev pub tables_end : List ℕ → ℕ
tables_end index = cond (is_protein index) (ambiguity_table index) (ambiguity_table index + table_size index)

-- ---- the rules of the fixed fields: field by field, too short (1), then its value

-- The file has the bytes before a place.
abbrev pub reaches : List ℕ → ℕ → Bool
reaches file place = leb place (length file)

-- Version, which is 4 (2); type, which is 0 or 1 (3); title length, which is not negative (4); title.
abbrev pub title_rules : List ℕ → List (Rule Refusal)
title_rules index =
    ask (reaches index 4) TooShort
    ∷ ask (eq_z (stated_version index) (pos 4)) WrongVersion
    ∷ ask (reaches index 8) TooShort
    ∷ ask (is_type index) WrongKind
    ∷ ask (reaches index 12) TooShort
    ∷ ask (non_neg (stated_title_length index)) OutOfRange
    ∷ ask (reaches index (title_end index)) TooShort
    ∷ []

-- Timestamp length, which is not negative (4); timestamp, whose end is aligned (5).
abbrev pub timestamp_rules : List ℕ → List (Rule Refusal)
timestamp_rules index =
    ask (reaches index (timestamp_start index)) TooShort
    ∷ ask (non_neg (stated_timestamp_length index)) OutOfRange
    ∷ ask (reaches index (timestamp_end index)) TooShort
    ∷ ask (eqb (timestamp_end index % timestamp_alignment) 0) Misaligned
    ∷ []

-- N, which is not negative and at most 134,217,728 (4); residue count and longest, which are not negative (4).
abbrev pub count_rules : List ℕ → List (Rule Refusal)
count_rules index =
    ask (reaches index (timestamp_end index + 4)) TooShort
    ∷ ask (non_neg (stated_sequences index)) OutOfRange
    ∷ ask (leb (sequences index) most_sequences) OutOfRange
    ∷ ask (reaches index (timestamp_end index + 12)) TooShort
    ∷ ask (non_neg (stated_residues index)) OutOfRange
    ∷ ask (reaches index (header_table index)) TooShort
    ∷ ask (non_neg (stated_longest index)) OutOfRange
    ∷ []

-- The tables, after which nothing may follow (6).
abbrev pub table_rules : List ℕ → List (Rule Refusal)
table_rules index = ask (reaches index (tables_end index)) TooShort ∷ ask (leb (length index) (tables_end index)) Leftover ∷ []

-- The rules of an index alone, 1 to 6.
unfoldable pub index_rules : List ℕ → List (Rule Refusal)
index_rules index = title_rules index ++ (timestamp_rules index ++ (count_rules index ++ table_rules index))

-- ---- what an index says

-- The numbers of an index, and where its parts start.
unfoldable pub index_of : List ℕ → Index
index_of index =
    record {
      kind = volume_type index;
      title_length = title_length index;
      timestamp_length = timestamp_length index;
      sequences = sequences index;
      residues = residue_count index;
      longest = longest index;
      header_table = header_table index;
      sequence_table = sequence_table index;
      ambiguity_table = ambiguity_table index;
    }

-- The rules of reading an index: it is not over 2,147,483,647 bytes (22); then 1 to 6.
abbrev pub read_rules : List ℕ → List (Rule Refusal)
read_rules index = ask (bytes_fit index) TooLarge ∷ index_rules index

-- An index read: its numbers where the rules hold.
abbrev pub index_answer : List ℕ → Result Index Refusal
index_answer index = verdict Err (Ok (index_of index)) (read_rules index)

-- Document 01's number of an answer, and its values: the numbers of the index, and where its tables start.
abbrev pub index_number : Result Index Refusal → ℕ
index_number (Ok x) = 0
index_number (Err r) = number_of r

abbrev pub index_numbers : Index → List ℕ
index_numbers x =
    x.kind
    ∷ x.title_length
    ∷ x.timestamp_length
    ∷ x.sequences
    ∷ x.residues
    ∷ x.longest
    ∷ x.header_table
    ∷ x.sequence_table
    ∷ x.ambiguity_table
    ∷ []

abbrev pub index_values : Result Index Refusal → List ℕ
index_values (Ok x) = index_numbers x
index_values (Err r) = []
