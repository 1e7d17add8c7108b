-- The check of a whole volume: its rules in the order of document 01, and what it returns.
-- Assumes nothing.
use Rattle.std.specs.Prelude.{cond, List, [], ◌∷◌, ◌++◌, ℕ, zero, suc, ◌+◌, eqb, get_or, Result, Ok, Err}
use Rattle.laws.specs.Rules.{Rule, ask, verdict}
use Rattle.answers.specs.Limits.{bytes_fit}
use Rattle.answers.specs.Numbers.{number_of}
use Rattle.answers.specs.declared.Refusal.{Refusal}
use Rattle.answers.specs.declared.Refusal.TheVariants.{TooLarge}
use Rattle.volume.specs.declared.VolumeRecord.{VolumeRecord}
use Rattle.volume.specs.Index.{volume_type, title_start, title_length, timestamp_start, timestamp_length, sequences, residue_count, longest, index_rules}
use Rattle.volume.specs.Tables.{offset_rules, separator_rules, total_rules}

-- No file is over 2,147,483,647 bytes (22).
abbrev pub volume_size_rules : List ℕ → List ℕ → List ℕ → List (Rule Refusal)
volume_size_rules index sequence header =
    ask (bytes_fit index) TooLarge ∷ ask (bytes_fit sequence) TooLarge ∷ ask (bytes_fit header) TooLarge ∷ []

-- All rules of the check.
unfoldable pub volume_rules : List ℕ → List ℕ → List ℕ → List (Rule Refusal)
volume_rules index sequence header =
    volume_size_rules index sequence header
    ++ (index_rules index ++ (offset_rules index sequence header ++ (separator_rules index sequence ++ total_rules index sequence)))

-- How many of the len bytes from a start on are left without the NULs at their end.
abbrev pub trimmed_length : List ℕ → ℕ → ℕ → ℕ
trimmed_length file start zero = 0
trimmed_length file start (suc len) = cond (eqb (get_or file (start + len) 0) 0) (trimmed_length file start len) (suc len)

-- Passing returns type, N, count, longest, and start and length of title and of timestamp, the timestamp without trailing NULs.
unfoldable pub volume_record : List ℕ → VolumeRecord
volume_record index =
    record {
      kind = volume_type index;
      sequences = sequences index;
      residues = residue_count index;
      longest = longest index;
      title_start = title_start;
      title_length = title_length index;
      timestamp_start = timestamp_start index;
      timestamp_length = trimmed_length index (timestamp_start index) (timestamp_length index);
    }

-- The answer of the check.
unfoldable pub volume_answer : List ℕ → List ℕ → List ℕ → Result VolumeRecord Refusal
volume_answer index sequence header = verdict Err (Ok (volume_record index)) (volume_rules index sequence header)

-- Document 01's number of an answer, and its values.
abbrev pub volume_number : Result VolumeRecord Refusal → ℕ
volume_number (Ok v) = 0
volume_number (Err r) = number_of r

abbrev pub record_values : VolumeRecord → List ℕ
record_values v =
    v.kind
    ∷ v.sequences
    ∷ v.residues
    ∷ v.longest
    ∷ v.title_start
    ∷ v.title_length
    ∷ v.timestamp_start
    ∷ v.timestamp_length
    ∷ []

abbrev pub volume_values : Result VolumeRecord Refusal → List ℕ
volume_values (Ok v) = record_values v
volume_values (Err r) = []
