-- The set check: its rules in the order of document 01 ("A dsqdata set"), each with its refusal, and what it returns.
-- Assumes nothing.
use Rattle.std.specs.Prelude.{List, [], ◌∷◌, ◌++◌, ℕ, zero, suc, ◌+◌, ◌*◌, ◌%◌, eqb, leb, length, Result, Ok, Err}
use Rattle.laws.specs.Places.{every, sum_to, largest_to}
use Rattle.laws.specs.Rules.{Rule, ask, verdict}
use Rattle.answers.specs.Limits.{bytes_fit}
use Rattle.answers.specs.Numbers.{number_of}
use Rattle.answers.specs.declared.Refusal.{Refusal}
use Rattle.answers.specs.declared.Refusal.TheVariants.{TooShort, WrongKind, OutOfRange, Leftover, BadOffsets, WrongTotals}
use Rattle.answers.specs.declared.Refusal.TheVariants.{WrongMagic, TagsDiffer, BadRun, BadMetadata, TooLarge}
use Rattle.fields.specs.declared.Order.{Order}
use Rattle.fields.specs.declared.Order.TheVariants.{Big, Little}
use Rattle.residues.specs.Alphabets.{is_alphabet}
use Rattle.packets.specs.Runs.{well_formed}
use Rattle.metadata.specs.Record.{is_good}
use Rattle.dsqdata.specs.declared.SetRecord.{SetRecord}
use Rattle.dsqdata.specs.Header.{set_magic, set_order, magic_of, tag_of, alphabet_of, flags_of, count_of, record_of, bytes_after_header, packets_in}
use Rattle.dsqdata.specs.Ends.{metadata_table, packet_table, rises_at, meets_end, run_at, residues_at}
use Rattle.dsqdata.specs.Records.{texts_at, name_at, accession_at, description_at}

-- ---- the files

-- No file is over 2,147,483,647 bytes (22).
unfoldable pub size_rules : List ℕ → List ℕ → List ℕ → List (Rule Refusal)
size_rules index metadata sequence =
    ask (bytes_fit index) TooLarge ∷ ask (bytes_fit metadata) TooLarge ∷ ask (bytes_fit sequence) TooLarge ∷ []

module _ (order : Order) where
  -- A file has at least so many bytes (1), and begins with the magic in the order of the set (14).
  unfoldable pub start_rules : ℕ → List ℕ → List (Rule Refusal)
  start_rules least file =
      ask (leb least (length file)) TooShort
      ∷ ask (eqb (magic_of order file) set_magic) WrongMagic
      ∷ []

  -- The three tags are the same (15).
  unfoldable pub tag_rules : List ℕ → List ℕ → List ℕ → List (Rule Refusal)
  tag_rules index metadata sequence =
      ask (eqb (tag_of order metadata) (tag_of order index)) TagsDiffer
      ∷ ask (eqb (tag_of order sequence) (tag_of order index)) TagsDiffer
      ∷ []

  -- 22; then file by file, index, metadata, sequence: below 52, 8, 8 bytes (1), its magic (14); 15.
  unfoldable pub file_rules : List ℕ → List ℕ → List ℕ → List (Rule Refusal)
  file_rules index metadata sequence =
      size_rules index metadata sequence
      ++ (start_rules 52 index
      ++ (start_rules 8 metadata
      ++ (start_rules 8 sequence
      ++ tag_rules index metadata sequence)))

-- ---- the header fields and the lengths that they state

module _ (order : Order) where
  -- The alphabet is 1, 2 or 3 (3); the flags are 0 (4).
  unfoldable pub header_rules : List ℕ → List (Rule Refusal)
  header_rules index =
      ask (is_alphabet (alphabet_of order index)) WrongKind
      ∷ ask (eqb (flags_of order index) 0) OutOfRange
      ∷ []

-- A count is at most 134,217,728 (4), and the index has its 52 bytes and 16 for each sequence: short 1, long 6.
unfoldable pub count_rules : ℕ → List ℕ → List (Rule Refusal)
count_rules count index =
    ask (leb count 134217728) OutOfRange
    ∷ ask (leb (52 + 16 * count) (length index)) TooShort
    ∷ ask (leb (length index) (52 + 16 * count)) Leftover
    ∷ []

-- The body of the sequence file is a multiple of 4 bytes (1).
unfoldable pub body_rules : List ℕ → List (Rule Refusal)
body_rules sequence = ask (eqb (bytes_after_header sequence % 4) 0) TooShort ∷ []

module _ (order : Order) where
  -- 3; flags 4; count 4; index short 1, long 6; body not a multiple of 4 is 1.
  unfoldable pub layout_rules : List ℕ → List ℕ → List (Rule Refusal)
  layout_rules index sequence =
      header_rules order index
      ++ (count_rules (count_of order index) index
      ++ body_rules sequence)

-- ---- the ends

module _ (order : Order) where
  -- Each end rises from -1 on, and the last is the body's last place (7).
  unfoldable pub ends_rules : List ℕ → ℕ → ℕ → ℕ → List (Rule Refusal)
  ends_rules index table n size =
      ask (every (rises_at order index table) n) BadOffsets
      ∷ ask (meets_end order index table n size) BadOffsets
      ∷ []

  -- The metadata ends go by bytes, the packet ends by packets.
  abbrev pub metadata_ends_rules : List ℕ → List ℕ → List (Rule Refusal)
  metadata_ends_rules index metadata = ends_rules index metadata_table (count_of order index) (bytes_after_header metadata)

  abbrev pub packet_ends_rules : List ℕ → List ℕ → List (Rule Refusal)
  packet_ends_rules index sequence = ends_rules index packet_table (count_of order index) (packets_in sequence)

-- ---- the runs and the metadata records, one after another

-- The rules that f gives for each number below n, number by number.
abbrev pub rules_to : (ℕ → List (Rule Refusal)) → ℕ → List (Rule Refusal)
rules_to f zero = []
rules_to f (suc n) = rules_to f n ++ f n

-- What the set check asks of one run: it is well formed (17).
unfoldable pub rules_of_run : ℕ → List ℕ → List (Rule Refusal)
rules_of_run alphabet packets = ask (well_formed alphabet packets) BadRun ∷ []

module _ (order : Order) where
  -- The rules of the first n runs between ends, run by run.
  abbrev pub run_rules_to : List ℕ → List ℕ → ℕ → ℕ → List (Rule Refusal)
  run_rules_to index sequence alphabet n = rules_to (λ k. rules_of_run alphabet (run_at order index sequence k)) n

  abbrev pub set_run_rules : List ℕ → List ℕ → List (Rule Refusal)
  set_run_rules index sequence = run_rules_to index sequence (alphabet_of order index) (count_of order index)

  -- What the set check asks of the metadata of one sequence: it is a metadata record (19).
  unfoldable pub rules_of_record : List ℕ → List ℕ → ℕ → List (Rule Refusal)
  rules_of_record index metadata k = ask (is_good (texts_at order index metadata k)) BadMetadata ∷ []

  abbrev pub record_rules : List ℕ → List ℕ → List (Rule Refusal)
  record_rules index metadata = rules_to (rules_of_record index metadata) (count_of order index)

-- ---- the totals

-- The total of residues and the four longest lengths are those of the set's record (9).
unfoldable pub stated_rules : SetRecord → ℕ → ℕ → ℕ → ℕ → ℕ → List (Rule Refusal)
stated_rules set residues sequence name accession description =
    ask (eqb residues set.residues) WrongTotals
    ∷ ask (eqb sequence set.longest_sequence) WrongTotals
    ∷ ask (eqb name set.longest_name) WrongTotals
    ∷ ask (eqb accession set.longest_accession) WrongTotals
    ∷ ask (eqb description set.longest_description) WrongTotals
    ∷ []

module _ (order : Order) where
  -- 9 where the runs have so many residues in all and the longest so many. A text's length is without its NUL; the longest is 0 with none.
  unfoldable pub total_rules : List ℕ → List ℕ → ℕ → ℕ → List (Rule Refusal)
  total_rules index metadata residues longest =
      stated_rules (record_of order index) residues longest
      (largest_to (name_at order index metadata) (count_of order index))
      (largest_to (accession_at order index metadata) (count_of order index))
      (largest_to (description_at order index metadata) (count_of order index))

  -- Behind the runs, which have so many residues in all and in the longest: 19 for each record, and 9.
  unfoldable pub behind_runs : List ℕ → List ℕ → ℕ → ℕ → List (Rule Refusal)
  behind_runs index metadata residues longest =
      record_rules order index metadata
      ++ total_rules index metadata residues longest

  unfoldable pub rest_rules : List ℕ → List ℕ → List ℕ → List (Rule Refusal)
  rest_rules index metadata sequence =
      behind_runs index metadata (sum_to (residues_at order index sequence) (count_of order index)) (largest_to (residues_at order index sequence) (count_of order index))

-- ---- the whole

module _ (order : Order) where
  -- 7; then 17 for each run between ends, 19, and 9.
  unfoldable pub content_rules : List ℕ → List ℕ → List ℕ → List (Rule Refusal)
  content_rules index metadata sequence =
      metadata_ends_rules order index metadata
      ++ (packet_ends_rules order index sequence
      ++ (set_run_rules order index sequence
      ++ rest_rules order index metadata sequence))

  -- All rules of the set check.
  unfoldable pub set_rules : List ℕ → List ℕ → List ℕ → List (Rule Refusal)
  set_rules index metadata sequence =
      file_rules order index metadata sequence
      ++ (layout_rules order index sequence
      ++ content_rules index metadata sequence)

  -- The other rules of demand 3: all that the check asks except 7 for the packet ends and 17.
  unfoldable pub other_rules : List ℕ → List ℕ → List ℕ → List (Rule Refusal)
  other_rules index metadata sequence =
      file_rules order index metadata sequence
      ++ (layout_rules order index sequence
      ++ (metadata_ends_rules order index metadata
      ++ rest_rules order index metadata sequence))

-- The answer of the set check, in the byte order that the index shows: passing returns the set's record.
unfoldable pub set_check : List ℕ → List ℕ → List ℕ → Result SetRecord Refusal
set_check index metadata sequence =
    verdict Err (Ok (record_of (set_order index) index)) (set_rules (set_order index) index metadata sequence)

-- The number of a byte order among the values of an answer.
abbrev pub order_number : Order → ℕ
order_number Little = 0
order_number Big = 1

-- Document 01's number of an answer, and its values: the ten header fields in file order, and the byte order.
abbrev pub set_number : Result SetRecord Refusal → ℕ
set_number (Ok set) = 0
set_number (Err r) = number_of r

abbrev pub set_record_values : SetRecord → List ℕ
set_record_values set =
    set.magic
    ∷ set.tag
    ∷ set.alphabet
    ∷ set.flags
    ∷ set.longest_name
    ∷ set.longest_accession
    ∷ set.longest_description
    ∷ set.longest_sequence
    ∷ set.count
    ∷ set.residues
    ∷ order_number set.order
    ∷ []

abbrev pub set_values : Result SetRecord Refusal → List ℕ
set_values (Ok set) = set_record_values set
set_values (Err r) = []
