-- What document 01 asks of a volume, rule by rule, in plain statements. proofs/Exact.antt shows that the check passes exactly the
-- volumes of which all of them hold.
-- Assumes nothing.
use Rattle.std.specs.Prelude.{◌≡◌, List, ◌⊎◌, ℕ, ◌+◌, ◌*◌, ◌%◌, ◌≤◌, ◌<◌, pos, length, get_or, ◌≤ℤ◌, ◌<ℤ◌}
use Rattle.laws.specs.Places.{sum_to, largest_to}
use Rattle.volume.specs.Index.{stated_version, stated_type, stated_title_length, stated_timestamp_length, timestamp_end, timestamp_alignment}
use Rattle.volume.specs.Index.{stated_sequences, sequences, most_sequences, stated_residues, stated_longest, table_size, header_table}
use Rattle.volume.specs.Tables.{header_offset, sequence_offset, ambiguity_offset, first_nucleotide_offset, protein_end, protein_length, dna_length}

-- The fixed fields.
pub record FieldsHold (index : List ℕ) : Type 0 where
  -- the version is 4
  pub version : stated_version index ≡ pos 4
  -- the type is 0 or 1
  pub type : (stated_type index ≡ pos 0) ⊎ (stated_type index ≡ pos 1)
  -- lengths, N, count and longest are not negative
  pub title : pos 0 ≤ℤ stated_title_length index
  pub timestamp : pos 0 ≤ℤ stated_timestamp_length index
  pub number : pos 0 ≤ℤ stated_sequences index
  pub count : pos 0 ≤ℤ stated_residues index
  pub longest : pos 0 ≤ℤ stated_longest index
  -- N is at most 134,217,728
  pub few : stated_sequences index ≤ℤ pos most_sequences
  -- the timestamp ends at a multiple of 4 from the file's start
  pub aligned : timestamp_end index % timestamp_alignment ≡ 0
  -- two tables for protein, three for DNA, and nothing after them
  pub protein_whole : stated_type index ≡ pos 1 → length index ≡ header_table index + 2 * table_size index
  pub dna_whole : stated_type index ≡ pos 0 → length index ≡ header_table index + 3 * table_size index

-- Headers: first 0, never falling, last equal to the header file's length.
pub record HeadersHold (index header : List ℕ) : Type 0 where
  pub first : header_offset index 0 ≡ pos 0
  pub steps : (i : ℕ) → i < sequences index → header_offset index i ≤ℤ header_offset index (i + 1)
  pub last : header_offset index (sequences index) ≡ pos (length header)

-- The stated totals, for the lengths that the sequences have.
pub record TotalsHold (index : List ℕ) (length_of : ℕ → ℕ) : Type 0 where
  pub sum : pos (sum_to length_of (sequences index)) ≡ stated_residues index
  pub largest : pos (largest_to length_of (sequences index)) ≡ stated_longest index

-- A protein volume.
pub record ProteinHolds (index sequence : List ℕ) : Type 0 where
  -- first 1, each at least one above the previous, last the file's length
  pub first : sequence_offset index 0 ≡ pos 1
  pub steps : (i : ℕ) → i < sequences index → sequence_offset index i <ℤ sequence_offset index (i + 1)
  pub last : sequence_offset index (sequences index) ≡ pos (length sequence)
  -- byte 0 and the byte before each later offset are NUL
  pub byte_zero : get_or sequence 0 0 ≡ 0
  pub separators : (i : ℕ) → i < sequences index → get_or sequence (protein_end index i) 0 ≡ 0
  pub totals : TotalsHold index (protein_length index)

-- A DNA volume.
pub record DnaHolds (index sequence : List ℕ) : Type 0 where
  -- S[0] is 0
  pub first : sequence_offset index 0 ≡ pos first_nucleotide_offset
  -- S[i] < A[i] <= S[i+1]
  pub above : (i : ℕ) → i < sequences index → sequence_offset index i <ℤ ambiguity_offset index i
  pub below : (i : ℕ) → i < sequences index → ambiguity_offset index i ≤ℤ sequence_offset index (i + 1)
  -- S[N] and A[N] equal the file's length
  pub last : sequence_offset index (sequences index) ≡ pos (length sequence)
  pub last_ambiguity : ambiguity_offset index (sequences index) ≡ pos (length sequence)
  pub totals : TotalsHold index (dna_length index sequence)

-- All that the check asks.
pub record VolumeHolds (index sequence header : List ℕ) : Type 0 where
  -- no file is over 2,147,483,647 bytes
  pub index_size : length index ≤ 2147483647
  pub sequence_size : length sequence ≤ 2147483647
  pub header_size : length header ≤ 2147483647
  pub fields : FieldsHold index
  pub headers : HeadersHold index header
  pub protein : stated_type index ≡ pos 1 → ProteinHolds index sequence
  pub dna : stated_type index ≡ pos 0 → DnaHolds index sequence
