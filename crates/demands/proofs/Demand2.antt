-- Demand 2 for volumes, sets, header records and sequences: a check passes, and a sequence decodes, exactly when document 01's rules hold; what decoding
-- can answer for a sequence of a volume that passes, and what it gives. Reading an index, lookups, steps, identifiers and labels are in Demand2Reads, packing
-- and unpacking in Demand2Packets and Demand2Console. Assumes nothing.
use Rattle.std.specs.Prelude.{Ok}
use mathlib.Core.Path.{◌≡◌, refl, ap}
use mathlib.Core.List.{List, [], ◌∷◌}
use mathlib.Core.Logic.{◌⊎◌}
use Prim.Native.Nat.{ℕ, ◌+◌, ◌-◌, ◌/◌, ◌%◌, ◌^◌, ◌≤◌, ◌<◌}
use lib.IntN.{pos}
use lib.ListN.{length, get_or}
use borrow.Author.Tests.{le-leb, leb-true}
use Rattle.laws.specs.Writing.{written_at}
use Rattle.fields.specs.declared.Order.{Order}
use Rattle.residues.specs.Tables.{ambiguity_code, protein_code}
use Rattle.volume.specs.Index.{stated_type, sequences}
use Rattle.volume.specs.Tables.{sequence_start, protein_length, dna_end, dna_length, sequence_length}
use Rattle.volume.specs.Volume.{volume_record, volume_answer, volume_number, volume_values, record_values}
use Rattle.volume.specs.Holds.{VolumeHolds}
use Rattle.volume.proofs.Exact as Exact
use Rattle.volume.proofs.HeaderFile.{header_length_alone}
use Rattle.sequence.specs.Checked.{OnlyResidues}
use Rattle.sequence.specs.Corrections.{correction_of, correction_at}
use Rattle.sequence.specs.Sequence.{range_end, decode_answer, decode_output, decode_number, decode_values}
use Rattle.sequence.specs.Holds.{HasEntries, RangeHolds, SequenceHolds}
use Rattle.sequence.proofs.Exact as Decoding
use Rattle.sequence.proofs.Checked as Sequence
use Rattle.dsqdata.specs.Header.{set_order, record_of}
use Rattle.dsqdata.specs.Check.{set_check, set_number, set_values, set_record_values}
use Rattle.dsqdata.specs.Rules.{SetRules}
use Rattle.dsqdata.proofs.SetRules.{zero_rules, rules_zero}
use Rattle.headers.specs.Record.{check_record}
use Rattle.headers.specs.Statement.{GoodRecord}
use Rattle.headers.proofs.Record.{passes-good, good-passes}
use Rattle.console.specs.Results.{result_bytes}
use Rattle.console.specs.Calls.{console_volume, volume_results}
use Rattle.console.proofs.Values.{put_room}
use Rattle.console.proofs.Volume as Volume
use Rattle.demands.proofs.Given as goal

-- ---- volumes

-- The volume check passes only volumes of which the rules hold, and returns their record.
module _ (index sequence header : List ℕ) where
  pub volume_passes_only : volume_number (volume_answer index sequence header) ≡ 0
      → VolumeHolds index sequence header × (volume_values (volume_answer index sequence header) ≡ record_values (volume_record index))
  volume_passes_only = Exact.zero_rules index sequence header

  -- A volume of which they hold passes.
  pub volume_passes : VolumeHolds index sequence header → volume_number (volume_answer index sequence header) ≡ 0
  volume_passes = Exact.rules_zero index sequence header

  -- The console's check passes only volumes of which they hold, with a results range of at least 64 bytes, and leaves their record there as eight-byte
  -- little-endian numbers; and it passes those.
  module _ (results : List ℕ) where
    pub gull_volume_passes_only : volume_number (console_volume index sequence header (length results)) ≡ 0
        → VolumeHolds index sequence header × (64 ≤ length results)
        × (volume_results (console_volume index sequence header (length results)) results ≡ written_at 0
        (result_bytes (record_values (volume_record index))) results)
    gull_volume_passes_only z =
        let fits = Volume.zero_room index sequence header (length results) z in
        let same = Volume.volume_room index sequence header (length results) fits in
        let enough = leb-true 64 (length results) fits in
        let p = volume_passes_only (rw same at z) in
        (p.0, enough, rw (same, p.1) (put_room (record_values (volume_record index)) results enough))

    pub gull_volume_passes : VolumeHolds index sequence header → 64 ≤ length results → volume_number (console_volume index sequence header (length results)) ≡ 0
    gull_volume_passes h enough = rw (Volume.volume_room index sequence header (length results) (le-leb 64 (length results) enough)) (volume_passes h)

    -- Of the header file it asks the length alone: with another of the same length it answers the same.
    pub gull_volume_header_length : (other : List ℕ) → length header ≡ length other
        → console_volume index sequence header (length results) ≡ console_volume index sequence other (length results)
    unfolding console_volume
    gull_volume_header_length other e = rw (header_length_alone index sequence header other e)

-- ---- sets

-- The set check passes only sets of which the rules hold in the byte order that the index shows; and it passes those of which they hold in
-- an order, and returns their record in that order.
pub set-passes_only : (index metadata sequence : List ℕ) → set_number (set_check index metadata sequence) ≡ 0
    → SetRules (set_order index) index metadata sequence
set-passes_only index metadata sequence = zero_rules index metadata sequence

pub set-passes : (index metadata sequence : List ℕ) (order : Order) → SetRules order index metadata sequence
    → (set_number (set_check index metadata sequence) ≡ 0) × (set_values (set_check index metadata sequence) ≡ set_record_values (record_of order index))
set-passes index metadata sequence = rules_zero index metadata sequence

-- ---- header records

-- The record check passes exactly the records of which the rules hold.
module _ (header : List ℕ) (start end : ℕ) where
  pub record-passes_only : check_record header start end ≡ Ok tt → GoodRecord header start end
  record-passes_only = passes-good header start end

  pub record-passes : GoodRecord header start end → check_record header start end ≡ Ok tt
  record-passes = good-passes header start end

-- ---- one sequence

module _ (index sequence : List ℕ) (i room : ℕ) where
  -- Decoding answers 0 only for a sequence of which the rules hold, and returns L, its length.
  pub sequence_decodes_only : decode_number (decode_answer index sequence i room) ≡ 0
      → SequenceHolds index sequence i room × (decode_values (decode_answer index sequence i room) ≡ sequence_length index sequence i ∷ [])
  sequence_decodes_only z = let p = Decoding.zero_rules index sequence i room z in (p.0, ap decode_values p.1)

  -- It answers 0 for every sequence of which they hold.
  pub sequence_decodes : SequenceHolds index sequence i room → decode_number (decode_answer index sequence i room) ≡ 0
  sequence_decodes = Decoding.rules_zero index sequence i room

  -- A protein is never refused with 12, DNA never with 11.
  pub protein_never_12 : stated_type index ≡ pos 1 → decode_number (decode_answer index sequence i room) ≡ 12 → ⊥
  protein_never_12 = Decoding.protein_never_12 index sequence i room

  pub dna_never_11 : stated_type index ≡ pos 0 → decode_number (decode_answer index sequence i room) ≡ 11 → ⊥
  dna_never_11 = Decoding.dna_never_11 index sequence i room

module _ (index sequence header : List ℕ) (passes : volume_number (volume_answer index sequence header) ≡ 0) (i : ℕ) (below : i < sequences index)
    (room : ℕ) where
  -- For every sequence of a volume that passes the volume check only 11, 12 and 13 remain, and 13 only where the room is below L, the length
  -- that the check summed.
  pub decode_only_residues : OnlyResidues index sequence i room
  decode_only_residues = Sequence.decode_only_residues index sequence header passes i below room

  -- So with room for L bytes 13 is not answered.
  pub decode_has_room : sequence_length index sequence i ≤ room → decode_number (decode_answer index sequence i room) ≡ 13 → ⊥
  decode_has_room = Sequence.decode_has_room index sequence header passes i below room

  -- With room for L bytes a protein without a byte above 27 decodes, and DNA with a good ambiguity range.
  pub checked_protein_decodes : stated_type index ≡ pos 1 → protein_length index i ≤ room
      → ((k : ℕ) → k < protein_length index i → get_or sequence (sequence_start index i + k) 0 ≤ 27) → decode_number (decode_answer index sequence i room) ≡ 0
  checked_protein_decodes = Sequence.checked_protein_decodes index sequence header passes i below room

  pub checked_dna_decodes : stated_type index ≡ pos 0 → dna_length index sequence i ≤ room
      → RangeHolds sequence (dna_end index i) (range_end index i) (dna_length index sequence i) → decode_number (decode_answer index sequence i room) ≡ 0
  checked_dna_decodes = Sequence.checked_dna_decodes index sequence header passes i below room

-- The entries of an ambiguity range. Of 4 bytes: 4 bits value, 4 bits repeat less one, 24 bits offset; of 8 bytes: 4, 12 and 48 bits.
pub narrow_entry : (entry : ℕ) → correction_of 4 entry ≡ record { value = entry / 2 ^ 28; start = entry % 2 ^ 24; length = entry / 2 ^ 24 % 2 ^ 4 + 1 }
unfolding correction_of
narrow_entry entry = refl

pub wide_entry : (entry : ℕ) → correction_of 8 entry ≡ record { value = entry / 2 ^ 60; start = entry % 2 ^ 48; length = entry / 2 ^ 48 % 2 ^ 12 + 1 }
unfolding correction_of
wide_entry entry = refl

-- A sequence that decodes: its first L bytes are the residues that the format gives, corrections applied, and the other bytes are as they were.
module _ (index sequence : List ℕ) (i : ℕ) (output : List ℕ) (decodes : decode_number (decode_answer index sequence i (length output)) ≡ 0) where
  -- residue k of a protein is the code of byte k from S[i] on
  pub protein_residue : stated_type index ≡ pos 1 → (k d : ℕ) → k < protein_length index i
      → get_or (decode_output index sequence i output) k d ≡ protein_code (get_or sequence (sequence_start index i + k) 0)
  protein_residue e = goal.protein_decoded_lem index sequence i output decodes (Exact.protein-type index e)

  pub protein_rest : stated_type index ≡ pos 1 → (k d : ℕ) → protein_length index i ≤ k → get_or (decode_output index sequence i output) k d ≡ get_or output k d
  protein_rest e = goal.protein_rest index sequence i output decodes (Exact.protein-type index e)

  -- residue k of a DNA sequence whose ambiguity range has n entries of w bytes: where entry j covers it, the code of that entry's value ..
  pub dna_covered : stated_type index ≡ pos 0 → (w n : ℕ) → HasEntries sequence (dna_end index i) (range_end index i) w n → (k d j : ℕ) → j < n →
      let entry = correction_at sequence (dna_end index i + 4) w j in
      entry.start ≤ k → k < entry.start + entry.length → get_or (decode_output index sequence i output) k d ≡ ambiguity_code entry.value
  dna_covered e = goal.dna_covered index sequence i output decodes (Exact.dna-type index e)

  -- .. and where none does, its base: two bits of a byte from S[i] on, highest first
  pub dna_base : stated_type index ≡ pos 0 → (w n : ℕ) → HasEntries sequence (dna_end index i) (range_end index i) w n → (k d : ℕ)
      → k < dna_length index sequence i
      → ((j : ℕ) → j < n →
      let entry = correction_at sequence (dna_end index i + 4) w j in
      (k < entry.start) ⊎ (entry.start + entry.length ≤ k))
      → get_or (decode_output index sequence i output) k d ≡ get_or sequence (sequence_start index i + k / 4) 0 / 4 ^ (3 - k % 4) % 4
  dna_base e = goal.dna_base index sequence i output decodes (Exact.dna-type index e)

  pub dna_rest : stated_type index ≡ pos 0 → (k d : ℕ) → dna_length index sequence i ≤ k → get_or (decode_output index sequence i output) k d ≡ get_or output k d
  dna_rest e = goal.dna_rest index sequence i output decodes (Exact.dna-type index e)
