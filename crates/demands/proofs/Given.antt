-- What a sequence that decodes leaves in the output, place by place. Assumes nothing.
use mathlib.Core.Path.{◌≡◌, sym, ap, ◌∙◌}
use mathlib.Core.Bool.{true, false}
use mathlib.Core.List.{List}
use mathlib.Core.Logic.{◌⊎◌}
use Prim.Native.Nat.{ℕ, ◌+◌, ◌-◌, ◌/◌, ◌%◌, ◌^◌, ◌≤◌, ◌<◌}
use native.Mathlib.Omega.{arith}
use lib.ListN.{length, get_or}
use Rattle.laws.specs.Rules.{AllHold}
use Rattle.laws.specs.Writing.{written_at}
use Rattle.laws.proofs.Places.{list_to_at}
use Rattle.laws.proofs.Storing.{written_inside, written_after}
use Rattle.residues.specs.Tables.{ambiguity_code, protein_code}
use Rattle.volume.specs.Index.{is_protein}
use Rattle.volume.specs.Tables.{sequence_start, protein_length, dna_end, dna_length, sequence_length}
use Rattle.sequence.specs.Bases.{base_at}
use Rattle.sequence.specs.Corrections.{correction_at, range_corrections, corrected_at, range_rules}
use Rattle.sequence.specs.Sequence.{byte_from, range_end, decode_answer}
use Rattle.sequence.specs.Sequence.{decode_number, residues_of, decode_output}
use Rattle.sequence.specs.Holds.{HasEntries}
use Rattle.sequence.proofs.Answers.{residues-protein, residues-dna}
use Rattle.sequence.proofs.Corrected.{residue_at}
use Rattle.sequence.proofs.Exact.{base_of, covered_residue, base_residue}
use Rattle.sequence.proofs.Decoded.{decoded_room, range-holds, residue_count_lem, decoded_output}

module _ (index sequence : List ℕ) (i : ℕ) (output : List ℕ) (decodes : decode_number (decode_answer index sequence i (length output)) ≡ 0) where
  -- the codes by place: they are at the start of the output, and what follows them is as it was
  module _ (k d : ℕ) where
    abbrev codes : List ℕ
    codes = residues_of index sequence i

    codes_fit_lem : 0 + length codes ≤ length output
    codes_fit_lem =
        let n = residue_count_lem index sequence i (length output) decodes in
        let room = decoded_room index sequence i (length output) decodes in
        omega arith

    output_at : get_or (decode_output index sequence i output) k d ≡ get_or (written_at 0 codes output) k d
    output_at = ap (λ (xs : List ℕ). get_or xs k d) (decoded_output index sequence i output decodes)

    code_at : k < sequence_length index sequence i → get_or (decode_output index sequence i output) k d ≡ get_or codes k d
    code_at h =
        let n = residue_count_lem index sequence i (length output) decodes in
        let e : k - 0 ≡ k = omega arith in
        output_at ∙ written_inside 0 codes output codes_fit_lem k d (omega arith) (omega arith) ∙ ap (λ (j : ℕ). get_or codes j d) e

    rest_at : sequence_length index sequence i ≤ k → get_or (decode_output index sequence i output) k d ≡ get_or output k d
    rest_at h =
        let n = residue_count_lem index sequence i (length output) decodes in
        output_at ∙ written_after 0 codes output codes_fit_lem k d (omega arith)

  -- ---- protein

  module _ (t : is_protein index ≡ true) where
    -- the code of each byte
    pub protein_decoded_lem : (k d : ℕ) → k < protein_length index i
        → get_or (decode_output index sequence i output) k d ≡ protein_code (get_or sequence (sequence_start index i + k) 0)
    protein_decoded_lem k d h =
        code_at k d (rw t h)
        ∙ ap (λ (xs : List ℕ). get_or xs k d) (sym (residues-protein index sequence i t))
        ∙ list_to_at (λ (j : ℕ). protein_code (byte_from sequence (sequence_start index i) j)) (protein_length index i) k d h

    -- and the rest as it was
    pub protein_rest : (k d : ℕ) → protein_length index i ≤ k → get_or (decode_output index sequence i output) k d ≡ get_or output k d
    protein_rest k d h = rest_at k d (rw t h)

  -- ---- DNA

  module _ (t : is_protein index ≡ false) where
    holds : AllHold (range_rules sequence (dna_end index i) (range_end index i) (dna_length index sequence i))
    holds = range-holds index sequence i (length output) decodes t

    dna_decoded_lem : (k d : ℕ) → k < dna_length index sequence i
        → get_or (decode_output index sequence i output) k d
        ≡ corrected_at (range_corrections sequence (dna_end index i) (range_end index i)) k (base_at sequence (sequence_start index i) k)
    dna_decoded_lem k d h =
        code_at k d (rw t h)
        ∙ ap (λ (xs : List ℕ). get_or xs k d) (sym (residues-dna index sequence i t))
        ∙ residue_at sequence (sequence_start index i) (dna_end index i) (range_end index i) (dna_length index sequence i) holds k d h

    module _ (w n : ℕ) (e : HasEntries sequence (dna_end index i) (range_end index i) w n) (k d : ℕ) where
      -- the code of the entry that covers the place
      pub dna_covered : (j : ℕ) → j < n →
          let entry = correction_at sequence (dna_end index i + 4) w j in
          entry.start ≤ k → k < entry.start + entry.length → get_or (decode_output index sequence i output) k d ≡ ambiguity_code entry.value
      dna_covered j h a b =
          let c = covered_residue sequence (dna_end index i) (range_end index i) (dna_length index sequence i) w n holds e k
          (base_at sequence (sequence_start index i) k) j h a b in
          dna_decoded_lem k d c.0 ∙ c.1

      -- the base where none does
      pub dna_base : k < dna_length index sequence i
          → ((j : ℕ) → j < n →
          let entry = correction_at sequence (dna_end index i + 4) w j in
          (k < entry.start) ⊎ (entry.start + entry.length ≤ k))
          → get_or (decode_output index sequence i output) k d ≡ get_or sequence (sequence_start index i + k / 4) 0 / 4 ^ (3 - k % 4) % 4
      dna_base h o =
          dna_decoded_lem k d h
          ∙ base_residue sequence (dna_end index i) (range_end index i) (dna_length index sequence i) w n holds e k
          (base_at sequence (sequence_start index i) k) o
          ∙ base_of sequence (sequence_start index i) k

    pub dna_rest : (k d : ℕ) → dna_length index sequence i ≤ k → get_or (decode_output index sequence i output) k d ≡ get_or output k d
    dna_rest k d h = rest_at k d (rw t h)
