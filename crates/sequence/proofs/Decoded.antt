-- A sequence that decodes: it has as many residues as its answer says, and they stand at the start of the output; and what decoding leaves of an output
-- whatever it answers. Assumes nothing.
use mathlib.Core.Path.{◌≡◌, refl, sym, ap, ◌∙◌}
use mathlib.Core.Bool.{false}
use mathlib.Core.List.{List}
use Prim.Native.Nat.{ℕ, ◌≤◌}
use native.Mathlib.Omega.{arith}
use borrow.Author.Tests.{leb-true}
use lib.ListN.{length}
use Rattle.std.specs.Prelude.{Result, Ok, Err}
use Rattle.laws.specs.Rules.{AllHold}
use Rattle.laws.specs.Writing.{written_at}
use Rattle.laws.proofs.Places.{length-list_to}
use Rattle.laws.proofs.Rules.{hold-second}
use Rattle.laws.proofs.Tests.{bool_cases}
use Rattle.laws.proofs.Writing.{length_written}
use Rattle.answers.specs.declared.Refusal.{Refusal}
use Rattle.residues.specs.Tables.{protein_code}
use Rattle.volume.specs.Index.{is_protein}
use Rattle.volume.specs.Tables.{sequence_start, protein_length, dna_end, dna_length, sequence_length}
use Rattle.sequence.specs.Corrections.{range_rules}
use Rattle.sequence.specs.Sequence.{byte_from, range_end, dna_entry_rules, dna_rules, decode_rules, decode_answer}
use Rattle.sequence.specs.Sequence.{decode_number, protein_decoded, dna_decoded, residues_of, decode_output}
use Rattle.sequence.proofs.Answers.{residues-protein, residues-dna, output_by}
use Rattle.sequence.proofs.Corrected as Corrected
use Rattle.sequence.proofs.Exact.{DecodeParts, decode_parts, zero_passed}

module _ (index sequence : List ℕ) (i room : ℕ) (decodes : decode_number (decode_answer index sequence i room) ≡ 0) where
  all : AllHold (decode_rules index sequence i room) × (decode_answer index sequence i room ≡ Ok (sequence_length index sequence i))
  all = zero_passed index sequence i room decodes

  parts : DecodeParts index sequence i room
  parts = decode_parts index sequence i room all.0

  -- the room is enough for the residues
  pub decoded_room : sequence_length index sequence i ≤ room
  decoded_room = leb-true (sequence_length index sequence i) room parts.fits

  -- the rules of the ambiguity range of a DNA sequence hold
  pub range-holds : is_protein index ≡ false → AllHold (range_rules sequence (dna_end index i) (range_end index i) (dna_length index sequence i))
  range-holds t =
      let a = parts.own_hold in
      let b : AllHold (dna_rules index sequence i) = rw t at a in
      hold-second (dna_entry_rules index sequence i) (range_rules sequence (dna_end index i) (range_end index i) (dna_length index sequence i)) b

  protein-count : length (protein_decoded index sequence i) ≡ protein_length index i
  protein-count = length-list_to (λ (k : ℕ). protein_code (byte_from sequence (sequence_start index i) k)) (protein_length index i)

  dna-count : is_protein index ≡ false → length (dna_decoded index sequence i) ≡ dna_length index sequence i
  dna-count t =
      Corrected.length-residues sequence (sequence_start index i) (dna_end index i) (range_end index i) (dna_length index sequence i) (range-holds t)

  -- the residues are as many as the length says
  pub residue_count_lem : length (residues_of index sequence i) ≡ sequence_length index sequence i
  residue_count_lem =
      bool_cases (is_protein index) (λ t. rw t (ap length (sym (residues-protein index sequence i t)) ∙ protein-count))
      (λ t. rw t (ap length (sym (residues-dna index sequence i t)) ∙ dna-count t))

-- the same from the answer
module _ (index sequence : List ℕ) (i room l : ℕ) (e : decode_answer index sequence i room ≡ Ok l) where
  zero : decode_number (decode_answer index sequence i room) ≡ 0
  zero = ap decode_number e

  pub decoded_length : l ≡ sequence_length index sequence i
  decoded_length = let f : ◌≡◌ {A = Result ℕ Refusal} (Ok l) (Ok (sequence_length index sequence i)) = sym e ∙ (all index sequence i room zero).1 in cc

  pub decoded_fits : l ≤ room
  decoded_fits = let f = decoded_room index sequence i room zero in rw decoded_length f

  pub decoded_count : length (residues_of index sequence i) ≡ l
  decoded_count = residue_count_lem index sequence i room zero ∙ sym decoded_length

-- ---- the output

module _ (index sequence : List ℕ) (i : ℕ) (output : List ℕ) where
  -- the residues stand at its start
  pub decoded_output : decode_number (decode_answer index sequence i (length output)) ≡ 0
      → decode_output index sequence i output ≡ written_at 0 (residues_of index sequence i) output
  decoded_output z =
      sym (output_by index sequence i output (Ok (sequence_length index sequence i)) (sym (all index sequence i (length output) z).1))

  -- a refusal leaves it as it was
  pub refused-output : (r : Refusal) → decode_answer index sequence i (length output) ≡ Err r → decode_output index sequence i output ≡ output
  refused-output r e = sym (output_by index sequence i output (Err r) (sym e))

  -- it is as long as it was
  pub output-length : length (decode_output index sequence i output) ≡ length output
  output-length = by (decode_answer index sequence i (length output)) refl
    where
      by : (a : Result ℕ Refusal) → decode_answer index sequence i (length output) ≡ a → length (decode_output index sequence i output) ≡ length output
      by (Ok l) e =
          let n = decoded_count index sequence i (length output) l e in
          let f = decoded_fits index sequence i (length output) l e in
          ap length (decoded_output (ap decode_number e)) ∙ length_written 0 (residues_of index sequence i) output (omega arith)
      by (Err r) e = ap length (refused-output r e)
