-- What decoding can answer for a sequence of a volume that passes the volume check. Assumes nothing.
use mathlib.Core.Path.{◌≡◌, refl, sym, ap, ◌∙◌}
use mathlib.Core.Bool.{Bool, true, false, cond}
use mathlib.Core.List.{List, ◌++◌}
use mathlib.Core.Logic.{◌⊎◌, inl, inr, ⊎_elim}
use Prim.Native.Nat.{ℕ, ◌+◌, ◌≤◌, ◌<◌}
use native.Mathlib.Omega.{arith}
use borrow.Author.Tests.{leb-true, leb-false, le-leb, lt-ltb}
use lib.Dec.{leb}
use lib.IntN.{pos}
use lib.ListN.{get_or}
use Rattle.std.specs.Prelude.{Result, Ok, Err}
use Rattle.laws.specs.Places.{every}
use Rattle.laws.specs.Rules.{Rule, verdict, AllHold}
use Rattle.laws.proofs.Places.{every-all}
use Rattle.laws.proofs.Rules.{verdict-passes, verdict-append, hold-append}
use Rattle.laws.proofs.Tests.{bool_cases}
use Rattle.answers.specs.declared.Refusal.{Refusal}
use Rattle.answers.specs.declared.Refusal.TheVariants.{BadProteinByte, BadAmbiguity, NoRoom}
use Rattle.volume.specs.Index.{stated_type, is_protein, sequences, read_rules, index_of}
use Rattle.volume.specs.Tables.{sequence_start, protein_length, dna_end, dna_length, sequence_length, protein_offset_rules, protein_separator_rules, dna_offset_rules}
use Rattle.volume.specs.Volume.{volume_answer, volume_number}
use Rattle.volume.proofs.Exact as Exact
use Rattle.volume.proofs.Named.{SizeTests, size_tests}
use Rattle.sequence.specs.Checked.{OnlyResidues}
use Rattle.sequence.specs.Corrections.{is_table, entry_width, entry_count, entry_fits, range_rules}
use Rattle.sequence.specs.Sequence.{range_end, is_protein_byte, protein_entry_rules, protein_byte_rules, dna_entry_rules}
use Rattle.sequence.specs.Sequence.{sequence_rules, room_rules, own_answer, decode_answer, decode_number}
use Rattle.sequence.specs.Holds.{RangeHolds}
use Rattle.sequence.proofs.Answers.{own_protein, own_dna, decode_read}
use Rattle.sequence.proofs.Exact.{range_test, parts_zero}
use Rattle.sequence.proofs.Passed.{protein-entries, dna-entries}

-- the room decides last
module _ (l room : ℕ) where
  abbrev last : Result ℕ Refusal
  last = verdict Err (Ok l) (room_rules l room)

  room_decides : (b : Bool) → leb l room ≡ b → (last ≡ Ok l) ⊎ ((last ≡ Err NoRoom) × (room < l))
  room_decides true e = inl (rw e)
  room_decides false e = inr (rw e, leb-false l room e)

  -- two tests with one refusal before it
  decided : (x : Result ℕ Refusal) (a b : Bool) (wrong : Refusal) → x ≡ cond a (cond b last (Err wrong)) (Err wrong)
      → (x ≡ Ok l) ⊎ ((x ≡ Err wrong) ⊎ ((x ≡ Err NoRoom) × (room < l)))
  decided x true true wrong e = ⊎_elim (λ p. inl (e ∙ p)) (λ q. inr (inr (e ∙ q.0, q.1))) (room_decides (leb l room) refl)
  decided x true false wrong e = inr (inl e)
  decided x false b wrong e = inr (inl e)

  -- the rules of the entries hold: what is asked after them decides
  entries-hold : (entries rest : List (Rule Refusal)) → AllHold entries
      → verdict Err (Ok l) ((entries ++ rest) ++ room_rules l room) ≡ verdict Err last rest
  entries-hold entries rest h =
      verdict-append Err (Ok l) (entries ++ rest) (room_rules l room)
      ∙ verdict-append Err last entries rest
      ∙ verdict-passes Err (verdict Err last rest) entries h

module _ (index sequence header : List ℕ) (passes : volume_number (volume_answer index sequence header) ≡ 0) (i : ℕ) (below : i < sequences index)
    (room : ℕ) where
  parts : Exact.VolumeParts index sequence header
  parts = Exact.volume_parts index sequence header (Exact.zero-all index sequence header passes)

  protein-holds : is_protein index ≡ true → AllHold (protein_entry_rules index sequence i)
  protein-holds t =
      let p = parts.sequences_hold in
      let q = parts.separators_hold in
      let o : AllHold (protein_offset_rules index sequence) = rw t at p in
      let s : AllHold (protein_separator_rules index sequence) = rw t at q in
      protein-entries index sequence o s i below

  dna-holds : is_protein index ≡ false → AllHold (dna_entry_rules index sequence i)
  dna-holds t =
      let p = parts.sequences_hold in
      let o : AllHold (dna_offset_rules index sequence) = rw t at p in
      dna-entries index sequence o i below

  sizes : SizeTests index sequence header
  sizes = size_tests index sequence header parts.sizes_hold

  own_decides : own_answer index sequence i room ≡ decode_answer index sequence i room
  own_decides =
      decode_read index sequence i room (leb-true _ _ sizes.sequence_fits) (index_of index)
      (verdict-passes Err (Ok (index_of index)) (read_rules index) (sizes.index_fits, parts.index_holds))

  protein_only : is_protein index ≡ true → OnlyResidues index sequence i room
  protein_only t =
      let rest = protein_byte_rules sequence (sequence_start index i) (protein_length index i) in
      let h = protein-holds t in
      let e : decode_answer index sequence i room ≡ verdict Err (last (protein_length index i) room) rest =
      sym own_decides
      ∙ sym (own_protein index sequence i room below t)
      ∙ entries-hold (protein_length index i) room (protein_entry_rules index sequence i) rest h in
      let bytes = every (is_protein_byte sequence (sequence_start index i)) (protein_length index i) in
      let d = decided (protein_length index i) room (decode_answer index sequence i room) true bytes BadProteinByte e in
      rw t (⊎_elim inl (λ x. inr (⊎_elim inl (λ y. inr (inr y)) x)) d)

  dna_only : is_protein index ≡ false → OnlyResidues index sequence i room
  dna_only t =
      let l = dna_length index sequence i in
      let place = dna_end index i in
      let end = range_end index i in
      let rest = range_rules sequence place end l in
      let h = dna-holds t in
      let e : decode_answer index sequence i room ≡ verdict Err (last l room) rest =
      sym own_decides ∙ sym (own_dna index sequence i room below t) ∙ entries-hold l room (dna_entry_rules index sequence i) rest h in
      let fit = every (entry_fits sequence (place + 4) (entry_width sequence place) l) (entry_count sequence place end) in
      let d = decided l room (decode_answer index sequence i room) (is_table sequence place end) fit BadAmbiguity e in
      rw t (⊎_elim inl (λ x. inr (inr x)) d)

  -- For every sequence of a volume that passes the volume check only 11, 12 and 13 remain, and 13 only where the room is below L, the length
  -- that the check summed.
  pub decode_only_residues : OnlyResidues index sequence i room
  decode_only_residues = bool_cases (is_protein index) protein_only dna_only

  -- So with room for L bytes 13 is not answered.
  pub decode_has_room : sequence_length index sequence i ≤ room → decode_number (decode_answer index sequence i room) ≡ 13 → ⊥
  decode_has_room h e = no (decode_only_residues)
    where
      no : OnlyResidues index sequence i room → ⊥
      no (inl a) = let z : ◌≡◌ {A = ℕ} 0 13 = sym (ap decode_number a) ∙ e in omega arith
      no (inr (inl a)) = let z : ◌≡◌ {A = ℕ} 11 13 = sym (ap decode_number a) ∙ e in omega arith
      no (inr (inr (inl a))) = let z : ◌≡◌ {A = ℕ} 12 13 = sym (ap decode_number a) ∙ e in omega arith
      no (inr (inr (inr a))) = let l = a.1 in omega arith

  own_zero : AllHold (sequence_rules index sequence i) → sequence_length index sequence i ≤ room → decode_number (decode_answer index sequence i room) ≡ 0
  own_zero h fits =
      parts_zero index sequence i room
      (record {
        sequence_fits = sizes.sequence_fits;
        index_fits = sizes.index_fits;
        index_holds = parts.index_holds;
        below = lt-ltb i (sequences index) below;
        own_hold = h;
        fits = le-leb _ room fits;
      })

  -- With room for L bytes a protein without a byte above 27 decodes, and DNA with a good ambiguity range.
  pub checked_protein_decodes : stated_type index ≡ pos 1 → protein_length index i ≤ room
      → ((k : ℕ) → k < protein_length index i → get_or sequence (sequence_start index i + k) 0 ≤ 27) → decode_number (decode_answer index sequence i room) ≡ 0
  checked_protein_decodes e fits h =
      let t = Exact.protein-type index e in
      let rest = protein_byte_rules sequence (sequence_start index i) (protein_length index i) in
      let bytes : AllHold rest = (every-all (is_protein_byte sequence (sequence_start index i)) (protein_length index i) (λ k l. le-leb _ 27 (h k l)), tt) in
      own_zero (rw t (hold-append (protein_entry_rules index sequence i) rest (protein-holds t) bytes)) (rw t fits)

  pub checked_dna_decodes : stated_type index ≡ pos 0 → dna_length index sequence i ≤ room
      → RangeHolds sequence (dna_end index i) (range_end index i) (dna_length index sequence i) → decode_number (decode_answer index sequence i room) ≡ 0
  checked_dna_decodes e fits h =
      let t = Exact.dna-type index e in
      let rest = range_rules sequence (dna_end index i) (range_end index i) (dna_length index sequence i) in
      let range : AllHold rest = range_test sequence (dna_end index i) (range_end index i) (dna_length index sequence i) h in
      own_zero (rw t (hold-append (dna_entry_rules index sequence i) rest (dna-holds t) range)) (rw t fits)
