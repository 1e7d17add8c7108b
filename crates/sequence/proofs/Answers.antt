-- The answer of decoding from the answers of its parts. Assumes nothing.
use mathlib.Core.Path.{◌≡◌, sym, ap, ◌∙◌}
use mathlib.Core.Bool.{true, false}
use mathlib.Core.List.{List, ◌++◌}
use Prim.Native.Nat.{ℕ, ◌+◌, ◌/◌, ◌≤◌, ◌<◌}
use native.Mathlib.Omega.{arith}
use borrow.Author.Tests.{lt-ltb, le-ltb, le-leb, lt-leb, leb-true, ltb-true, eq-eqb, ne_eqb}
use lib.ListN.{length}
use lib.Signed.{non_neg}
use Rattle.std.specs.Prelude.{Result, Ok, Err}
use Rattle.laws.specs.Places.{every}
use Rattle.laws.specs.Rules.{Rule, verdict, AllHold}
use Rattle.laws.proofs.Passing.{passes_with}
use Rattle.laws.proofs.Verdicts.{hold_then}
use Rattle.laws.proofs.Signed.{at_least_zero}
use Rattle.answers.specs.Limits.{checked_by}
use Rattle.answers.specs.declared.Refusal.{Refusal}
use Rattle.answers.specs.declared.Refusal.TheVariants.{BadOffsets, BadProteinByte, NoRoom, NoSuchSequence, TooLarge}
use Rattle.answers.proofs.Checks.{all_hold, passed_first, err-not_ok}
use Rattle.volume.specs.declared.Index.{Index}
use Rattle.volume.specs.Index.{volume_type, is_protein, sequences, read_rules, index_of, index_answer}
use Rattle.volume.specs.Tables.{sequence_offset, sequence_length, sequence_start, protein_length, two_bit_length, dna_length, dna_end}
use Rattle.volume.proofs.Reading.{numbers_are, tables_near, index_read, index_first, index_refused}
use Rattle.sequence.specs.declared.Entry.{Entry}
use Rattle.sequence.specs.declared.RangeEntries.{RangeEntries}
use Rattle.sequence.specs.Tabled.{range_entries, range_answer}
use Rattle.sequence.specs.Corrections.{range_rules}
use Rattle.sequence.specs.Sequence.{range_end, is_protein_byte, protein_byte_rules, protein_rules, dna_rules, room_rules, protein_decoded, dna_decoded}
use Rattle.sequence.specs.Sequence.{own_rules, own_answer, decode_rules, decode_answer, decode_output, residues_of, written_by}
use Rattle.sequence.specs.Placed.{protein_entry, protein_place_rules, placed_protein, placed_protein_answer, placed_protein_residues}
use Rattle.sequence.specs.Placed.{dna_entry, dna_place_rules, placed_dna, placed_dna_answer, placed_dna_residues}
use Rattle.sequence.proofs.Own.{protein_placed, dna_placed}

-- the last byte of l residues
pub last_byte : (sequence : List ℕ) (start end l : ℕ) → start < end → l ≡ two_bit_length sequence start end → start + l / 4 < end
last_byte sequence start end l h e = omega arith

-- ---- by the places, from the answers of the parts

-- the answer where the rules after the places decide
module _ (l room : ℕ) where
  abbrev asked : List (Rule Refusal) → Result ℕ Refusal
  asked rules = verdict Err (Ok l) (rules ++ room_rules l room)

  room-short : room < l → Err NoRoom ≡ verdict Err (Ok l) (room_rules l room)
  room-short h = rw (lt-leb l room h)

  room-enough : l ≤ room → Ok l ≡ verdict Err (Ok l) (room_rules l room)
  room-enough h = rw (le-leb l room h)

-- the places of a protein passed: it lies inside the file, and the bytes and the room decide
pub record ProteinPassed (sequence : List ℕ) (e : Entry) (room : ℕ) : Type 0 where
  pub rises : e.start ≤ e.end
  pub inside : e.end < length sequence
  pub bad : every (is_protein_byte sequence e.start) (placed_protein e) ≡ false → Err BadProteinByte ≡ placed_protein_answer sequence e room
  pub short : every (is_protein_byte sequence e.start) (placed_protein e) ≡ true → room < placed_protein e
      → Err NoRoom ≡ placed_protein_answer sequence e room
  pub enough : every (is_protein_byte sequence e.start) (placed_protein e) ≡ true → placed_protein e ≤ room
      → Ok (placed_protein e) ≡ placed_protein_answer sequence e room

module _ (sequence : List ℕ) (e : Entry) (room : ℕ) (c : Result Unit Refusal) (told : c ≡ checked_by (protein_place_rules sequence e)) where
  abbrev bytes : List (Rule Refusal)
  bytes = protein_byte_rules sequence e.start (placed_protein e)

  pub protein_passed : c ≡ Ok tt → ProteinPassed sequence e room
  protein_passed p =
      let (first, (rises, (inside, h))) = all_hold (protein_place_rules sequence e) c told p in
      let on : asked (placed_protein e) room bytes ≡ placed_protein_answer sequence e room =
      sym (passed_first (protein_place_rules sequence e) (bytes ++ room_rules (placed_protein e) room) c told p Err (Ok (placed_protein e))) in
      record {
        rises = leb-true _ _ rises;
        inside = ltb-true _ _ inside;
        bad = λ t. (let d : Err BadProteinByte ≡ asked (placed_protein e) room bytes = rw t in d) ∙ on;
        short = λ t h. (let d : Err NoRoom ≡ asked (placed_protein e) room bytes = rw t (room-short (placed_protein e) room h) in d) ∙ on;
        enough = λ t h.
            (let d : Ok (placed_protein e) ≡ asked (placed_protein e) room bytes = rw t (room-enough (placed_protein e) room h) in d) ∙ on;
      }

-- the same for DNA, with the length that the bytes have and the answer of the ambiguity range
pub record DnaPassed (sequence : List ℕ) (e : Entry) (room : ℕ) : Type 0 where
  pub rises : e.start < e.end
  pub range : e.end ≤ e.next
  pub inside : e.next ≤ length sequence

module _ (sequence : List ℕ) (e : Entry) (room : ℕ) (c : Result Unit Refusal) (told : c ≡ checked_by (dna_place_rules sequence e)) where
  abbrev ranges : List (Rule Refusal)
  ranges = range_rules sequence e.end e.next (placed_dna sequence e)

  module _ (p : c ≡ Ok tt) where
    pub dna_passed : DnaPassed sequence e room
    dna_passed =
        let (rises, (range, (inside, h))) = all_hold (dna_place_rules sequence e) c told p in
        record { rises = ltb-true _ _ rises; range = leb-true _ _ range; inside = leb-true _ _ inside }

    on : asked (placed_dna sequence e) room ranges ≡ placed_dna_answer sequence e room
    on =
        sym (passed_first (dna_place_rules sequence e) (ranges ++ room_rules (placed_dna sequence e) room) c told p Err (Ok (placed_dna sequence e)))

    module _ (l : ℕ) (g : l ≡ placed_dna sequence e) (x : Result RangeEntries Refusal) (asks : x ≡ range_answer sequence e.end e.next l) where
      asks_ranges : x ≡ range_answer sequence e.end e.next (placed_dna sequence e)
      asks_ranges = asks ∙ ap (range_answer sequence e.end e.next) g

      module _ (entries : RangeEntries) (q : x ≡ Ok entries) where
        passed : AllHold ranges × ◌≡◌ {A = Result RangeEntries Refusal} (Ok (range_entries sequence e.end e.next)) (Ok entries)
        passed = passes_with Err (Ok (range_entries sequence e.end e.next)) (Ok entries) (λ r. err-not_ok r entries) ranges (sym asks_ranges ∙ q)

        pub ranges-hold : AllHold (range_rules sequence e.end e.next l)
        ranges-hold = rw g passed.0

        pub entries-told : entries ≡ range_entries sequence e.end e.next
        entries-told = let same = passed.1 in cc

        to_room : verdict Err (Ok (placed_dna sequence e)) (room_rules (placed_dna sequence e) room) ≡ placed_dna_answer sequence e room
        to_room = sym (hold_then Err (Ok (placed_dna sequence e)) ranges (room_rules (placed_dna sequence e) room) passed.0) ∙ on

        pub range-enough : l ≤ room → Ok l ≡ placed_dna_answer sequence e room
        range-enough h = ap Ok g ∙ room-enough (placed_dna sequence e) room (rw g at h) ∙ to_room

-- ---- the number and the type, where the index was read

-- the numbers of an index are small: a table has few entries, and lies near
pub record Near (x : Index) : Type 0 where
  pub few : x.sequences < 2147483648
  pub table_near : x.sequence_table < 17179869184
  pub ambiguities_near : x.ambiguity_table < 34359738368

pub numbers_near : (index : List ℕ) (x : Index) → x ≡ index_of index → Near x
numbers_near index x e =
    let n = numbers_are index x e in
    let t = tables_near index in
    record {
      few = omega (arith, n.sequences_is, t.number);
      table_near = omega (arith, n.starts_is, t.sequences_near);
      ambiguities_near = omega (arith, n.ambiguities_is, t.ambiguities_near);
    }

pub kind_protein : (index : List ℕ) (k : ℕ) → k ≡ volume_type index → k ≡ 1 → is_protein index ≡ true
kind_protein index k e f = eq-eqb (volume_type index) 1 (sym e ∙ f)

pub kind_dna : (index : List ℕ) (k : ℕ) → k ≡ volume_type index → (k ≡ 1 → ⊥) → is_protein index ≡ false
kind_dna index k e f = ne_eqb (volume_type index) 1 (λ g. f (e ∙ g))

module _ (index sequence : List ℕ) (i room : ℕ) where
  pub own_none : sequences index ≤ i → Err NoSuchSequence ≡ own_answer index sequence i room
  own_none h = rw (le-ltb i (sequences index) h)

  module _ (h : i < sequences index) where
    pub own_protein : is_protein index ≡ true
        → verdict Err (Ok (protein_length index i)) (protein_rules index sequence i ++ room_rules (protein_length index i) room)
        ≡ own_answer index sequence i room
    own_protein t = simp (lt-ltb i (sequences index) h, t)

    pub own_dna : is_protein index ≡ false
        → verdict Err (Ok (dna_length index sequence i)) (dna_rules index sequence i ++ room_rules (dna_length index sequence i) room)
        ≡ own_answer index sequence i room
    own_dna t = simp (lt-ltb i (sequences index) h, t)

    -- what decoding by the places answers
    pub own_placed_protein : is_protein index ≡ true → (e : Entry) → e ≡ protein_entry index i
        → placed_protein_answer sequence e room ≡ own_answer index sequence i room
    unfolding protein_length
    own_placed_protein t e p =
        let l = protein_length index i in
        let more = protein_byte_rules sequence (sequence_start index i) l ++ room_rules l room in
        ap (λ (x : Entry). placed_protein_answer sequence x room) p
        ∙ protein_placed index sequence i Err (verdict Err (Ok l) more)
        ∙ own_protein t

    pub own_placed_dna : is_protein index ≡ false → non_neg (sequence_offset index i) ≡ true → (e : Entry) → e ≡ dna_entry index i
        → placed_dna_answer sequence e room ≡ own_answer index sequence i room
    unfolding dna_length
    own_placed_dna t n e p =
        let l = dna_length index sequence i in
        let more = range_rules sequence (dna_end index i) (range_end index i) l ++ room_rules l room in
        ap (λ (x : Entry). placed_dna_answer sequence x room) p
        ∙ dna_placed index sequence i Err (verdict Err (Ok l) more) n
        ∙ own_dna t

    pub own_negative : is_protein index ≡ false → non_neg (sequence_offset index i) ≡ false → Err BadOffsets ≡ own_answer index sequence i room
    own_negative t n = rw (lt-ltb i (sequences index) h, t, at_least_zero (sequence_offset index i), n)

module _ (index sequence : List ℕ) (i : ℕ) where
  pub residues-protein : is_protein index ≡ true → protein_decoded index sequence i ≡ residues_of index sequence i
  unfolding residues_of
  residues-protein t = rw t

  pub residues-dna : is_protein index ≡ false → dna_decoded index sequence i ≡ residues_of index sequence i
  unfolding residues_of
  residues-dna t = rw t

  -- what decoding by the places writes
  pub placed_protein_lem : is_protein index ≡ true → (e : Entry) → e ≡ protein_entry index i → placed_protein_residues sequence e ≡ residues_of index sequence i
  unfolding protein_length
  placed_protein_lem t e p = ap (placed_protein_residues sequence) p ∙ residues-protein t

  pub placed_dna_lem : is_protein index ≡ false → (e : Entry) → e ≡ dna_entry index i → placed_dna_residues sequence e ≡ residues_of index sequence i
  unfolding dna_length
  placed_dna_lem t e p = ap (placed_dna_residues sequence) p ∙ residues-dna t

-- ---- the whole

module _ (index sequence : List ℕ) (i room : ℕ) where
  abbrev fine : Result ℕ Refusal
  fine = Ok (sequence_length index sequence i)

  pub decode_large : 2147483647 < length sequence → Err TooLarge ≡ decode_answer index sequence i room
  unfolding decode_answer decode_rules
  decode_large h = rw (lt-leb (length sequence) 2147483647 h)

  module _ (h : length sequence ≤ 2147483647) where
    size_passed : decode_answer index sequence i room ≡ verdict Err fine (read_rules index ++ own_rules index sequence i room)
    unfolding decode_answer decode_rules
    size_passed = rw (le-leb (length sequence) 2147483647 h)

    pub decode_unread : (r : Refusal) → index_answer index ≡ Err r → Err r ≡ decode_answer index sequence i room
    decode_unread r g = sym (size_passed ∙ index_refused index Err fine (own_rules index sequence i room) r g)

    pub decode_read : (x : Index) → index_answer index ≡ Ok x → own_answer index sequence i room ≡ decode_answer index sequence i room
    decode_read x g = sym (size_passed ∙ index_first index Err fine (own_rules index sequence i room) (index_read index x g).0)

-- the output, by the answer
pub output_by : (index sequence : List ℕ) (i : ℕ) (output : List ℕ) (r : Result ℕ Refusal) → r ≡ decode_answer index sequence i (length output)
    → written_by r (residues_of index sequence i) output ≡ decode_output index sequence i output
unfolding decode_output
output_by index sequence i output r e = ap (λ (a : Result ℕ Refusal). written_by a (residues_of index sequence i) output) e
