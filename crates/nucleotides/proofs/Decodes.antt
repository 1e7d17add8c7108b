-- Decoding returns the codes that were written: over decode's own definitions, for every volume in which they stand. Assumes nothing.
use mathlib.Core.Path.{◌≡◌, refl, sym, ap, ◌∙◌}
use mathlib.Core.Bool.{true, false}
use mathlib.Core.List.{List}
use Prim.Native.Nat.{ℕ, ◌+◌, ◌≤◌, ◌<◌}
use native.Mathlib.Omega.{arith}
use lib.IntN.{pos}
use lib.ListN.{length, take}
use lib.Seq.{ext_get_or, take_at}
use borrow.Author.Tests.{le-leb, lt-ltb}
use Rattle.laws.specs.Signed.{to_nat}
use Rattle.laws.specs.Writing.{written_at}
use Rattle.laws.proofs.Signed.{le_test, lt_test}
use Rattle.laws.proofs.Storing.{written_start}
use Rattle.residues.specs.Alphabets.{valid_codes}
use Rattle.volume.specs.Index.{is_protein}
use Rattle.volume.specs.Tables.{dna_length}
use Rattle.volume.proofs.Exact.{dna-type}
use Rattle.std.specs.Prelude.{Ok}
use Rattle.sequence.specs.Bases.{base_at}
use Rattle.sequence.specs.Corrections.{corrected_at}
use Rattle.sequence.specs.Sequence.{dna_residues, decode_answer, decode_number, residues_of, decode_output}
use Rattle.sequence.specs.Holds.{RangeHolds, SequenceHolds}
use Rattle.sequence.proofs.Answers.{residues-dna}
use Rattle.sequence.proofs.Corrected.{length-residues, residue_at}
use Rattle.sequence.proofs.Decoded.{decoded_output}
use Rattle.sequence.proofs.Exact.{range_test, rules_zero, zero_rules}
use Rattle.nucleotides.specs.TwoBit.{two_bit_size}
use Rattle.nucleotides.specs.Pieces.{most_repeat, width_of, corrections_of}
use Rattle.nucleotides.specs.Write.{dna, range_size, bytes_needed, sequence_bytes}
use Rattle.nucleotides.specs.Stands.{Stands}
use Rattle.nucleotides.proofs.Back.{code_back}
use Rattle.nucleotides.proofs.Read.{holds, length-read, base_read, range-read, corrections_read}

module _ (index sequence : List ℕ) (i s : ℕ) (codes : List ℕ)
    (st : Stands index sequence i s (two_bit_size (length codes)) (range_size codes) (sequence_bytes codes)) where
  abbrev L : ℕ
  L = length codes

  abbrev place : ℕ
  place = s + two_bit_size L

  abbrev end : ℕ
  end = place + range_size codes

  size : bytes_needed codes ≤ 2147483647
  size = let a = st.inside in let b = st.sequence_size in omega arith

  is-dna : is_protein index ≡ false
  is-dna = dna-type index st.type

  range : RangeHolds sequence place end L
  range = range-read codes sequence s st.inside st.there size

  -- what the entries say
  long : dna_length index sequence i ≡ L
  unfolding dna_length
  long = rw (st.start, st.range) (length-read codes sequence s st.inside st.there size)

  -- every rule of decoding is kept
  kept : (room : ℕ) → L ≤ room → SequenceHolds index sequence i room
  kept room fits = record {
    index_size = st.index_size;
    sequence_size = st.sequence_size;
    fields = st.fields;
    number = st.number;
    protein = λ e. absurd (let z = ap to_nat (sym st.type ∙ e) in omega arith);
    dna = λ e. record {
      first = rw st.start (le_test (pos 0) (pos s) (le-leb 0 s (omega arith)));
      above = rw (st.start, st.range) (lt_test (pos s) (pos place) (lt-ltb s place (omega arith)));
      below = rw (st.range, st.next) (le_test (pos place) (pos end) (le-leb place end (omega arith)));
      last = rw st.next (le_test (pos end) (pos (length sequence)) (le-leb end (length sequence) (let h = st.inside in omega arith)));
      range = rw (long, st.range, st.next) range;
      fits = rw long fits;
    };
  }

  decodes : (room : ℕ) → L ≤ room → decode_number (decode_answer index sequence i room) ≡ 0
  decodes room fits = rules_zero index sequence i room (kept room fits)

  -- the residues are the codes
  codes-read : valid_codes dna codes ≡ true → dna_residues sequence s place end L ≡ codes
  codes-read valid =
      let h = range_test sequence place end L range in
      let p = holds codes sequence s st.inside st.there size in
      let n = length-residues sequence s place end L h in
      ext_get_or 0 (dna_residues sequence s place end L) codes n
      (λ k l. let b : k < L = omega arith in
      residue_at sequence s place end L h k 0 b
      ∙ ap (λ (x : List _). corrected_at x k (base_at sequence s k)) (corrections_read codes sequence s st.inside st.there size)
      ∙ ap (corrected_at (corrections_of codes) k) (base_read codes sequence s st.inside st.there size k b)
      ∙ code_back (most_repeat (width_of L)) codes (corrections_of codes) p valid k b)

  residues_are : valid_codes dna codes ≡ true → residues_of index sequence i ≡ codes
  residues_are valid =
      sym (residues-dna index sequence i is-dna)
      ∙ rw (long, st.start, st.range, st.next) (codes-read valid)

  -- Given room, decoding answers L ..
  pub decode_answers : (room : ℕ) → L ≤ room → decode_answer index sequence i room ≡ Ok L
  decode_answers room fits =
      (zero_rules index sequence i room (decodes room fits)).1 ∙ ap Ok (rw is-dna long)

  -- .. and the codes stand at the start of the output, whose rest is as it was.
  pub decode_returns : valid_codes dna codes ≡ true → (output : List ℕ) → L ≤ length output → decode_output index sequence i output ≡ written_at 0 codes output
  decode_returns valid output fits =
      decoded_output index sequence i output (decodes (length output) fits) ∙ ap (λ (xs : List ℕ). written_at 0 xs output) (residues_are valid)

  -- So its first L bytes are the codes.
  pub decode_first : valid_codes dna codes ≡ true → (output : List ℕ) → L ≤ length output → take L (decode_output index sequence i output) ≡ codes
  decode_first valid output fits =
      ap (take L) (decode_returns valid output fits ∙ written_start codes output) ∙ take_at codes _ L refl
