-- Every listing fits in the output. Assumes nothing.
use mathlib.Core.Path.{◌≡◌, refl}
use mathlib.Core.Bool.{cond}
use mathlib.Core.Logic.{⊎_elim}
use mathlib.Core.List.{List, []}
use Prim.Native.Nat.{ℕ, zero, suc, ◌*◌, ◌/◌, ◌≤◌}
use native.Mathlib.Omega.{arith}
use borrow.Author.Tests.{leb-true}
use lib.Dec.{eqb, ltb}
use lib.ListN.{length, length-append}
use Rattle.laws.proofs.Choices.{cond_elim}
use Rattle.laws.proofs.Passing.{passes_with}
use Rattle.answers.specs.declared.Refusal.{Refusal}
use Rattle.answers.specs.Numbers.{number_of}
use Rattle.volume.specs.declared.VolumeRecord.{VolumeRecord}
use Rattle.std.specs.Prelude.{Result, Ok, Err}
use Rattle.answers.proofs.Checks.{err-not_ok}
use Rattle.volume.specs.Index.{sequences}
use Rattle.volume.specs.Tables.{length_of_number}
use Rattle.volume.specs.Volume.{volume_record, volume_answer}
use Rattle.volume.specs.Holds.{FieldsHold}
use Rattle.volume.proofs.Exact.{passed_rules}
use Rattle.listing.proofs.Texts.{head_size, volume_size}
use Rattle.listing.specs.Listing.{space, line_feed, last_digits, decimal, number_then, protein_word, dna_word, type_text, head_text, length_text}
use Rattle.listing.specs.Listing.{lengths_text, refused_text, listing_size_rules, listed_answer, volume_text, answer_text, listing_text, listing_room}

digits-length : (k n : ℕ) → length (last_digits k n) ≤ k
unfolding last_digits
digits-length zero n = omega arith
digits-length (suc k) n =
    let h : length (cond (ltb n 10) [] (last_digits k (n / 10))) ≤ k =
    cond_elim (λ (l : List ℕ). length l ≤ k) (ltb n 10) (λ _. omega arith) (λ _. digits-length k (n / 10)) in
    simp length-append (omega arith)

pub decimal-length : (n : ℕ) → length (decimal n) ≤ 20
unfolding decimal
decimal-length n = digits-length 20 n

number-length : (n after : ℕ) → length (number_then n after) ≤ 21
unfolding number_then
number-length n after = simp length-append (omega (arith, decimal-length n))

line_length : (number len : ℕ) → length (length_text number len) ≤ 42
unfolding length_text
line_length number len = simp length-append (omega (arith, number-length number space, number-length len line_feed))

lengths_length : (length_of : ℕ → ℕ) (n : ℕ) → length (lengths_text length_of n) ≤ 42 * n
lengths_length length_of zero = omega arith
lengths_length length_of (suc n) = simp length-append (omega (arith, lengths_length length_of n, line_length n (length_of n)))

type-length : (kind : ℕ) → length (type_text kind) ≤ 8
unfolding type_text
type-length kind = cond_elim (λ (l : List ℕ). length l ≤ 8) (eqb kind 1) {x = protein_word} {y = dna_word} (λ _. omega arith) (λ _. omega arith)

head_length : (v : VolumeRecord) → length (head_text v) ≤ 71
head_length v =
    omega (
      arith,
      head_size v,
      type-length v.kind,
      number-length v.sequences space,
      number-length v.residues space,
      number-length
          v.longest line_feed,
    )

pub refused-fits : (number : ℕ) → length (refused_text number) ≤ listing_room
unfolding refused_text
refused-fits number = omega (arith, number-length number line_feed)

module _ (index sequence header : List ℕ) where
  -- a volume of files that are listed has few sequences: its index has 8 bytes for each at least
  few : FieldsHold index → length index ≤ 16384 → sequences index ≤ 2047
  few h k =
      ⊎_elim (λ t. let e = h.dna_whole t in omega arith) (λ t. let e = h.protein_whole t in omega arith) h.type

  listed_few : (v : VolumeRecord) → listed_answer index sequence header ≡ Ok v → v.sequences ≤ 2047
  unfolding listed_answer volume_record
  listed_few v e =
      let p = passes_with Err (volume_answer index sequence header) (Ok v) (λ r. err-not_ok r v) (listing_size_rules index sequence header) e in
      let q = passed_rules index sequence header v p.1 in
      rw q.1 (few q.0.fields (leb-true _ _ p.0.0))

  pub volume_fits : (v : VolumeRecord) → listed_answer index sequence header ≡ Ok v → length (volume_text index sequence v) ≤ listing_room
  volume_fits v e =
      omega (arith, volume_size index sequence v, listed_few v e, head_length v, lengths_length (length_of_number index sequence) v.sequences)

  -- the whole text fits
  pub listing_fits : length (listing_text index sequence header) ≤ listing_room
  unfolding listing_text
  listing_fits = go (listed_answer index sequence header) refl
    where
      go : (a : Result VolumeRecord Refusal) → listed_answer index sequence header ≡ a → length (answer_text index sequence a) ≤ listing_room
      go (Ok v) e = volume_fits v e
      go (Err r) e = refused-fits (number_of r)
