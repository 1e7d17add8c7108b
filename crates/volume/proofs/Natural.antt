-- The offsets of a volume that kept their rules: none is negative, they rise, and none lies past the file's end. Assumes nothing.
use mathlib.Core.Path.{◌≡◌, refl, sym, ap, subst, ◌∙◌}
use mathlib.Core.Bool.{Bool, true, false, cond}
use mathlib.Core.List.{List}
use Prim.Native.Nat.{ℕ, suc, ◌+◌, ◌-◌, ◌≤◌, ◌<◌}
use native.Mathlib.Omega.{arith}
use borrow.Author.Tests.{leb-true}
use lib.IntN.{ℤ, pos, negsuc}
use lib.ListN.{length, take, drop}
use lib.Dec.{ltb}
use lib.Signed.{lt_z, le_z, non_neg}
use Rattle.laws.specs.Rules.{AllHold}
use Rattle.laws.specs.Signed.{to_nat}
use Rattle.laws.proofs.Places.{every_at}
use Rattle.laws.proofs.Rising as Rising
use Rattle.laws.proofs.Signed.{eq_test}
use Rattle.laws.proofs.Sizes.{le_sizes, sized_natural}
use Rattle.laws.proofs.Tests.{both_pass, never}
use Rattle.fields.specs.Number.{big, unsigned_at, signed_at}
use Rattle.volume.specs.Index.{sequences, sequence_table, ambiguity_table}
use Rattle.volume.specs.Tables.{above, ambiguity_between, sequence_offset, ambiguity_offset, first_nucleotide_offset, protein_offset_rules, dna_offset_rules}
use Rattle.volume.proofs.Facts.{part_unsigned}
use Rattle.volume.proofs.Reading.{stated_below}
use Rattle.volume.proofs.Named.{ProteinTests, protein_tests, DnaTests, dna_tests}

-- ---- protein

module _ (index sequence : List ℕ) (h : AllHold (protein_offset_rules index sequence)) where
  abbrev N : ℕ
  N = sequences index

  abbrev S : ℕ → ℤ
  S = sequence_offset index

  tests : ProteinTests index sequence
  tests = protein_tests index sequence h

  pub protein-first : S 0 ≡ pos 1
  protein-first = eq_test (S 0) (pos 1) tests.first

  pub protein-above : (i : ℕ) → i < N → lt_z (S i) (S (i + 1)) ≡ true
  protein-above i l = every_at (above index (sequence_table index)) N i l tests.steps

  step : (i : ℕ) → i < N → non_neg (S i) ≡ true → (non_neg (S (i + 1)) ≡ true) × (to_nat (S i) < to_nat (S (i + 1)))
  step i l n = Rising.above_natural (S i) (S (i + 1)) n (protein-above i l)

  first_natural : non_neg (S 0) ≡ true
  first_natural = rw protein-first

  -- S[i] is not negative
  pub protein_natural : (i : ℕ) → i ≤ N → non_neg (S i) ≡ true
  protein_natural = Rising.natural S N first_natural step

  pub protein-from : (i : ℕ) → i ≤ N → 1 ≤ to_nat (S i)
  protein-from i l =
      let a : to_nat (S 0) ≡ 1 = ap to_nat protein-first in
      let b = Rising.rises S N first_natural step 0 i (omega arith) in
      let e : 0 + i ≡ i = omega arith in
      let c : to_nat (S 0) + i ≤ to_nat (S i) = subst (λ (k : ℕ). to_nat (S 0) + i ≤ to_nat (S k)) e b in
      omega arith

  pub protein-rises : (i : ℕ) → i < N → to_nat (S i) < to_nat (S (i + 1))
  protein-rises i l = (step i l (protein_natural i (omega arith))).1

  pub protein_to : (i : ℕ) → i < N → to_nat (S (i + 1)) ≤ length sequence
  protein_to i l = Rising.within S N first_natural step (length sequence) i (eq_test (S N) (pos (length sequence)) tests.last) l

-- ---- DNA

module _ (index sequence : List ℕ) (h : AllHold (dna_offset_rules index sequence)) where
  abbrev M : ℕ
  M = sequences index

  abbrev R : ℕ → ℤ
  R = sequence_offset index

  abbrev A : ℕ → ℤ
  A = ambiguity_offset index

  held : DnaTests index sequence
  held = dna_tests index sequence h

  pub dna-between : (i : ℕ) → i < M → (lt_z (R i) (A i) ≡ true) × (le_z (A i) (R (i + 1)) ≡ true)
  dna-between i l = both_pass _ _ (every_at (ambiguity_between index (sequence_table index) (ambiguity_table index)) M i l held.steps)

  -- A[i] lies above S[i], and S[i+1] not below it
  inside : (i : ℕ) → i < M → non_neg (R i) ≡ true
      → (non_neg (A i) ≡ true) × (to_nat (R i) < to_nat (A i)) × (to_nat (A i) ≤ to_nat (R (i + 1)))
  inside i l n =
      let b = dna-between i l in
      let a = Rising.above_natural (R i) (A i) n b.0 in
      let k = a.1 in
      (a.0, k, leb-true _ _ (sym (le_sizes (A i) (R (i + 1)) (omega arith)) ∙ b.1))

  rise : (i : ℕ) → i < M → non_neg (R i) ≡ true → (non_neg (R (i + 1)) ≡ true) × (to_nat (R i) < to_nat (R (i + 1)))
  rise i l n =
      let a = inside i l n in
      let b = a.1 in
      let c = a.2 in
      (sized_natural (R (i + 1)) (omega arith), omega arith)

  dna-first : non_neg (R 0) ≡ true
  dna-first = rw (eq_test (R 0) (pos first_nucleotide_offset) held.first)

  -- S[i] is not negative
  pub natural_start : (i : ℕ) → i ≤ M → non_neg (R i) ≡ true
  natural_start = Rising.natural R M dna-first rise

  -- A[i] is not negative, above S[i], and no place past the file's end
  pub natural_end : (i : ℕ) → i < M → non_neg (A i) ≡ true
  natural_end i l = (inside i l (natural_start i (omega arith))).0

  pub dna-rises : (i : ℕ) → i < M → to_nat (R i) < to_nat (A i)
  dna-rises i l = (inside i l (natural_start i (omega arith))).1

  pub dna_to : (i : ℕ) → i < M → to_nat (R (i + 1)) ≤ length sequence
  dna_to i l = Rising.within R M dna-first rise (length sequence) i (eq_test (R M) (pos (length sequence)) held.last) l

  pub dna-inside : (i : ℕ) → i < M → to_nat (A i) ≤ length sequence
  dna-inside i l =
      let a = (inside i l (natural_start i (omega arith))).2 in
      let b = dna_to i l in
      omega arith

-- ---- fields

-- a field that is not negative states what its bytes write
natural_bits : (b : Bool) (n m : ℕ) → non_neg (cond b (pos n) (negsuc m)) ≡ true → n ≡ to_nat (cond b (pos n) (negsuc m))
natural_bits true n m e = refl
natural_bits false n m e = never e

pub natural_field : (file : List ℕ) (at : ℕ) → non_neg (signed_at big 4 file at) ≡ true → unsigned_at big 4 file at ≡ to_nat (signed_at big 4 file at)
unfolding signed_at
natural_field file at e = let u = unsigned_at big 4 file at in natural_bits (ltb u 2147483648) u (4294967296 - suc u) e

-- the same for a part of the file that is the field's own bytes
pub natural_part : (file : List ℕ) (at end : ℕ) → end ≡ at + 4 → non_neg (signed_at big 4 file at) ≡ true
    → (unsigned_at big 4 (take (end - at) (drop at file)) 0 ≡ to_nat (signed_at big 4 file at)) × (to_nat (signed_at big 4 file at) < 2147483648)
natural_part file at end e h = (part_unsigned 4 file at end e ∙ natural_field file at h, stated_below file at)
