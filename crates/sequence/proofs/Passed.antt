-- A volume that passes the check: the entries of each of its sequences keep their own rules. Assumes nothing.
use mathlib.Core.Path.{◌≡◌, ap, subst, ◌∙◌}
use mathlib.Core.List.{List}
use Prim.Native.Nat.{ℕ, zero, suc, ◌+◌, ◌-◌, ◌<◌}
use native.Mathlib.Numerals.{add-one}
use native.Mathlib.Omega.{arith}
use borrow.Author.Tests.{le-leb, eqb-true, eq-eqb}
use lib.IntN.{ℤ}
use lib.ListN.{length, get_or}
use Rattle.laws.specs.Rules.{AllHold}
use Rattle.laws.specs.Signed.{to_nat}
use Rattle.laws.proofs.Places.{every_at}
use Rattle.laws.proofs.Signed.{at_least_zero}
use Rattle.laws.proofs.Sizes.{at_most_size, at_least_size}
use Rattle.volume.specs.Index.{sequences}
use Rattle.volume.specs.Tables.{sequence_offset, sequence_start, protein_end, protein_offset_rules, protein_separator_rules, dna_offset_rules}
use Rattle.volume.proofs.Named.{nul_behind, SeparatorTests, separator_tests}
use Rattle.volume.proofs.Natural.{protein-first, protein-above, protein-from, protein_to, dna-between, dna_to, natural_start}
use Rattle.sequence.specs.Sequence.{protein_entry_rules, dna_entry_rules}
use Rattle.sequence.proofs.Named.{protein_entry_tests_back, dna_entry_tests_back}

-- ---- protein

module _ (index sequence : List ℕ) (h : AllHold (protein_offset_rules index sequence)) (s : AllHold (protein_separator_rules index sequence)) where
  abbrev N : ℕ
  N = sequences index

  abbrev S : ℕ → ℤ
  S = sequence_offset index

  tests : SeparatorTests index sequence
  tests = separator_tests index sequence s

  -- the byte before a sequence: byte 0, or the separator of the sequence before
  protein_nul : (i : ℕ) → i < N → get_or sequence (sequence_start index i - 1) 0 ≡ 0
  protein_nul zero l =
      let e : to_nat (S 0) - 1 ≡ 0 = ap (λ (z : ℤ). to_nat z - 1) (protein-first index sequence h) in
      ap (λ (k : ℕ). get_or sequence k 0) e ∙ eqb-true _ _ tests.byte_zero
  protein_nul (suc i) l =
      let a : get_or sequence (protein_end index i) 0 ≡ 0 = eqb-true _ _ (every_at (nul_behind index sequence) N i (omega arith) tests.separators) in
      subst (λ (k : ℕ). get_or sequence (to_nat (S k) - 1) 0 ≡ 0) (add-one i) a

  pub protein-entries : (i : ℕ) → i < N → AllHold (protein_entry_rules index sequence i)
  protein-entries i l =
      protein_entry_tests_back index sequence i (record {
        first = at_least_size 1 (S i) (omega arith) ∙ le-leb 1 (to_nat (S i)) (protein-from index sequence h i (omega arith));
        step = protein-above index sequence h i l;
        last = at_most_size (S (i + 1)) (length sequence) ∙ le-leb _ _ (protein_to index sequence h i l);
        nul_before = eq-eqb _ _ (protein_nul i l);
        nul_behind = every_at (nul_behind index sequence) N i l tests.separators;
      })

-- ---- DNA

module _ (index sequence : List ℕ) (h : AllHold (dna_offset_rules index sequence)) (i : ℕ) (l : i < sequences index) where
  pub dna-entries : AllHold (dna_entry_rules index sequence i)
  dna-entries =
      let b = dna-between index sequence h i l in
      dna_entry_tests_back index sequence i (record {
        first = at_least_zero (sequence_offset index i) ∙ natural_start index sequence h i (omega arith);
        bytes = b.0;
        range = b.1;
        last = at_most_size (sequence_offset index (i + 1)) (length sequence) ∙ le-leb _ _ (dna_to index sequence h i l);
      })
