-- Lengths of sequences as the loops over the tables make them. Assumes nothing.
use mathlib.Core.Path.{◌≡◌, refl, ap, ◌∙◌}
use mathlib.Core.Bool.{true}
use mathlib.Core.List.{List}
use Prim.Native.Nat.{ℕ, ◌+◌, ◌*◌, ◌-◌, ◌%◌, ◌≤◌, ◌<◌}
use native.Mathlib.Omega.{arith}
use lib.Dec.{eqb}
use lib.ListN.{length, get_or}
use lib.Signed.{non_neg}
use Rattle.laws.specs.Rules.{AllHold}
use Rattle.laws.specs.Signed.{to_nat}
use Rattle.laws.specs.Places.{sum_to}
use Rattle.laws.proofs.Places.{sum_more}
use Rattle.volume.specs.Index.{sequences, sequence_table, ambiguity_table}
use Rattle.volume.specs.Tables.{offset_at, sequence_start, protein_end, protein_length, two_bit_length, dna_end, dna_length}
use Rattle.volume.specs.Tables.{protein_offset_rules, dna_offset_rules}
use Rattle.volume.proofs.Named.{nul_behind}
use Rattle.volume.proofs.Natural.{protein_natural, protein-rises, protein_to, natural_start, natural_end, dna-rises, dna-inside}

-- an offset of a table whose file and place are known
pub place_at : {file index : List ℕ} {table t : ℕ} (k r : ℕ) → file ≡ index → table ≡ t → r ≡ to_nat (offset_at file table k) → r ≡ to_nat (offset_at index t k)
place_at k r same e f = f ∙ rw (same, e)

-- the length of a protein sequence, from its start and from the place of its separator
pub protein-length : (index : List ℕ) (k low end len : ℕ) → low ≡ sequence_start index k → end ≡ protein_end index k → len ≡ end - low
    → len ≡ protein_length index k
unfolding protein_length
protein-length index k low end len e f g = rw (g, e, f)

-- the length of a DNA sequence, from its start and end
pub dna-length : (index sequence : List ℕ) (k start end len : ℕ) → start ≡ sequence_start index k → end ≡ dna_end index k
    → len ≡ two_bit_length sequence start end → len ≡ dna_length index sequence k
unfolding dna_length
dna-length index sequence k start end len e f g = g ∙ rw (e, f)

-- a sum over the first i sequences, and one length more
pub sum_step : (f : ℕ → ℕ) (i sum len : ℕ) → sum ≡ sum_to f i → len ≡ f i → sum + len ≡ sum_to f (i + 1)
sum_step f i sum len e g = ap (λ (x : ℕ). x + len) e ∙ sum_more f i len g

-- ---- a turn of the loop over the sequences of a protein volume whose offsets passed: S[i] is low, S[i+1] next

pub record ProteinTurn (index sequence : List ℕ) (i low next : ℕ) : Type 0 where
  pub next_is : next ≡ sequence_start index (i + 1)
  pub rises : low < next
  pub inside : next ≤ length sequence
  pub long : next - 1 - low ≡ protein_length index i
  pub nul : eqb (get_or sequence (next - 1) 0) 0 ≡ nul_behind index sequence i

module _ (index sequence : List ℕ) (h : AllHold (protein_offset_rules index sequence)) {file : List ℕ} {table : ℕ} (same : file ≡ index)
    (t : table ≡ sequence_table index) where
  pub protein-read : (k : ℕ) → k ≤ sequences index → non_neg (offset_at file table k) ≡ true
  protein-read k l = rw (same, t) (protein_natural index sequence h k l)

  pub protein_turn : (i low next : ℕ) → i < sequences index → low ≡ sequence_start index i → next ≡ to_nat (offset_at file table (i + 1))
      → ProteinTurn index sequence i low next
  protein_turn i low next l p q =
      let e = place_at (i + 1) next same t q in
      let a = protein-rises index sequence h i l in
      let b = protein_to index sequence h i l in
      record {
        next_is = e;
        rises = omega arith;
        inside = omega arith;
        long = protein-length index i low (next - 1) (next - 1 - low) p (ap (λ (x : ℕ). x - 1) e) refl;
        nul = ap (λ (x : ℕ). eqb (get_or sequence (x - 1) 0) 0) e;
      }

-- ---- the same for DNA: S[i] is start, A[i] end

pub record DnaTurn (index sequence : List ℕ) (i start end : ℕ) : Type 0 where
  pub rises : start < end
  pub inside : end ≤ length sequence
  pub long : 4 * (end - 1 - start) + get_or sequence (end - 1) 0 % 4 ≡ dna_length index sequence i

module _ (index sequence : List ℕ) (h : AllHold (dna_offset_rules index sequence)) (i : ℕ) (l : i < sequences index) where
  pub start-read : {file : List ℕ} {s : ℕ} → file ≡ index → s ≡ sequence_table index → non_neg (offset_at file s i) ≡ true
  start-read same t = rw (same, t) (natural_start index sequence h i (omega arith))

  pub end_read : {file : List ℕ} {a : ℕ} → file ≡ index → a ≡ ambiguity_table index → non_neg (offset_at file a i) ≡ true
  end_read same u = rw (same, u) (natural_end index sequence h i l)

  pub dna_turn : {file other : List ℕ} {s a : ℕ} (start end : ℕ) → file ≡ index → s ≡ sequence_table index → other ≡ index → a ≡ ambiguity_table index
      → start ≡ to_nat (offset_at file s i) → end ≡ to_nat (offset_at other a i) → DnaTurn index sequence i start end
  dna_turn start end same t like u p q =
      let e = place_at i start same t p in
      let f = place_at i end like u q in
      let x = dna-rises index sequence h i l in
      let y = dna-inside index sequence h i l in
      let g : end - 1 - start ≡ end - start - 1 = omega arith in
      record {
        rises = omega arith;
        inside = omega arith;
        long = dna-length index sequence i start end _ e f (ap (λ (z : ℕ). 4 * z + get_or sequence (end - 1) 0 % 4) g);
      }
