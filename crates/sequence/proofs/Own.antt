-- The rules over the places that a sequence's entries state decide as the rules of the entries do. Assumes nothing.
use mathlib.Core.Path.{◌≡◌, refl, sym, ap, ◌∙◌}
use mathlib.Core.Bool.{Bool, true, false, cond}
use mathlib.Core.List.{List}
use Prim.Native.Nat.{ℕ, ◌+◌, ◌*◌, ◌-◌, ◌≤◌, ◌<◌}
use native.Mathlib.Omega.{arith}
use borrow.Author.Tests.{lt-ltb, le-ltb, le-leb, lt-leb, leb-true, ltb-true, ltb-false, leb-false}
use lib.Dec.{ltb, leb}
use lib.IntN.{ℤ, pos}
use lib.ListN.{length}
use lib.Signed.{lt_z, le_z, non_neg}
use Rattle.laws.specs.Rules.{verdict}
use Rattle.laws.specs.Signed.{to_nat}
use Rattle.laws.proofs.Signed.{at_least_zero}
use Rattle.laws.proofs.Sizes.{lt_sizes, le_sizes, at_most_size, at_least_size, sized_natural}
use Rattle.laws.proofs.Tests.{bool_cases}
use Rattle.fields.specs.Number.{big, signed_at}
use Rattle.answers.specs.declared.Refusal.{Refusal}
use Rattle.volume.specs.Index.{sequence_table, ambiguity_table}
use Rattle.volume.specs.Tables.{offset_at, sequence_offset, ambiguity_offset}
use Rattle.sequence.specs.declared.Entry.{Entry}
use Rattle.sequence.specs.Sequence.{protein_entry_rules, dna_entry_rules}
use Rattle.sequence.specs.Placed.{protein_entry, protein_place_rules, dna_entry, dna_place_rules}

-- ---- the entries, read from the tables

-- an offset read at its place in a table
offset_read : (index : List ℕ) (s t k r : ℕ) → s ≡ t → r ≡ to_nat (signed_at big 4 index (s + 4 * k)) → r ≡ to_nat (offset_at index t k)
unfolding offset_at
offset_read index s t k r e f = f ∙ ap (λ (x : ℕ). to_nat (signed_at big 4 index (x + 4 * k))) e

-- a sequence's start is negative where the field says so
pub start_sign : (index : List ℕ) (i s : ℕ) → s ≡ sequence_table index → non_neg (signed_at big 4 index (s + 4 * i)) ≡ non_neg (sequence_offset index i)
unfolding offset_at
start_sign index i s e = ap (λ (x : ℕ). non_neg (signed_at big 4 index (x + 4 * i))) e

module _ (index : List ℕ) (i s start end next : ℕ) (t : s ≡ sequence_table index) (p : start ≡ to_nat (signed_at big 4 index (s + 4 * i)))
    (q : next ≡ to_nat (signed_at big 4 index (s + 4 * (i + 1)))) where
  pub protein-read : end ≡ next - 1 → ◌≡◌ {A = Entry} (record { start = start; end = end; next = next }) (protein_entry index i)
  protein-read e = rw (e, offset_read index s _ i start t p, offset_read index s _ (i + 1) next t q)

  pub dna-read : (a : ℕ) → a ≡ ambiguity_table index → end ≡ to_nat (signed_at big 4 index (a + 4 * i))
      → ◌≡◌ {A = Entry} (record { start = start; end = end; next = next }) (dna_entry index i)
  dna-read a u e = rw (offset_read index a _ i end u e, offset_read index s _ i start t p, offset_read index s _ (i + 1) next t q)

-- ---- their rules

-- a rule's test that decides the same, where what is asked after it does
same_rule : {A : Type 0} (a b : Bool) (x y z : A) → a ≡ b → (b ≡ true → x ≡ y) → cond a x z ≡ cond b y z
same_rule a true x y z e f = rw (e, f refl)
same_rule a false x y z e f = rw e

-- a place is at most the one before another where it is below that
before_end : (a b : ℕ) → 1 ≤ a → leb a (b - 1) ≡ ltb a b
before_end a b h =
    bool_cases (ltb a b) (λ t. let k = ltb-true a b t in rw t (le-leb a (b - 1) (omega arith)))
    (λ t. let k = ltb-false a b t in rw t (lt-leb a (b - 1) (omega arith)))

inside_end : (b n : ℕ) → 0 < b → ltb (b - 1) n ≡ leb b n
inside_end b n h =
    bool_cases (leb b n) (λ t. let k = leb-true b n t in rw t (lt-ltb (b - 1) n (omega arith)))
    (λ t. let k = leb-false b n t in rw t (le-ltb (b - 1) n (omega arith)))

module _ (index sequence : List ℕ) (i : ℕ) {A : Type 0} (told : Refusal → A) (fine : A) where
  -- S[i], S[i+1] and A[i]
  abbrev S : ℤ
  S = sequence_offset index i

  abbrev N : ℤ
  N = sequence_offset index (i + 1)

  abbrev E : ℤ
  E = ambiguity_offset index i

  pub protein_placed : verdict told fine (protein_place_rules sequence (protein_entry index i)) ≡ verdict told fine (protein_entry_rules index sequence i)
  protein_placed = same_rule _ _ _ _ _ first (λ a. same_rule _ _ _ _ _ (step a) (λ b. same_rule _ _ _ _ _ (last a b) (λ _. refl)))
    where
      first : leb 1 (to_nat S) ≡ le_z (pos 1) S
      first = sym (at_least_size 1 S (omega arith))

      positive : le_z (pos 1) S ≡ true → 1 ≤ to_nat S
      positive a = leb-true 1 (to_nat S) (first ∙ a)

      sizes : le_z (pos 1) S ≡ true → lt_z S N ≡ ltb (to_nat S) (to_nat N)
      sizes a = let h = positive a in lt_sizes S N (sized_natural S (omega arith))

      step : le_z (pos 1) S ≡ true → leb (to_nat S) (to_nat N - 1) ≡ lt_z S N
      step a = before_end (to_nat S) (to_nat N) (positive a) ∙ sym (sizes a)

      last : le_z (pos 1) S ≡ true → lt_z S N ≡ true → ltb (to_nat N - 1) (length sequence) ≡ le_z N (pos (length sequence))
      last a b =
          let k = ltb-true (to_nat S) (to_nat N) (sym (sizes a) ∙ b) in
          inside_end (to_nat N) (length sequence) (omega arith) ∙ sym (at_most_size N (length sequence))

  -- DNA, where S[i] is not negative
  pub dna_placed : non_neg S ≡ true → verdict told fine (dna_place_rules sequence (dna_entry index i)) ≡ verdict told fine (dna_entry_rules index sequence i)
  dna_placed h =
      rw (at_least_zero S, h) (same_rule _ _ _ _ _ first (λ a. same_rule _ _ _ _ _ (step a) (λ b. same_rule _ _ _ _ _ last (λ _. refl))))
    where
      first : ltb (to_nat S) (to_nat E) ≡ lt_z S E
      first = sym (lt_sizes S E h)

      step : lt_z S E ≡ true → leb (to_nat E) (to_nat N) ≡ le_z E N
      step a = let k = ltb-true (to_nat S) (to_nat E) (first ∙ a) in sym (le_sizes E N (omega arith))

      last : leb (to_nat N) (length sequence) ≡ le_z N (pos (length sequence))
      last = sym (at_most_size N (length sequence))
