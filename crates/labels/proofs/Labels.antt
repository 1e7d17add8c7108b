-- Labels: the rules before a sequence's own offsets, and that a label's part lies within its file. Assumes nothing.
use mathlib.Core.Path.{◌≡◌, refl, sym, subst, ap}
use mathlib.Core.List.{List}
use Prim.Native.Nat.{ℕ, ◌+◌, ◌≤◌, ◌<◌}
use borrow.Author.Tests.{lt-ltb, le-leb, lt-leb, leb-true}
use lib.Dec.{ltb, leb}
use lib.IntN.{ℤ, pos}
use lib.ListN.{length}
use lib.Signed.{le_z, non_neg}
use Rattle.laws.specs.Signed.{to_nat}
use Rattle.laws.proofs.Choices.{cond_elim}
use Rattle.answers.specs.declared.Refusal.{Refusal}
use Rattle.answers.specs.declared.Refusal.TheVariants.{TooLarge}
use Rattle.std.specs.Prelude.{Option, Some, None, Result, Ok, Err}
use Rattle.elements.specs.declared.Span.{Span}
use Rattle.deflines.specs.Calls.{first_of}
use Rattle.deflines.proofs.Within.{first-within}
use Rattle.volume.specs.declared.Index.{Index}
use Rattle.volume.specs.Index.{title_length, sequences, header_table, index_of, index_answer}
use Rattle.volume.specs.Tables.{offset_at}
use Rattle.volume.proofs.Facts.{few-sequences}
use Rattle.volume.proofs.Named.{index_tests}
use Rattle.volume.proofs.Reading as Reading
use Rattle.labels.specs.declared.Label.{Label}
use Rattle.labels.specs.declared.Label.TheVariants.{InHeader, InIndex}
use Rattle.labels.specs.Label.{record_label, offsets_label, number_label, label_of}

-- ---- the rules before them

module _ (index header : List ℕ) (number : ℕ) where
  pub label_large : 2147483647 < length header → Err TooLarge ≡ label_of index header number
  unfolding label_of
  label_large k = rw (lt-leb (length header) 2147483647 k)

  module _ (k : length header ≤ 2147483647) where
    read_label : (a : Result Index Refusal) → index_answer index ≡ a → label_of index header number ≡ number_label index header number a
    unfolding label_of
    read_label a e = rw (le-leb (length header) 2147483647 k) (ap (number_label index header number) e)

    module _ (x : Index) (e : index_answer index ≡ Ok x) where
      pub label_found : (a : Result Label Refusal) (table title : ℕ) (low high : ℤ) → number < sequences index → table ≡ header_table index → title ≡ title_length index
          → low ≡ offset_at index table number → high ≡ offset_at index table (number + 1) → a ≡ offsets_label header title low high
          → a ≡ label_of index header number
      label_found a table title low high l f g u v q =
          rw (read_label (Ok x) e, lt-ltb number (sequences index) l) (rw (← f, ← g, ← u, ← v) q)

-- ---- an index that was read

pub record IndexRead (index : List ℕ) (x : Index) : Type 0 where
  pub small : length index ≤ 2147483647
  pub number : x.sequences ≡ sequences index
  pub few : sequences index ≤ 134217728
  pub table : x.header_table ≡ header_table index
  pub reaches : header_table index ≤ length index
  pub title : x.title_length ≡ title_length index
  pub titled : 12 + title_length index ≤ length index

pub index_read : (index : List ℕ) (x : Index) → index_answer index ≡ Ok x → IndexRead index x
unfolding index_of
index_read index x e =
    let a = Reading.index_read index x e in
    let q : index_of index ≡ x = sym a.1 in
    let rules = a.0.1 in
    let tests = index_tests index rules in
    record {
      small = leb-true (length index) 2147483647 a.0.0;
      number = sym (ap (λ (y : Index). y.sequences) q);
      few = few-sequences index rules;
      table = sym (ap (λ (y : Index). y.header_table) q);
      reaches = leb-true (header_table index) (length index) tests.counts.longest_there;
      title = sym (ap (λ (y : Index). y.title_length) q);
      titled = leb-true (12 + title_length index) (length index) tests.title.title_there;
    }

-- ---- a label's part lies within its file

abbrev pub LabelWithin : List ℕ → List ℕ → Result Label Refusal → Type 0
LabelWithin index header (Ok (InHeader t)) = t.start + t.len ≤ length header
LabelWithin index header (Ok (InIndex t)) = t.start + t.len ≤ length index
LabelWithin index header (Err r) = Unit {0}

module _ (index header : List ℕ) where
  record-within : (title low high : ℕ) (f : Result (Option Span) Refusal) → 12 + title ≤ length index → first_of header low high ≡ f
      → LabelWithin index header (record_label title f)
  record-within title low high (Ok (Some t)) h e = first-within header low high t e
  record-within title low high (Ok None) h e = h
  record-within title low high (Err r) h e = tt

  offsets-within : (title : ℕ) (low high : ℤ) → 12 + title ≤ length index → LabelWithin index header (offsets_label header title low high)
  unfolding offsets_label
  offsets-within title low high h =
      let P : Result Label Refusal → Type 0 = LabelWithin index header in
      cond_elim P (non_neg low)
      (λ _. cond_elim P (le_z low high)
      (λ _. cond_elim P (le_z high (pos (length header))) (λ _. record-within title (to_nat low) (to_nat high) (first_of header (to_nat low) (to_nat high)) h refl)
      (λ _. tt))
      (λ _. tt))
      (λ _. tt)

  number-within : (number : ℕ) (a : Result Index Refusal) → index_answer index ≡ a → LabelWithin index header (number_label index header number a)
  number-within number (Ok x) e =
      cond_elim (LabelWithin index header) (ltb number (sequences index))
      (λ _. offsets-within (title_length index) (offset_at index (header_table index) number) (offset_at index (header_table index) (number + 1))
      (index_read index x e).titled)
      (λ _. tt)
  number-within number (Err r) e = tt

  label_lies : (number : ℕ) → LabelWithin index header (label_of index header number)
  unfolding label_of
  label_lies number =
      cond_elim (LabelWithin index header) (leb (length header) 2147483647) (λ _. number-within number (index_answer index) refl) (λ _. tt)

  pub label_within : (number : ℕ) (a : Result Label Refusal) → label_of index header number ≡ a → LabelWithin index header a
  label_within number a e = subst (LabelWithin index header) e (label_lies number)
