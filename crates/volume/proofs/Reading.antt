-- An index that was read: its rules for the calls that go on from it, and how far its tables can lie. Assumes nothing.
use mathlib.Core.Path.{◌≡◌, refl, sym, ap, ◌∙◌}
use mathlib.Core.Bool.{Bool, true, false, cond}
use mathlib.Core.List.{List, ◌++◌}
use Prim.Native.Nat.{ℕ, ◌<◌}
use native.Mathlib.Omega.{arith}
use borrow.Author.Tests.{ltb-true}
use lib.Dec.{ltb}
use lib.IntN.{pos, negsuc}
use Rattle.laws.specs.Rules.{Rule, verdict, AllHold}
use Rattle.laws.specs.Signed.{to_nat}
use Rattle.laws.proofs.Passing.{passes_with}
use Rattle.laws.proofs.Rules.{verdict-passes, verdict-append, refused_any}
use Rattle.fields.specs.Number.{big, signed_at, unsigned_at}
use Rattle.answers.specs.Limits.{bytes_fit}
use Rattle.answers.proofs.Checks.{err-not_ok, err_cause}
use Rattle.answers.specs.declared.Refusal.{Refusal}
use Rattle.volume.specs.declared.Index.{Index}
use Rattle.std.specs.Prelude.{Ok, Err}
use Rattle.volume.specs.Index.{volume_type, title_length, title_end, timestamp_length, timestamp_end, sequences}
use Rattle.volume.specs.Index.{header_table, sequence_table, ambiguity_table, index_rules, index_of, read_rules, index_answer}

module _ (index : List ℕ) where
  -- the index was read: its rules hold, and its numbers are the definition's
  pub index_read : (x : Index) → index_answer index ≡ Ok x → AllHold (read_rules index) × (x ≡ index_of index)
  index_read x e =
      let p = passes_with Err (Ok (index_of index)) (Ok x) (λ r. err-not_ok r x) (read_rules index) e in
      let q = p.1 in
      (p.0, cc)

  module _ {B : Type 0} (told : Refusal → B) (fine : B) (more : List (Rule Refusal)) where
    -- what is asked after the index decides
    pub index_first : AllHold (read_rules index) → verdict told fine (read_rules index ++ more) ≡ verdict told fine more
    index_first h = verdict-append told fine (read_rules index) more ∙ verdict-passes told (verdict told fine more) (read_rules index) h

    -- the index was refused: that decides
    pub index_refused : (r : Refusal) → index_answer index ≡ Err r → verdict told fine (read_rules index ++ more) ≡ told r
    index_refused r e =
        verdict-append told fine (read_rules index) more
        ∙ refused_any Err (Ok (index_of index)) (read_rules index) r (err_cause r) (λ n. err-not_ok r (index_of index) (sym n)) e told
        (verdict told fine more)

-- ---- places

four_bytes : (b : Bool) (n m : ℕ) → ltb n 2147483648 ≡ b → to_nat (cond b (pos n) (negsuc m)) < 2147483648
four_bytes true n m e = ltb-true n 2147483648 e
four_bytes false n m e = omega arith

-- a size of four bytes
pub stated_below : (file : List ℕ) (at : ℕ) → to_nat (signed_at big 4 file at) < 2147483648
unfolding signed_at
stated_below file at = four_bytes _ (unsigned_at big 4 file at) _ refl

title-below : (index : List ℕ) → title_length index < 2147483648
unfolding title_length
title-below index = stated_below index 8

timestamp-below : (index : List ℕ) → timestamp_length index < 2147483648
unfolding timestamp_length
timestamp-below index = stated_below index (title_end index)

sequences-below : (index : List ℕ) → sequences index < 2147483648
unfolding sequences
sequences-below index = stated_below index (timestamp_end index)

-- where the tables can lie
pub record TablesNear (index : List ℕ) : Type 0 where
  pub number : sequences index < 2147483648
  pub headers_near : header_table index < 4294967328
  pub sequences_near : sequence_table index < 17179869184
  pub ambiguities_near : ambiguity_table index < 34359738368

pub tables_near : (index : List ℕ) → TablesNear index
tables_near index =
    let a = title-below index in
    let b = timestamp-below index in
    let n = sequences-below index in
    record { number = n; headers_near = omega arith; sequences_near = omega arith; ambiguities_near = omega arith }

-- ---- the numbers of an index, one by one

pub record NumbersAre (index : List ℕ) (x : Index) : Type 0 where
  pub kind_is : x.kind ≡ volume_type index
  pub title_is : x.title_length ≡ title_length index
  pub timestamp_is : x.timestamp_length ≡ timestamp_length index
  pub sequences_is : x.sequences ≡ sequences index
  pub starts_is : x.sequence_table ≡ sequence_table index
  pub ambiguities_is : x.ambiguity_table ≡ ambiguity_table index

pub numbers_are : (index : List ℕ) (x : Index) → x ≡ index_of index → NumbersAre index x
unfolding index_of
numbers_are index x e = record {
  kind_is = ap (λ (y : Index). y.kind) e;
  title_is = ap (λ (y : Index). y.title_length) e;
  timestamp_is = ap (λ (y : Index). y.timestamp_length) e;
  sequences_is = ap (λ (y : Index). y.sequences) e;
  starts_is = ap (λ (y : Index). y.sequence_table) e;
  ambiguities_is = ap (λ (y : Index). y.ambiguity_table) e;
}

-- the size of an index that was asked before
pub size_asked : {B : Type 0} (index : List ℕ) (told : Refusal → B) (fine : B) (more : List (Rule Refusal)) → bytes_fit index ≡ true
    → verdict told fine (read_rules index ++ more) ≡ verdict told fine (index_rules index ++ more)
size_asked index told fine more e = rw e
