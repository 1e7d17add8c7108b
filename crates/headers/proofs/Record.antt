-- The record check, rule by rule, and where a record that passed lies. Assumes nothing.
use mathlib.Core.Path.{◌≡◌, refl, ap, ◌∙◌}
use mathlib.Core.List.{List}
use mathlib.Core.Bool.{true}
use Prim.Native.Nat.{ℕ, ◌+◌, ◌≤◌}
use native.Mathlib.Omega.{arith}
use borrow.Author.Tests.{le-leb, eq-eqb, leb-true, eqb-true}
use lib.ListN.{length, take}
use lib.Seq.{length-take-le}
use Rattle.std.specs.Prelude.{Result, Ok, Err}
use Rattle.laws.proofs.Tests.{never}
use Rattle.answers.specs.Limits.{checked_by}
use Rattle.answers.specs.declared.Refusal.{Refusal}
use Rattle.answers.proofs.Checks.{all_hold}
use Rattle.elements.specs.declared.Form.TheVariants as F
use Rattle.elements.specs.Reading.{read}
use Rattle.elements.proofs.Reading.{ends-within}
use Rattle.elements.proofs.Shape.{def_lines_reads}
use Rattle.elements.proofs.Nesting.{any_reads}
use Rattle.headers.specs.Record.{is_read, ends_at, element_rules, record_rules, check_record}
use Rattle.headers.specs.Statement.{GoodRecord}

-- ---- the code's tests

module _ (s : List ℕ) (start : ℕ) where
  pub nest_refused : (r : Refusal) → read 16 F.Any s start ≡ Err r → Err r ≡ checked_by (element_rules s start)
  nest_refused r e = rw e

pub record_element : (header : List ℕ) (start end : ℕ) → length header ≤ 2147483647 → start ≤ end → (c : Result Unit Refusal) → end ≤ length header
    → c ≡ checked_by (element_rules (take end header) start) → c ≡ check_record header start end
unfolding check_record
record_element header start end h l c k e = rw (le-leb _ _ h, le-leb _ _ l, le-leb _ _ k) e

-- ---- what a record that passed is

read_is : (x : Result ℕ Refusal) → is_read x ≡ true → (n : ℕ) × (x ≡ Ok n)
read_is (Ok n) e = (n, refl)
read_is (Err r) e = never e

ends_is : (place : ℕ) (x : Result ℕ Refusal) → ends_at place x ≡ true → x ≡ Ok place
ends_is place (Ok n) e = ap Ok (eqb-true n place e)
ends_is place (Err r) e = never e

same : (x : Result ℕ Refusal) (m n : ℕ) → x ≡ Ok m → x ≡ Ok n → m ≡ n
same x m n e f = cc

-- a record that passed: its sizes, and its def-lines are read to its end
pub record PassedRecord (header : List ℕ) (start end : ℕ) : Type 0 where
  pub small : length header ≤ 2147483647
  pub ordered : start ≤ end
  pub fits : end ≤ length header
  pub sized : length (take end header) ≡ end
  pub lines : read 16 F.DefLines (take end header) start ≡ Ok end
  pub long : start + 2 ≤ end

module _ (header : List ℕ) (start end : ℕ) where
  pub passed_record : check_record header start end ≡ Ok tt → PassedRecord header start end
  unfolding check_record
  passed_record p =
      let a = all_hold (record_rules header start end) (check_record header start end) refl p in
      let s = take end header in
      let fits : end ≤ length header = leb-true end (length header) a.1.1.0 in
      let sized : length s ≡ end = length-take-le end header fits in
      let whole : read 16 F.Any s start ≡ Ok end = ends_is (length s) (read 16 F.Any s start) a.1.1.1.1.0 ∙ ap Ok sized in
      let shape = read_is (read 16 F.DefLines s start) a.1.1.1.1.1.0 in
      let any : read 16 F.Any s start ≡ Ok shape.0 = any_reads s 16 16 F.DefLines start shape.0 (omega arith) shape.1 in
      let w = ends-within 16 F.Any s start end whole in
      record {
        small = leb-true (length header) 2147483647 a.0;
        ordered = leb-true start end a.1.0;
        fits = fits;
        sized = sized;
        lines = shape.1 ∙ ap Ok (same (read 16 F.Any s start) shape.0 end any whole);
        long = omega (arith, w.0);
      }

  -- the check passes exactly the good records
  pub passes-good : check_record header start end ≡ Ok tt → GoodRecord header start end
  passes-good p =
      let r = passed_record p in
      record { small = r.small; ordered = r.ordered; fits = r.fits; shape = (def_lines_reads (take end header)).sound start end r.lines }

  pub good-passes : GoodRecord header start end → check_record header start end ≡ Ok tt
  unfolding check_record
  good-passes g =
      let s = take end header in
      let sized : length s ≡ end = length-take-le end header g.fits in
      let shape : read 16 F.DefLines s start ≡ Ok end = (def_lines_reads s).full start end g.shape in
      let whole : read 16 F.Any s start ≡ Ok end = any_reads s 16 16 F.DefLines start end (omega arith) shape in
      rw (le-leb _ _ g.small, le-leb _ _ g.ordered, le-leb _ _ g.fits, whole, shape, sized, eq-eqb end end refl)
