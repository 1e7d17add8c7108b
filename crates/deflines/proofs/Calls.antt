-- The calls over one record: the check decides first. Assumes nothing.
use mathlib.Core.Path.{◌≡◌, refl, sym}
use mathlib.Core.List.{List, [], ◌∷◌, append-nil, flat_map}
use Prim.Native.Nat.{ℕ, zero, suc, ◌+◌, ◌≤◌}
use native.Mathlib.Omega.{arith}
use lib.ListN.{length, take}
use Rattle.std.specs.Prelude.{Option, Some, None, Result, Ok, Err}
use Rattle.std.specs.ControlFlow.{break_value}
use Rattle.std.specs.declared.ops.ControlFlow.TheVariants.{Break}
use Rattle.answers.specs.declared.Refusal.{Refusal}
use Rattle.elements.specs.declared.Span.{Span}
use Rattle.headers.specs.Record.{check_record}
use Rattle.headers.proofs.Record.{passed_record}
use Rattle.deflines.specs.declared.Identifier.{Identifier}
use Rattle.deflines.specs.Fields.{elements_in, titles_in, first_titles}
use Rattle.deflines.specs.Numbered.{item_from}
use Rattle.deflines.specs.Calls.{title_in, title_of, identifier_in, identifier_of, first_in, first_of}
use Rattle.deflines.proofs.Walks.{elements_each, place-room}

-- ---- the first def-line

first_titles_lem : (s xs : List ℕ) (line : ℕ) → break_value (item_from xs 0) ≡ Some line → flat_map (titles_in s) (take 1 xs) ≡ titles_in s line
unfolding flat_map
first_titles_lem s [] line e = absurd (cc)
first_titles_lem s (x ∷ xs) line e = let q : x ≡ line = cc in rw (append-nil, q)

no_titles : (s xs : List ℕ) → break_value (item_from xs 0) ≡ None → flat_map (titles_in s) (take 1 xs) ≡ []
unfolding flat_map
no_titles s [] e = refl
no_titles s (x ∷ xs) e = absurd (cc)

found_value : {X : Type 0} (xs : List X) (k : ℕ) (x : X) → break_value (item_from xs k) ≡ Some x → item_from xs k ≡ Break x
found_value [] k x e = absurd (cc)
found_value (y ∷ xs) zero x e = cc
found_value (y ∷ xs) (suc k) x e = found_value xs k x e

module _ (s : List ℕ) (start : ℕ) where
  pub first_none : break_value (item_from (elements_in s start) 0) ≡ None → None ≡ break_value (item_from (first_titles s start) 0)
  unfolding first_titles
  first_none e = rw (no_titles s (elements_in s start) e)

  pub first_line_lem : (line : ℕ) (x : Option Span) → break_value (item_from (elements_in s start) 0) ≡ Some line
      → x ≡ break_value (item_from (titles_in s line) 0) → x ≡ break_value (item_from (first_titles s start) 0)
  unfolding first_titles
  first_line_lem line x e q = rw (first_titles_lem s (elements_in s start) line e) q

  -- an element inside has two bytes
  pub line_room : (k line : ℕ) → break_value (item_from (elements_in s start) k) ≡ Some line → line + 2 ≤ length s
  line_room k line e = place-room s (elements_in s start) k line (elements_each s (start + 2)) (found_value (elements_in s start) k line e)

-- ---- after the check

module _ (header : List ℕ) (start end : ℕ) where
  pub passed_room : check_record header start end ≡ Ok tt → start + 2 ≤ length (take end header)
  passed_room p = let r = passed_record header start end p in let a = r.sized in let b = r.long in omega arith

  pub passed_sized : check_record header start end ≡ Ok tt → end ≡ length (take end header)
  passed_sized p = sym (passed_record header start end p).sized

  pub passed_small : check_record header start end ≡ Ok tt → length (take end header) ≤ 2147483647
  passed_small p = let r = passed_record header start end p in let a = r.sized in let b = r.fits in let c = r.small in omega arith

  pub title-refused : (given : ℕ) (r : Refusal) → check_record header start end ≡ Err r → Err r ≡ title_of header start end given
  unfolding title_of
  title-refused given r e = rw e

  pub title_passed : (given : ℕ) (x : Result Span Refusal) → check_record header start end ≡ Ok tt → x ≡ title_in (take end header) start given (Ok tt)
      → x ≡ title_of header start end given
  unfolding title_of
  title_passed given x e q = rw e q

  pub identifier_refused : (number : ℕ) (r : Refusal) → check_record header start end ≡ Err r → Err r ≡ identifier_of header start end number
  unfolding identifier_of
  identifier_refused number r e = rw e

  pub identifier_passed : (number : ℕ) (x : Result Identifier Refusal) → check_record header start end ≡ Ok tt
      → x ≡ identifier_in (take end header) start number (Ok tt) → x ≡ identifier_of header start end number
  unfolding identifier_of
  identifier_passed number x e q = rw e q

  pub first_passed : (x : Result (Option Span) Refusal) → check_record header start end ≡ Ok tt → x ≡ first_in (take end header) start (Ok tt)
      → x ≡ first_of header start end
  unfolding first_of
  first_passed x e q = rw e q
