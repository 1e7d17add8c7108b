-- Titles lie within the header file. Assumes nothing.
use mathlib.Core.Path.{◌≡◌, refl, subst}
use mathlib.Core.List.{List}
use Prim.Native.Nat.{ℕ, ◌+◌, ◌≤◌}
use native.Mathlib.Nat.{min-le_right}
use native.Mathlib.Omega.{arith}
use lib.ListN.{length, get_or, take, length-take}
use lib.Dec.{eqb}
use Rattle.laws.proofs.Choices.{cond_elim}
use Rattle.std.specs.Prelude.{Option, Some, None, Result, Ok, Err}
use Rattle.answers.specs.declared.Refusal.{Refusal}
use Rattle.std.specs.declared.ops.ControlFlow.{ControlFlow}
use Rattle.std.specs.declared.ops.ControlFlow.TheVariants.{Break, Continue}
use Rattle.elements.specs.declared.Span.{Span}
use Rattle.elements.specs.Parts.{text_part, text_at, Within}
use Rattle.elements.proofs.Parts.{text-within}
use Rattle.headers.specs.Record.{check_record}
use Rattle.deflines.specs.declared.Field.{Field}
use Rattle.deflines.specs.Fields.{elements_in, title_field, field_at, field_titles, titles_in, first_titles}
use Rattle.deflines.specs.Calls.{first_given, first_in, first_of}
use Rattle.deflines.proofs.Lists.{Each, each_flat, each_number}

-- a part lies within so many bytes
abbrev PartWithin : ℕ → Span → Type 0
PartWithin m t = t.start + t.len ≤ m

abbrev FirstWithin : ℕ → Result (Option Span) Refusal → Type 0
FirstWithin m (Ok (Some t)) = PartWithin m t
FirstWithin m (Ok None) = Unit {0}
FirstWithin m (Err r) = Unit {0}

title-within : (s : List ℕ) (x : Result Span Refusal) → Within s x → Each (PartWithin (length s)) (field_titles (title_field x))
title-within s (Ok t) h = (h, tt)
title-within s (Err r) h = tt

text_at-within : (s : List ℕ) (at : ℕ) → Within s (text_at s at)
unfolding text_at
text_at-within s at = cond_elim (Within s) (eqb (get_or s at 0) 26) (λ _. text-within s (at + 1) (text_part s (at + 1)) refl) (λ _. tt)

field_within : (s : List ℕ) (p : ℕ) → Each (PartWithin (length s)) (field_titles (field_at s p))
unfolding field_at
field_within s p =
    let P : Field → Type 0 = λ x. Each (PartWithin (length s)) (field_titles x) in
    cond_elim P (eqb (get_or s p 0) 161) (λ _. tt)
    (λ _. cond_elim P (eqb (get_or s p 0) 160) (λ _. title-within s (text_at s (p + 2)) (text_at-within s (p + 2))) (λ _. tt))

first-each : (s : List ℕ) (start : ℕ) → Each (PartWithin (length s)) (first_titles s start)
unfolding first_titles titles_in
first-each s start =
    let P = PartWithin (length s) in
    each_flat P (titles_in s) _ (λ line. each_flat P (λ p. field_titles (field_at s p)) (elements_in s line) (λ p. field_within s p))

in_within : (s : List ℕ) (start : ℕ) (c : Result Unit Refusal) → FirstWithin (length s) (first_in s start c)
in_within s start (Ok tt) =
    let Q : ControlFlow Span ℕ → Type 0 = λ x. FirstWithin (length s) (first_given x) in
    each_number (PartWithin (length s)) Q Break Continue (λ t h. h) (λ j. tt) (first_titles s start) 0 (first-each s start)
in_within s start (Err r) = tt

-- the first def-line's title lies within the header file
pub first-within : (header : List ℕ) (start end : ℕ) (t : Span) → first_of header start end ≡ Ok (Some t) → t.start + t.len ≤ length header
unfolding first_of
first-within header start end t e =
    let a : length (take end header) ≤ length header = rw length-take (min-le_right _ _) in
    let b : PartWithin (length (take end header)) t = subst (FirstWithin _) e (in_within (take end header) start (check_record header start end)) in
    omega arith
