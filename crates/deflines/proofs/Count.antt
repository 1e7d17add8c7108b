-- How many titles a record can have, and that number k of a list is below its length. Assumes nothing.
use mathlib.Core.Path.{◌≡◌, refl}
use mathlib.Core.List.{List, [], ◌∷◌, flat_map}
use Prim.Native.Nat.{ℕ, zero, suc, ◌+◌, ◌*◌, ◌≤◌, ◌<◌}
use native.Mathlib.Nat.{mul-le-mul}
use native.Mathlib.Omega.{arith}
use lib.ListN.{length, take, drop, length-append}
use Rattle.std.specs.Prelude.{Option, Result, Ok, Err}
use Rattle.answers.specs.declared.Refusal.{Refusal}
use Rattle.std.specs.declared.ops.ControlFlow.TheVariants.{Break, Continue}
use Rattle.elements.specs.declared.Span.{Span}
use Rattle.headers.specs.Record.{check_record}
use Rattle.deflines.specs.declared.Field.{Field}
use Rattle.deflines.specs.declared.Field.TheVariants as L
use Rattle.deflines.specs.Fields.{from_next, elements_from, elements_in, field_at, field_titles, titles_in, titles_of}
use Rattle.deflines.specs.Numbered.{item_from}
use Rattle.deflines.specs.Calls.{title_given, title_in, title_of}
use Rattle.deflines.proofs.Walks.{next_cases}
use Rattle.deflines.proofs.Calls.{passed_small}

-- ---- lengths

elements_length : (turns : ℕ) (s : List ℕ) (p : ℕ) → length (elements_from turns s p) ≤ turns
unfolding elements_from
elements_length zero s p = omega arith
elements_length (suc turns) s p =
    next_cases s p (λ (x : Option ℕ). length (from_next x (λ n. p ∷ elements_from turns s n)) ≤ suc turns) (omega arith)
    (λ n a b. let h = elements_length turns s n in omega arith)

flat_length : {X : Type 0} (m : ℕ) (f : ℕ → List X) (xs : List ℕ) → ((p : ℕ) → length (f p) ≤ m) → length (flat_map f xs) ≤ length xs * m
unfolding flat_map
flat_length m f [] h = omega arith
flat_length m f (x ∷ xs) h = let a = h x in let b = flat_length m f xs h in rw length-append (omega arith)

field_length : (x : Field) → length (field_titles x) ≤ 1
field_length (L.Title t) = omega arith
field_length (L.Identifiers p) = omega arith
field_length L.Other = omega arith

line_length : (s : List ℕ) (line : ℕ) → length (titles_in s line) ≤ suc (length s)
unfolding titles_in
line_length s line =
    let a = flat_length 1 (λ p. field_titles (field_at s p)) (elements_in s line) (λ p. field_length (field_at s p)) in
    let b = elements_length (suc (length s)) s (line + 2) in
    omega arith

titles_length : (s : List ℕ) (start : ℕ) → length (titles_of s start) ≤ suc (length s) * suc (length s)
unfolding titles_of
titles_length s start =
    let a = flat_length (suc (length s)) (titles_in s) (elements_in s start) (line_length s) in
    let b = mul-le-mul (elements_length (suc (length s)) s (start + 2)) (let r : suc (length s) ≤ suc (length s) = omega arith in r) in
    omega arith

-- ---- number k of the titles

-- the titles after k others begin with number k
pub title_found : (ts : List Span) (k : ℕ) → k < length ts → (t : Span) × (item_from ts k ≡ Break t) × (drop k ts ≡ t ∷ drop (suc k) ts)
title_found [] k h = absurd (omega arith)
title_found (t ∷ ts) zero h = (t, refl, refl)
title_found (t ∷ ts) (suc k) h = title_found ts k (omega arith)

pub title-left : (ts : List Span) (k : ℕ) → length ts ≤ k → (j : ℕ) × (item_from ts k ≡ Continue j)
title-left [] k h = (k, refl)
title-left (t ∷ ts) zero h = absurd (omega arith)
title-left (t ∷ ts) (suc k) h = title-left ts k (omega arith)

found_below : (ts : List Span) (k : ℕ) (t : Span) → title_given (item_from ts k) ≡ Ok t → k < length ts
found_below [] k t e = absurd (cc)
found_below (x ∷ ts) zero t e = omega arith
found_below (x ∷ ts) (suc k) t e = let h = found_below ts k t e in omega arith

bounded : (s : List ℕ) (start given : ℕ) (c : Result Unit Refusal) (t : Span) → (c ≡ Ok tt → length s ≤ 2147483647)
    → title_in s start given c ≡ Ok t → given < 4611686018427387904
bounded s start given (Ok tt) t h e =
    let l : length s ≤ 2147483647 = h refl in
    let m : suc (length s) ≤ 2147483648 = omega arith in
    let a = found_below (titles_of s start) given t e in
    let b = titles_length s start in
    let c : suc (length s) * suc (length s) ≤ 2147483648 * 2147483648 = mul-le-mul m m in
    omega arith
bounded s start given (Err r) t h e = absurd (cc)

-- a title that is given has few before it
pub title_bound : (header : List ℕ) (start end given : ℕ) (t : Span) → title_of header start end given ≡ Ok t → given < 4611686018427387904
unfolding title_of
title_bound header start end given t e = bounded (take end header) start given (check_record header start end) t (λ p. passed_small header start end p) e
