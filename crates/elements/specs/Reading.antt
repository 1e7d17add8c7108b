-- Reading an element by a form: where it ends, or the refusal. The form `Any` reads the nesting alone.
-- Assumes nothing.
use Rattle.std.specs.Prelude.{ℕ, zero, suc, ◌+◌, List, Bool, cond, ◌&&◌, ◌||◌, length, get_or, ltb, eqb, Result, Ok, Err}
use Rattle.answers.specs.declared.Refusal.TheVariants.{BadHeader, TooDeep}
use Rattle.answers.specs.declared.Refusal.{Refusal}
use Rattle.elements.specs.declared.Span.{Span}
use Rattle.elements.specs.declared.Start.{Start}
use Rattle.elements.specs.declared.Start.TheVariants as B
use Rattle.elements.specs.declared.Form.{Form}
use Rattle.elements.specs.Grammar.{in_range, may_begin, inside, may_follow, may_close}
use Rattle.elements.specs.Parts.{integer_part, text_part}

-- A malformed record (20).
abbrev pub bad : Result ℕ Refusal
bad = Err BadHeader

-- The byte 80, which opens a list or a choice, stands at a place.
unfoldable pub opens : List ℕ → ℕ → Bool
opens s at = ltb at (length s) && eqb (get_or s at 0) 128

-- The bytes 00 00, which close a list or a choice, stand at a place.
unfoldable pub closes : List ℕ → ℕ → Bool
closes s at = ltb (at + 1) (length s) && eqb (get_or s at 0) 0 && eqb (get_or s (at + 1) 0) 0

-- A byte that begins an element: 02, 1A, 30, or A0 to B3.
abbrev pub begins : ℕ → Bool
begins b = eqb b 2 || eqb b 26 || eqb b 48 || in_range 160 179 b

-- At depth 17: 21 at once where an element begins, 20 at another byte or at the end.
unfoldable pub too_deep : List ℕ → ℕ → Result ℕ Refusal
too_deep s at = cond (begins (get_or s at 0)) (Err TooDeep) bad

-- An integer or a text ends where its bytes end.
abbrev pub end_of : Result Span Refusal → Result ℕ Refusal
end_of (Ok t) = Ok (t.start + t.len)
end_of (Err r) = Err r

-- An integer or a text that is read to its end.
abbrev pub started : Result ℕ Refusal → Result Start Refusal
started (Ok n) = Ok (B.Ended n)
started (Err r) = Err r

-- How an element of a form begins: an integer or a text is read to its end; 30 80 opens a list and A0 to B3 then 80 a choice, with the form of what
-- stands inside.
unfoldable pub start_of : Form → List ℕ → ℕ → Result Start Refusal
start_of form s at =
    cond (ltb at (length s) && may_begin form (get_or s at 0))
    (cond (eqb (get_or s at 0) 2) (started (end_of (integer_part s (at + 1))))
    (cond (eqb (get_or s at 0) 26) (started (end_of (text_part s (at + 1))))
    (cond (opens s (at + 1))
    (cond (eqb (get_or s at 0) 48) (Ok (B.List (inside form (get_or s at 0))))
    (cond (in_range 160 179 (get_or s at 0)) (Ok (B.Choice (inside form (get_or s at 0)))) (Err BadHeader)))
    (Err BadHeader))))
    (Err BadHeader)

-- Go on after an element that was read.
abbrev pub and_then : Result ℕ Refusal → (ℕ → Result ℕ Refusal) → Result ℕ Refusal
and_then (Ok n) more = more n
and_then (Err r) more = Err r

-- 00 00 behind the one element of a choice.
abbrev pub closed_at : List ℕ → Result ℕ Refusal → Result ℕ Refusal
closed_at s (Ok n) = cond (closes s n) (Ok (n + 2)) bad
closed_at s (Err r) = Err r

-- Elements, each where it may follow, up to 00 00, which stands where the list may close. Each takes a byte, so as many turns as there are bytes are
-- enough.
unfoldable pub list_end : (ℕ → Result ℕ Refusal) → Form → ℕ → ℕ → List ℕ → ℕ → Result ℕ Refusal
list_end inner form zero low s at = bad
list_end inner form (suc turns) low s at =
    cond (closes s at) (cond (may_close form low) (Ok (at + 2)) bad)
    (cond (may_follow form low (get_or s at 0)) (and_then (inner at) (λ n. list_end inner form turns (get_or s at 0 + 1) s n)) bad)

-- The rest of an element that has begun; `inner` reads the elements inside it. No tag is past where a list begins, and A0 is the first.
abbrev pub rest_of : (Form → ℕ → Result ℕ Refusal) → Form → List ℕ → ℕ → Result Start Refusal → Result ℕ Refusal
rest_of inner form s at (Ok (B.Ended n)) = Ok n
rest_of inner form s at (Ok (B.List i)) = list_end (inner i) form (length s) 160 s (at + 2)
rest_of inner form s at (Ok (B.Choice i)) = closed_at s (inner i (at + 2))
rest_of inner form s at (Err r) = Err r

-- The element at a place by a form, with so many depths left: reading goes down element by element, one depth less inside each.
unfoldable pub read : ℕ → Form → List ℕ → ℕ → Result ℕ Refusal
read zero form s at = too_deep s at
read (suc depth) form s at = rest_of (λ i n. read depth i s n) form s at (start_of form s at)
