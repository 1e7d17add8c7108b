-- The bytes of an integer and of a text, and the integer that bytes write.
-- Assumes nothing.
use Rattle.std.specs.Prelude.{ℕ, ◌+◌, ◌-◌, ◌≤◌, List, Bool, cond, not, ◌&&◌, length, get_or, take, drop, ltb, leb, eqb, ℤ, Result, Ok, Err}
use Rattle.laws.specs.Digits.{value}
use Rattle.laws.specs.Places.{every}
use Rattle.fields.specs.Number.{signed}
use Rattle.answers.specs.declared.Refusal.TheVariants.{BadHeader}
use Rattle.elements.specs.declared.Span.{Span}
use Rattle.answers.specs.declared.Refusal.{Refusal}
use Rattle.elements.specs.Grammar.{in_range}
use Rattle.elements.specs.Statement.{bit_at}

-- The part of n bytes that starts at a place.
abbrev pub span : ℕ → ℕ → Span
span at n = record { start = at; len = n }

-- The bytes of a part.
abbrev pub bytes_of : List ℕ → ℕ → ℕ → List ℕ
bytes_of s at n = take n (drop at s)

-- n bytes from a place on, which may not run past the end (20).
unfoldable pub part_at : List ℕ → ℕ → ℕ → Result Span Refusal
part_at s at n = cond (leb (at + n) (length s)) (Ok (span at n)) (Err BadHeader)

-- A padded integer has more than one byte, and its first nine bits are all equal (request 2026-06).
abbrev pub is_padded : List ℕ → Bool
is_padded bytes = ltb 1 (length bytes) && every (λ i. eqb (bit_at bytes i) (bit_at bytes 0)) 9

-- Which integers are allowed, by their bytes: those of 1 to 8 bytes that are not padded.
unfoldable pub integer_allowed : List ℕ → Bool
integer_allowed bytes = leb 1 (length bytes) && leb (length bytes) 8 && not (is_padded bytes)

-- The bytes of an integer whose length stands at a place: a length in one byte, and so many bytes of an allowed integer.
unfoldable pub integer_part : List ℕ → ℕ → Result Span Refusal
integer_part s at =
    cond (ltb at (length s) && leb (at + 1 + get_or s at 0) (length s) && integer_allowed (bytes_of s (at + 1) (get_or s at 0)))
    (Ok (span (at + 1) (get_or s at 0)))
    (Err BadHeader)

-- The text after a length of k bytes, big-endian, which stands at a place.
unfoldable pub long_part : List ℕ → ℕ → ℕ → Result Span Refusal
long_part s at k = cond (leb (at + k) (length s)) (part_at s (at + k) (value 8 0 (bytes_of s at k))) (Err BadHeader)

-- The bytes of a text whose length stands at a place: the length is below 128 in one byte, or 81 to 84 and that many bytes.
unfoldable pub text_part : List ℕ → ℕ → Result Span Refusal
text_part s at =
    cond (ltb at (length s))
    (cond (ltb (get_or s at 0) 128) (part_at s (at + 1) (get_or s at 0))
    (cond (in_range 129 132 (get_or s at 0)) (long_part s (at + 1) (get_or s at 0 - 128)) (Err BadHeader)))
    (Err BadHeader)

-- A part lies within a file.
abbrev pub Within : List ℕ → Result Span Refusal → Type 0
Within s (Ok t) = t.start + t.len ≤ length s
Within s (Err r) = Unit

-- The two's complement number of some bytes, the first one highest.
abbrev pub integer_of : List ℕ → ℕ → ℕ → ℤ
integer_of s at n = signed n (value 8 0 (bytes_of s at n))

abbrev pub integer_in : List ℕ → Result Span Refusal → Result ℤ Refusal
integer_in s (Ok t) = Ok (integer_of s t.start t.len)
integer_in s (Err r) = Err r

-- The integer element at a place: 02, its length, its bytes.
unfoldable pub integer_at : List ℕ → ℕ → Result ℤ Refusal
integer_at s at = cond (eqb (get_or s at 0) 2) (integer_in s (integer_part s (at + 1))) (Err BadHeader)

-- The text element at a place: 1A, its length, its bytes.
unfoldable pub text_at : List ℕ → ℕ → Result Span Refusal
text_at s at = cond (eqb (get_or s at 0) 26) (text_part s (at + 1)) (Err BadHeader)
