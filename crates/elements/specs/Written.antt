-- What the elements of the plain statement write: the part of a text, and the number of an integer.
-- Assumes nothing.
use Rattle.std.specs.Prelude.{List, ℕ, ◌+◌, get_or, take, drop, ℤ}
use Rattle.laws.specs.Digits.{value}
use Rattle.fields.specs.Number.{signed}
use Rattle.elements.specs.declared.Span.{Span}
use Rattle.elements.specs.Statement.{IntegerElement, TextElement}
use Rattle.elements.specs.Statement as Z
use Rattle.elements.specs.Parts.{span}

-- The bytes of a text: behind its length, and as many as that says.
abbrev pub text_written : {s : List ℕ} {at n : ℕ} → TextElement s at n → Span
text_written {s} {at} (Z.short tag there size ends fits) = span (at + 2) (get_or s (at + 1) 0)
text_written {s} {at} (Z.long k tag some few length ends fits) = span (at + 2 + k) (value 8 0 (take k (drop (at + 2) s)))

-- The two's complement number of an integer's bytes, the first one highest.
abbrev pub integer_written : {s : List ℕ} {at n : ℕ} → IntegerElement s at n → ℤ
integer_written {s} {at} i = signed (get_or s (at + 1) 0) (value 8 0 (take (get_or s (at + 1) 0) (drop (at + 2) s)))
