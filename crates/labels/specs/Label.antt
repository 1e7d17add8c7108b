-- The label of a sequence: the first def-line's title in the header file, or the volume title in the index where there is none.
-- Assumes nothing.
use Rattle.std.specs.Prelude.{ℕ, ◌+◌, List, [], ◌∷◌, ltb, ℤ, pos, length, Option, Some, None, Result, Ok, Err}
use Rattle.std.specs.Int.Signed.{le_z, non_neg}
use Rattle.laws.specs.Rules.{Rule, ask, verdict}
use Rattle.laws.specs.Signed.{to_nat}
use Rattle.answers.specs.Limits.{bytes_fit}
use Rattle.answers.specs.Numbers.{number_of}
use Rattle.answers.specs.declared.Refusal.{Refusal}
use Rattle.answers.specs.declared.Refusal.TheVariants.{BadOffsets, NoSuchSequence, TooLarge}
use Rattle.elements.specs.declared.Span.{Span}
use Rattle.elements.specs.Parts.{span, bytes_of}
use Rattle.deflines.specs.Calls.{first_of}
use Rattle.volume.specs.Index.{title_start, title_length, sequences, header_table, index_answer}
use Rattle.volume.specs.Tables.{offset_at}
use Rattle.volume.specs.declared.Index.{Index}
use Rattle.labels.specs.declared.Label.{Label}
use Rattle.labels.specs.declared.Label.TheVariants.{InHeader, InIndex}

-- The label of a record that was read: its first def-line's title, or the volume title.
abbrev pub label_in : ℕ → Option Span → Label
label_in title (Some t) = InHeader t
label_in title None = InIndex (span title_start title)

abbrev pub record_label : ℕ → Result (Option Span) Refusal → Result Label Refusal
record_label title (Ok first) = Ok (label_in title first)
record_label title (Err r) = Err r

-- A sequence's own two header offsets: 0 <= H[i] <= H[i+1] <= the header file's length (7).
abbrev pub own_rules : ℕ → ℤ → ℤ → List (Rule Refusal)
own_rules size low high = ask (non_neg low) BadOffsets ∷ ask (le_z low high) BadOffsets ∷ ask (le_z high (pos size)) BadOffsets ∷ []

-- The label of the record between two header offsets: 7, then 20 or 21.
unfoldable pub offsets_label : List ℕ → ℕ → ℤ → ℤ → Result Label Refusal
offsets_label header title low high = verdict Err (record_label title (first_of header (to_nat low) (to_nat high))) (own_rules (length header) low high)

-- The label of a sequence of an index that was read: 22 and 1 to 6 of the index, 10 where there is no sequence of that number, then its own offsets and record.
abbrev pub number_label : List ℕ → List ℕ → ℕ → Result Index Refusal → Result Label Refusal
number_label index header number (Ok x) =
    verdict Err
    (offsets_label header (title_length index) (offset_at index (header_table index) number) (offset_at index (header_table index) (number + 1)))
    (ask (ltb number (sequences index)) NoSuchSequence ∷ [])
number_label index header number (Err r) = Err r

-- The label of a sequence by its number: 22 for either file first.
unfoldable pub label_of : List ℕ → List ℕ → ℕ → Result Label Refusal
label_of index header number = verdict Err (number_label index header number (index_answer index)) (ask (bytes_fit header) TooLarge ∷ [])

-- The two answers: the number, and the part, which on a refusal is the empty start of the index.
abbrev pub label_number : Result Label Refusal → ℕ
label_number (Ok (InHeader t)) = 0
label_number (Ok (InIndex t)) = 0
label_number (Err r) = number_of r

abbrev pub label_part : List ℕ → List ℕ → Result Label Refusal → List ℕ
label_part index header (Ok (InHeader t)) = bytes_of header t.start t.len
label_part index header (Ok (InIndex t)) = bytes_of index t.start t.len
label_part index header (Err r) = []

-- Where the part lies, as a memory block and an offset, of an index and a header file that lie at two places: on a refusal the start of the index.
abbrev pub label_place : ℕ × ℕ → ℕ × ℕ → Result Label Refusal → ℕ × ℕ
label_place index header (Ok (InHeader t)) = (header.0, t.start + header.1)
label_place index header (Ok (InIndex t)) = (index.0, t.start + index.1)
label_place index header (Err r) = (index.0, 0 + index.1)
