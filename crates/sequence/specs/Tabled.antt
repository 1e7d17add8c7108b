-- The entries of an ambiguity range as the code hands them on: private contracts alone cite these.
-- Assumes nothing.
use Rattle.std.specs.Prelude.{cond, List, ℕ, ◌+◌, ◌*◌, ◌≤◌, ◌<◌, eqb, length, Option, Some, None, Result, Ok, Err}
use Rattle.laws.specs.Rules.{verdict}
use Rattle.answers.specs.declared.Refusal.{Refusal}
use Rattle.sequence.specs.declared.RangeEntries.{RangeEntries}
use Rattle.sequence.specs.declared.Width.{Width}
use Rattle.sequence.specs.declared.Width.TheVariants.{Narrow, Wide}
use Rattle.sequence.specs.Corrections.{is_table, is_wide, entry_count, range_rules}

-- The bytes of an entry.
abbrev pub width_bytes : Width → ℕ
width_bytes Narrow = 4
width_bytes Wide = 8

-- The width of the entries of the range from a place up to an end, which is read where it is not empty.
abbrev pub range_width : List ℕ → ℕ → ℕ → Width
range_width sequence place end = cond (eqb place end) Narrow (cond (is_wide sequence place) Wide Narrow)

-- The entries of this range ..
abbrev pub range_entries : List ℕ → ℕ → ℕ → RangeEntries
range_entries sequence place end =
    record { start = place + 4; width = range_width sequence place end; count = entry_count sequence place end }

-- .. if it is a table.
abbrev pub entries_of : List ℕ → ℕ → ℕ → Option RangeEntries
entries_of sequence place end = cond (is_table sequence place end) (Some (range_entries sequence place end)) None

-- They lie inside a file.
abbrev pub LieInside : List ℕ → RangeEntries → Type 0
LieInside sequence e = (j : ℕ) → j < e.count → e.start + width_bytes e.width * j + width_bytes e.width ≤ length sequence

-- What the check of a range answers: its entries, or the refusal.
abbrev pub range_answer : List ℕ → ℕ → ℕ → ℕ → Result RangeEntries Refusal
range_answer sequence place end l = verdict Err (Ok (range_entries sequence place end)) (range_rules sequence place end l)
