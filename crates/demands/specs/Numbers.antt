-- What demand 1 says of a call: its number, what it returns beside it, and what a refusal leaves of a lent range.
-- Assumes nothing.
use Rattle.std.specs.Prelude.{◌≡◌, ◌⊎◌, List, [], ◌∷◌, ℕ, ◌<◌, length, get_or, None, Option, Some}
use Rattle.answers.specs.Numbers.{number_of}
use Rattle.answers.specs.declared.Refusal.TheVariants.{BadRun}

-- Document 01's table of answer numbers, row by row. It has no 16.
abbrev pub table_numbers : List ℕ
table_numbers =
    -- a field, table or file ends too early, or a packet body isn't a multiple of 4 bytes
    1
    -- volume version not 4
    ∷ 2
    -- volume type not 0 or 1; alphabet not 1, 2, 3
    ∷ 3
    -- a stated number is outside its range; flags not 0
    ∷ 4
    -- the timestamp's end is misaligned
    ∷ 5
    -- bytes left over in an index
    ∷ 6
    -- offsets or ends break their rules
    ∷ 7
    -- a protein separator isn't NUL
    ∷ 8
    -- stated totals or longest lengths are wrong
    ∷ 9
    -- no sequence of that number
    ∷ 10
    -- a protein byte above 27
    ∷ 11
    -- a bad ambiguity table
    ∷ 12
    -- the output hasn't room, or the place lies beyond it
    ∷ 13
    -- magic is neither 0xc4d3d1b1 nor 0xb1d1d3c4, read little-endian, or the files of a set differ in byte order
    ∷ 14
    -- the three tags differ
    ∷ 15
    -- a packet run isn't well formed
    ∷ 17
    -- a residue code isn't valid
    ∷ 18
    -- bad metadata
    ∷ 19
    -- a malformed header record
    ∷ 20
    -- a header element begins at depth 17
    ∷ 21
    -- an input byte range over 2,147,483,647 bytes, or input packet range over 536,870,912 packets
    ∷ 22
    ∷ []

-- A number stands in a row of the table.
abbrev pub InTable : ℕ → Type 0
InTable n = (row : ℕ) × (row < length table_numbers) × (get_or table_numbers row 0 ≡ n)

-- The number of a call is 0, or stands in the table.
abbrev pub Numbered : ℕ → Type 0
Numbered n = (n ≡ 0) ⊎ InTable n

-- A call refused: its number is not 0, which is success.
abbrev pub Refuses : ℕ → Type 0
Refuses n = n ≡ 0 → ⊥

-- A call with its number and its values: a refusal returns its number only.
pub record Answered {A : Type 0} (number : ℕ) (values : List A) : Type 0 where
  pub numbered : Numbered number
  pub alone : Refuses number → values ≡ []

-- Document 01's number of what reading a run finds, and its value: L, the number of residues.
abbrev pub run_number : Option ℕ → ℕ
run_number (Some l) = 0
run_number None = number_of BadRun

abbrev pub run_values : Option ℕ → List ℕ
run_values (Some l) = l ∷ []
run_values None = []

-- A refusal writes nowhere: a lent range is as it was.
abbrev pub Kept : ℕ → List ℕ → List ℕ → Type 0
Kept number before after = Refuses number → after ≡ before

-- An input range is over 2,147,483,647 bytes, or over 536,870,912 packets.
abbrev pub LargeBytes : List ℕ → Type 0
LargeBytes bytes = 2147483647 < length bytes

abbrev pub LargePackets : List ℕ → Type 0
LargePackets packets = 536870912 < length packets

-- One of several input ranges is.
abbrev pub SomeLarge : List (List ℕ) → Type 0
SomeLarge [] = ⊥
SomeLarge (bytes ∷ ranges) = LargeBytes bytes ⊎ SomeLarge ranges
