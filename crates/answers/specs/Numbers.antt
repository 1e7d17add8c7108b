-- Document 01's table of answer numbers.
-- Assumes nothing.
use Rattle.std.specs.Prelude.{ℕ}
use Rattle.answers.specs.declared.Refusal.{Refusal}
use Rattle.answers.specs.declared.Refusal.TheVariants as R
use Rattle.std.specs.Prelude.{Result, Ok, Err}

-- The number of a refusal; each case's comment is its row of the table.
abbrev pub number_of : Refusal → ℕ
-- a field, table or file ends too early, or a packet body isn't a multiple of 4 bytes
number_of R.TooShort = 1
-- volume version not 4
number_of R.WrongVersion = 2
-- volume type not 0 or 1; alphabet not 1, 2, 3
number_of R.WrongKind = 3
-- a stated number is outside its range; flags not 0
number_of R.OutOfRange = 4
-- the timestamp's end is misaligned
number_of R.Misaligned = 5
-- bytes left over in an index
number_of R.Leftover = 6
-- offsets or ends break their rules
number_of R.BadOffsets = 7
-- a protein separator isn't NUL
number_of R.BadSeparator = 8
-- stated totals or longest lengths are wrong
number_of R.WrongTotals = 9
-- no sequence of that number
number_of R.NoSuchSequence = 10
-- a protein byte above 27
number_of R.BadProteinByte = 11
-- a bad ambiguity table
number_of R.BadAmbiguity = 12
-- the output hasn't room, or the place lies beyond it
number_of R.NoRoom = 13
-- magic is neither 0xc4d3d1b1 nor 0xb1d1d3c4, read little-endian, or the files of a set differ in byte order
number_of R.WrongMagic = 14
-- the three tags differ
number_of R.TagsDiffer = 15
-- a packet run isn't well formed
number_of R.BadRun = 17
-- a residue code isn't valid
number_of R.BadCode = 18
-- bad metadata
number_of R.BadMetadata = 19
-- a malformed header record
number_of R.BadHeader = 20
-- a header element begins at depth 17
number_of R.TooDeep = 21
-- an input byte range over 2,147,483,647 bytes, or input packet range over 536,870,912 packets
number_of R.TooLarge = 22

-- The number of a check that returns no values: 0 on success.
abbrev pub checked_number : Result Unit Refusal → ℕ
checked_number (Ok tt) = 0
checked_number (Err r) = number_of r
