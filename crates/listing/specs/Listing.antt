-- The listing of a volume: document 01's whole text, as bytes of ASCII.
-- Assumes nothing.
use Rattle.std.specs.Prelude.{◌≡◌, cond, List, [], ◌∷◌, ◌++◌, ℕ, zero, suc, ◌+◌, ◌/◌, ◌%◌, eqb, leb, ltb, length, Result, Ok, Err}
use Rattle.laws.specs.Rules.{Rule, ask, verdict}
use Rattle.laws.specs.Writing.{written_at}
use Rattle.answers.specs.Numbers.{number_of}
use Rattle.answers.specs.declared.Refusal.{Refusal}
use Rattle.answers.specs.declared.Refusal.TheVariants.{TooLarge}
use Rattle.volume.specs.declared.VolumeRecord.{VolumeRecord}
use Rattle.volume.specs.Tables.{length_of_number}
use Rattle.volume.specs.Volume.{volume_answer}

-- ---- bytes

abbrev pub space : ℕ
space = 32

abbrev pub line_feed : ℕ
line_feed = 10

-- The digit of a number below ten.
abbrev pub digit_of : ℕ → ℕ
digit_of d = 48 + d

-- The last digits of a number in base ten, the highest first, at most so many: its last digit stands behind those of a tenth of it.
unfoldable pub last_digits : ℕ → ℕ → List ℕ
last_digits zero n = []
last_digits (suc most) n = cond (ltb n 10) [] (last_digits most (n / 10)) ++ (digit_of (n % 10) ∷ [])

-- A number in base ten, without zeros in front. 20 digits are enough for every number of 64 bits.
unfoldable pub decimal : ℕ → List ℕ
decimal n = last_digits 20 n

-- A number and the byte after it.
unfoldable pub number_then : ℕ → ℕ → List ℕ
number_then n after = decimal n ++ (after ∷ [])

-- ---- lines

-- "protein ", "dna " and "refused ".
abbrev pub protein_word : List ℕ
protein_word = 112 ∷ 114 ∷ 111 ∷ 116 ∷ 101 ∷ 105 ∷ 110 ∷ space ∷ []

abbrev pub dna_word : List ℕ
dna_word = 100 ∷ 110 ∷ 97 ∷ space ∷ []

abbrev pub refused_word : List ℕ
refused_word = 114 ∷ 101 ∷ 102 ∷ 117 ∷ 115 ∷ 101 ∷ 100 ∷ space ∷ []

-- The type by its name.
unfoldable pub type_text : ℕ → List ℕ
type_text kind = cond (eqb kind 1) protein_word dna_word

-- The first line: type, N, count and longest.
unfoldable pub head_text : VolumeRecord → List ℕ
head_text v = type_text v.kind ++ (number_then v.sequences space ++ (number_then v.residues space ++ number_then v.longest line_feed))

-- A line for a sequence: its number and its length.
unfoldable pub length_text : ℕ → ℕ → List ℕ
length_text number len = number_then number space ++ number_then len line_feed

-- A line for each of n sequences.
abbrev pub lengths_text : (ℕ → ℕ) → ℕ → List ℕ
lengths_text length_of zero = []
lengths_text length_of (suc n) = lengths_text length_of n ++ length_text n (length_of n)

-- The one line of a refusal, with its number.
unfoldable pub refused_text : ℕ → List ℕ
refused_text number = refused_word ++ number_then number line_feed

-- ---- the listing

-- A listing takes files of at most 16,384 bytes each (larger: 22).
abbrev pub most_listed : ℕ
most_listed = 16384

abbrev pub listing_size_rules : List ℕ → List ℕ → List ℕ → List (Rule Refusal)
listing_size_rules index sequence header =
    ask (leb (length index) most_listed) TooLarge
    ∷ ask (leb (length sequence) most_listed) TooLarge
    ∷ ask (leb (length header) most_listed) TooLarge
    ∷ []

-- The answer of the volume's check, the sizes tested first.
unfoldable pub listed_answer : List ℕ → List ℕ → List ℕ → Result VolumeRecord Refusal
listed_answer index sequence header = verdict Err (volume_answer index sequence header) (listing_size_rules index sequence header)

-- The text of a volume that passed: the first line, and each number with its length.
unfoldable pub volume_text : List ℕ → List ℕ → VolumeRecord → List ℕ
volume_text index sequence v = head_text v ++ lengths_text (length_of_number index sequence) v.sequences

abbrev pub answer_text : List ℕ → List ℕ → Result VolumeRecord Refusal → List ℕ
answer_text index sequence (Ok v) = volume_text index sequence v
answer_text index sequence (Err r) = refused_text (number_of r)

-- The whole text.
unfoldable pub listing_text : List ℕ → List ℕ → List ℕ → List ℕ
listing_text index sequence header = answer_text index sequence (listed_answer index sequence header)

-- The room that the output has: every text fits in it (proofs/Room.antt).
abbrev pub listing_room : ℕ
listing_room = 131072

-- ---- parts of the output

-- A text put into a range from a place on: the range as it was and as it is, and the place behind the text.
pub record Put (old : List ℕ) (at : ℕ) (text new : List ℕ) (next : ℕ) : Type 0 where
  pub holds : new ≡ written_at at text old
  pub place : next ≡ at + length text
