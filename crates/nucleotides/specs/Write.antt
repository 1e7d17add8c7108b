-- Writing nucleic codes as a volume has them: two-bit bytes and right behind them the ambiguity range (request 2026-03); and the bases of a code.
-- Assumes nothing.
use Rattle.std.specs.Prelude.{Result, Ok, Err, List, [], ◌∷◌, ◌++◌, ℕ, ◌+◌, leb, ltb, length}
use Rattle.std.specs.Int.Count.{ones}
use Rattle.laws.specs.Rules.{Rule, ask, verdict}
use Rattle.laws.specs.Writing.{written_at}
use Rattle.answers.specs.Limits.{bytes_fit}
use Rattle.answers.specs.Numbers.{number_of}
use Rattle.answers.specs.declared.Refusal.{Refusal}
use Rattle.answers.specs.declared.Refusal.TheVariants.{TooLarge, BadCode, NoRoom}
use Rattle.residues.specs.Alphabets.{valid_codes}
use Rattle.residues.specs.Tables.{ambiguity_value}
use Rattle.nucleotides.specs.declared.Written.{Written}
use Rattle.nucleotides.specs.TwoBit.{two_bit_size, two_bit_bytes}
use Rattle.nucleotides.specs.Pieces.{width_of, corrections_of}
use Rattle.nucleotides.specs.Table.{table_size, table_bytes}

-- ---- what is written

-- Both parts, one behind the other, and their sizes.
abbrev pub sequence_bytes : List ℕ → List ℕ
sequence_bytes codes = two_bit_bytes codes ++ table_bytes (width_of (length codes)) (corrections_of codes)

abbrev pub range_size : List ℕ → ℕ
range_size codes = table_size (width_of (length codes)) (length (corrections_of codes))

abbrev pub bytes_needed : List ℕ → ℕ
bytes_needed codes = two_bit_size (length codes) + range_size codes

-- ---- the call

-- Document 01's alphabet 2 is DNA.
abbrev pub dna : ℕ
dna = 2

-- 22 for the codes; 18 for a code above 15; 22 for the bytes needed; 13 for an output with less room.
abbrev pub write_rules : List ℕ → ℕ → List (Rule Refusal)
write_rules codes room =
    ask (bytes_fit codes) TooLarge
    ∷ ask (valid_codes dna codes) BadCode
    ∷ ask (leb (bytes_needed codes) 2147483647) TooLarge
    ∷ ask (leb (bytes_needed codes) room) NoRoom
    ∷ []

abbrev pub written_sizes : List ℕ → Written
written_sizes codes = record { two_bit = two_bit_size (length codes); table = range_size codes }

unfoldable pub write_answer : List ℕ → ℕ → Result Written Refusal
write_answer codes room = verdict Err (Ok (written_sizes codes)) (write_rules codes room)

-- What the output holds afterwards: on success its first bytes are the sequence's and the rest is unchanged; on a refusal all is unchanged.
abbrev pub written_by : Result Written Refusal → List ℕ → List ℕ → List ℕ
written_by (Ok sizes) bytes output = written_at 0 bytes output
written_by (Err r) bytes output = output

unfoldable pub write_output : List ℕ → List ℕ → List ℕ
write_output codes output = written_by (write_answer codes (length output)) (sequence_bytes codes) output

-- Document 01's number of an answer, and its values.
abbrev pub write_number : Result Written Refusal → ℕ
write_number (Ok sizes) = 0
write_number (Err r) = number_of r

abbrev pub write_values : Result Written Refusal → List ℕ
write_values (Ok sizes) = sizes.two_bit ∷ sizes.table ∷ []
write_values (Err r) = []

-- ---- the bases of a code

-- How many bases a code stands for: the set bits of its ambiguity value.
unfoldable pub base_count : ℕ → ℕ
base_count code = ones (ambiguity_value code)

abbrev pub bases_rules : ℕ → List (Rule Refusal)
bases_rules code = ask (ltb code 16) BadCode ∷ []

unfoldable pub bases_answer : ℕ → Result ℕ Refusal
bases_answer code = verdict Err (Ok (base_count code)) (bases_rules code)

abbrev pub bases_number : Result ℕ Refusal → ℕ
bases_number (Ok n) = 0
bases_number (Err r) = number_of r

abbrev pub bases_values : Result ℕ Refusal → List ℕ
bases_values (Ok n) = n ∷ []
bases_values (Err r) = []
