-- What packing and unpacking answer, and what the lent range holds after (document 01, "Packets").
-- Assumes nothing.
use Rattle.std.specs.Prelude.{Bool, Result, Ok, Err, List, [], ◌∷◌, ℕ, ◌+◌, leb, length}
use Rattle.laws.specs.Rules.{Rule, ask, verdict}
use Rattle.laws.specs.Writing.{written_at}
use Rattle.answers.specs.Numbers.{number_of}
use Rattle.answers.specs.Limits.{bytes_fit, packets_fit}
use Rattle.answers.specs.declared.Refusal.{Refusal}
use Rattle.answers.specs.declared.Refusal.TheVariants.{TooLarge, WrongKind, BadCode, BadRun, NoRoom}
use Rattle.residues.specs.Alphabets.{is_alphabet, valid_codes}
use Rattle.packets.specs.Packing.{run}
use Rattle.packets.specs.Runs.{well_formed, unpacked}
use Rattle.runs.specs.declared.RunSize.{RunSize}

-- ---- packing

-- The buffer has room for the run from its place on.
abbrev pub run_fits : ℕ → List ℕ → ℕ → ℕ → Bool
run_fits alphabet codes room place = leb (place + length (run alphabet codes)) room

-- The rules of packing, in the order in which they are asked; `room` is the buffer's length in packets.
abbrev pub pack_rules : ℕ → List ℕ → ℕ → ℕ → List (Rule Refusal)
pack_rules alphabet codes room place =
    ask (bytes_fit codes) TooLarge
    ∷ ask (is_alphabet alphabet) WrongKind
    ∷ ask (valid_codes alphabet codes) BadCode
    ∷ ask (run_fits alphabet codes room place) NoRoom
    ∷ []

-- Packing returns the run's packets and L.
abbrev pub packed_size : ℕ → List ℕ → RunSize
packed_size alphabet codes = record { packets = length (run alphabet codes); residues = length codes }

unfoldable pub pack_answer : ℕ → List ℕ → ℕ → ℕ → Result RunSize Refusal
pack_answer alphabet codes room place = verdict Err (Ok (packed_size alphabet codes)) (pack_rules alphabet codes room place)

-- The answer number, 0 on success, and the values.
abbrev pub pack_number : Result RunSize Refusal → ℕ
pack_number (Ok size) = 0
pack_number (Err r) = number_of r

abbrev pub pack_values : Result RunSize Refusal → List ℕ
pack_values (Ok size) = size.packets ∷ size.residues ∷ []
pack_values (Err r) = []

-- What a range holds after packing: a refusal writes nowhere.
abbrev pub if_packed : Result RunSize Refusal → List ℕ → List ℕ → List ℕ
if_packed (Ok size) new old = new
if_packed (Err r) new old = old

-- Packing appends one run at a place in a lent packet buffer; every other packet stays.
unfoldable pub packets_after : ℕ → List ℕ → List ℕ → ℕ → List ℕ
packets_after alphabet codes packets place =
    if_packed (pack_answer alphabet codes (length packets) place) (written_at place (run alphabet codes) packets) packets

-- ---- unpacking

-- The output has room for the residues.
abbrev pub residues_fit : List ℕ → ℕ → Bool
residues_fit packets room = leb (length (unpacked packets)) room

-- The rules of unpacking after its input's size, in the order in which they are asked; `room` is the output's length.
abbrev pub run_rules : ℕ → List ℕ → ℕ → List (Rule Refusal)
run_rules alphabet packets room =
    ask (is_alphabet alphabet) WrongKind ∷ ask (well_formed alphabet packets) BadRun ∷ ask (residues_fit packets room) NoRoom ∷ []

abbrev pub unpack_rules : ℕ → List ℕ → ℕ → List (Rule Refusal)
unpack_rules alphabet packets room = ask (packets_fit packets) TooLarge ∷ run_rules alphabet packets room

-- Unpacking returns the run's packets and L.
abbrev pub unpacked_size : List ℕ → RunSize
unpacked_size packets = record { packets = length packets; residues = length (unpacked packets) }

abbrev pub unpacked_by : List (Rule Refusal) → List ℕ → Result RunSize Refusal
unpacked_by rules packets = verdict Err (Ok (unpacked_size packets)) rules

unfoldable pub unpack_answer : ℕ → List ℕ → ℕ → Result RunSize Refusal
unpack_answer alphabet packets room = unpacked_by (unpack_rules alphabet packets room) packets

-- The answer number, 0 on success, and the values.
abbrev pub unpack_number : Result RunSize Refusal → ℕ
unpack_number (Ok size) = 0
unpack_number (Err r) = number_of r

abbrev pub unpack_values : Result RunSize Refusal → List ℕ
unpack_values (Ok size) = size.packets ∷ size.residues ∷ []
unpack_values (Err r) = []

-- What the output holds after unpacking: the residues first, and nothing else is written; a refusal writes nowhere.
abbrev pub if_unpacked : Result RunSize Refusal → List ℕ → List ℕ → List ℕ
if_unpacked (Ok size) codes out = written_at 0 codes out
if_unpacked (Err r) codes out = out

-- Unpacking writes the first L bytes of its output.
unfoldable pub codes_after : ℕ → List ℕ → List ℕ → List ℕ
codes_after alphabet packets out = if_unpacked (unpack_answer alphabet packets (length out)) (unpacked packets) out
