-- Packing into and unpacking from packets that are little-endian bytes (document 01, "The two file families").
-- Assumes nothing.
use Rattle.std.specs.Prelude.{Bool, cond, Option, None, Result, List, ◌∷◌, ℕ, ◌/◌, ◌%◌, eqb, length}
use Rattle.laws.specs.Rules.{Rule, ask}
use Rattle.laws.specs.Writing.{written_at}
use Rattle.answers.specs.Limits.{bytes_fit}
use Rattle.answers.specs.declared.Refusal.{Refusal}
use Rattle.answers.specs.declared.Refusal.TheVariants.{TooLarge, TooShort}
use Rattle.fields.specs.declared.Order.{Order}
use Rattle.packets.specs.Positions.{byte_of}
use Rattle.packets.specs.Packing.{run}
use Rattle.packets.specs.Runs.{unpacked}
use Rattle.packets.specs.Reading.{run_length}
use Rattle.packets.specs.Bytes.{packets_by, packets_of, bytes_of}
use Rattle.runs.specs.Answers.{pack_answer, if_packed, run_rules, unpacked_by, if_unpacked}
use Rattle.runs.specs.declared.RunSize.{RunSize}

-- Packing into bytes answers as packing into the packets that they stand for: bytes past the last whole packet are unused.
abbrev pub pack_bytes_answer : ℕ → List ℕ → List ℕ → ℕ → Result RunSize Refusal
pack_bytes_answer alphabet codes bytes place = pack_answer alphabet codes (length bytes / 4) place

-- The bytes after packing: those of the run at its place; every other byte stays.
unfoldable pub bytes_after : ℕ → List ℕ → List ℕ → ℕ → List ℕ
bytes_after alphabet codes bytes place =
    if_packed (pack_bytes_answer alphabet codes bytes place) (written_at (byte_of 0 place) (bytes_of (run alphabet codes)) bytes) bytes

-- What reading bytes as a run finds, in a byte order. Bytes past the last whole packet are unused, and more bytes than a call takes are no run.
unfoldable pub run_in : Order → ℕ → List ℕ → Option ℕ
run_in order alphabet bytes = cond (bytes_fit bytes) (run_length alphabet (packets_by order bytes)) None

-- The bytes are whole packets.
abbrev pub whole_packets : List ℕ → Bool
whole_packets bytes = eqb (length bytes % 4) 0

-- The rules of unpacking bytes, in the order in which they are asked: an input that is not a multiple of 4 is refused right after its size.
abbrev pub unpack_bytes_rules : ℕ → List ℕ → ℕ → List (Rule Refusal)
unpack_bytes_rules alphabet bytes room = ask (bytes_fit bytes) TooLarge ∷ ask (whole_packets bytes) TooShort ∷ run_rules alphabet (packets_of bytes) room

unfoldable pub unpack_bytes_answer : ℕ → List ℕ → ℕ → Result RunSize Refusal
unpack_bytes_answer alphabet bytes room = unpacked_by (unpack_bytes_rules alphabet bytes room) (packets_of bytes)

-- The output after unpacking bytes.
unfoldable pub codes_after_bytes : ℕ → List ℕ → List ℕ → List ℕ
codes_after_bytes alphabet bytes out = if_unpacked (unpack_bytes_answer alphabet bytes (length out)) (unpacked (packets_of bytes)) out
