-- What the console's calls answer, and what every lent range holds after (document 01, "The two file families").
-- Assumes nothing.
use Rattle.volume.specs.declared.VolumeRecord.{VolumeRecord}
use Rattle.runs.specs.declared.RunSize.{RunSize}
use Rattle.std.specs.Prelude.{List, [], ◌∷◌, ◌++◌, ℕ, ◌/◌, length, Err, Ok, Result}
use Rattle.laws.specs.Rules.{Rule, ask, verdict}
use Rattle.laws.specs.Writing.{written_at}
use Rattle.answers.specs.declared.Refusal.{Refusal}
use Rattle.answers.specs.declared.Refusal.TheVariants.{NoRoom}
use Rattle.packets.specs.Positions.{byte_of}
use Rattle.packets.specs.Packing.{run}
use Rattle.packets.specs.Runs.{unpacked}
use Rattle.packets.specs.Bytes.{packets_of, bytes_of}
use Rattle.runs.specs.Answers.{packed_size, pack_rules, pack_values, if_packed, unpacked_by, unpack_values, if_unpacked}
use Rattle.byte_runs.specs.Bytes.{unpack_bytes_rules}
use Rattle.volume.specs.Volume.{volume_rules, volume_record, volume_values}
use Rattle.console.specs.Results.{room_for, results_put}

-- A results range that is too short for so many values is 13, last.
abbrev pub results_rule : ℕ → ℕ → List (Rule Refusal)
results_rule values bytes = ask (room_for values bytes) NoRoom ∷ []

-- ---- packing: `buffer` is the buffer's bytes, `room` the length of the results range

abbrev pub console_pack_rules : ℕ → List ℕ → List ℕ → ℕ → ℕ → List (Rule Refusal)
console_pack_rules alphabet codes buffer place room = pack_rules alphabet codes (length buffer / 4) place ++ results_rule 2 room

unfoldable pub console_pack : ℕ → List ℕ → List ℕ → ℕ → ℕ → Result RunSize Refusal
console_pack alphabet codes buffer place room =
    verdict Err (Ok (packed_size alphabet codes)) (console_pack_rules alphabet codes buffer place room)

-- The buffer after the call: the run's bytes at its place; every other byte stays.
unfoldable pub console_buffer : ℕ → List ℕ → List ℕ → ℕ → ℕ → List ℕ
console_buffer alphabet codes buffer place room =
    if_packed (console_pack alphabet codes buffer place room) (written_at (byte_of 0 place) (bytes_of (run alphabet codes)) buffer) buffer

-- The results after the call: the values; on a refusal, which has none, the range as it was.
abbrev pub pack_results : Result RunSize Refusal → List ℕ → List ℕ
pack_results answer results = results_put (pack_values answer) results

-- ---- unpacking

abbrev pub console_unpack_rules : ℕ → List ℕ → ℕ → ℕ → List (Rule Refusal)
console_unpack_rules alphabet bytes out room = unpack_bytes_rules alphabet bytes out ++ results_rule 2 room

unfoldable pub console_unpack : ℕ → List ℕ → ℕ → ℕ → Result RunSize Refusal
console_unpack alphabet bytes out room = unpacked_by (console_unpack_rules alphabet bytes out room) (packets_of bytes)

-- The output after the call.
unfoldable pub console_codes : ℕ → List ℕ → List ℕ → ℕ → List ℕ
console_codes alphabet bytes out room = if_unpacked (console_unpack alphabet bytes (length out) room) (unpacked (packets_of bytes)) out

abbrev pub unpack_results : Result RunSize Refusal → List ℕ → List ℕ
unpack_results answer results = results_put (unpack_values answer) results

-- ---- the volume check

abbrev pub console_volume_rules : List ℕ → List ℕ → List ℕ → ℕ → List (Rule Refusal)
console_volume_rules index sequence header room = volume_rules index sequence header ++ results_rule 8 room

unfoldable pub console_volume : List ℕ → List ℕ → List ℕ → ℕ → Result VolumeRecord Refusal
console_volume index sequence header room = verdict Err (Ok (volume_record index)) (console_volume_rules index sequence header room)

abbrev pub volume_results : Result VolumeRecord Refusal → List ℕ → List ℕ
volume_results answer results = results_put (volume_values answer) results
