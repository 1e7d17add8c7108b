-- What demand 2 says of packing and unpacking, over what the calls answer and leave. The statements are the same for every pair of calls: `pack` and
-- `unpack` over packets, `pack_bytes` and `unpack_bytes` over little-endian bytes, and the console's. Assumes nothing.
use Rattle.std.specs.Prelude.{◌≡◌, List, [], ◌∷◌, ℕ, ◌*◌, length, take, drop}
use Rattle.laws.specs.Writing.{written_at}
use Rattle.packets.specs.Positions.{byte_of}
use Rattle.packets.specs.Packing.{run}
use Rattle.packets.specs.Runs.{unpacked}
use Rattle.packets.specs.Bytes.{packets_of}
use Rattle.runs.specs.Answers.{pack_answer, pack_number, pack_values, packets_after, unpack_answer, unpack_number, unpack_values, codes_after}
use Rattle.byte_runs.specs.Bytes.{pack_bytes_answer, bytes_after, unpack_bytes_answer, codes_after_bytes}
use Rattle.console.specs.Results.{result_bytes}
use Rattle.console.specs.Calls.{console_pack, console_buffer, pack_results, console_unpack, console_codes, unpack_results}

-- ---- the calls

-- A packing call in one alphabet, by the codes, the buffer and the place.
pub record PackCall : Type 0 where
  pub alphabet : ℕ
  -- the length of so many packets in the buffer, and where the packet at a place begins
  pub length_of : ℕ → ℕ
  pub start_of : ℕ → ℕ
  -- the answer number, what is returned beside it, and the buffer after
  pub number : List ℕ → List ℕ → ℕ → ℕ
  pub returned : List ℕ → List ℕ → ℕ → List ℕ
  pub buffer_after : List ℕ → List ℕ → ℕ → List ℕ
  -- values as the call returns them
  pub as_returned : List ℕ → List ℕ

abbrev pub pack_call : ℕ → PackCall
pack_call alphabet = record {
  alphabet = alphabet;
  length_of = λ packets. packets;
  start_of = λ place. place;
  number = λ codes buffer place. pack_number (pack_answer alphabet codes (length buffer) place);
  returned = λ codes buffer place. pack_values (pack_answer alphabet codes (length buffer) place);
  buffer_after = λ codes buffer place. packets_after alphabet codes buffer place;
  as_returned = λ values. values;
}

abbrev pub pack_bytes_call : ℕ → PackCall
pack_bytes_call alphabet = record {
  alphabet = alphabet;
  length_of = λ packets. 4 * packets;
  start_of = λ place. byte_of 0 place;
  number = λ codes buffer place. pack_number (pack_bytes_answer alphabet codes buffer place);
  returned = λ codes buffer place. pack_values (pack_bytes_answer alphabet codes buffer place);
  buffer_after = λ codes buffer place. bytes_after alphabet codes buffer place;
  as_returned = λ values. values;
}

-- The console's returns its values in the results range lent, as eight-byte little-endian numbers at its start.
abbrev pub gull_pack_call : ℕ → List ℕ → PackCall
gull_pack_call alphabet results = record {
  alphabet = alphabet;
  length_of = λ packets. 4 * packets;
  start_of = λ place. byte_of 0 place;
  number = λ codes buffer place. pack_number (console_pack alphabet codes buffer place (length results));
  returned = λ codes buffer place. pack_results (console_pack alphabet codes buffer place (length results)) results;
  buffer_after = λ codes buffer place. console_buffer alphabet codes buffer place (length results);
  as_returned = λ values. written_at 0 (result_bytes values) results;
}

-- An unpacking call in one alphabet, by the range that is unpacked and the output.
pub record UnpackCall : Type 0 where
  -- the packets that a range stands for
  pub packets_in : List ℕ → List ℕ
  -- the answer number, what is returned beside it, and the output after
  pub number : List ℕ → List ℕ → ℕ
  pub returned : List ℕ → List ℕ → List ℕ
  pub output_after : List ℕ → List ℕ → List ℕ
  -- values as the call returns them
  pub as_returned : List ℕ → List ℕ

abbrev pub unpack_call : ℕ → UnpackCall
unpack_call alphabet = record {
  packets_in = λ packets. packets;
  number = λ packets out. unpack_number (unpack_answer alphabet packets (length out));
  returned = λ packets out. unpack_values (unpack_answer alphabet packets (length out));
  output_after = λ packets out. codes_after alphabet packets out;
  as_returned = λ values. values;
}

abbrev pub unpack_bytes_call : ℕ → UnpackCall
unpack_bytes_call alphabet = record {
  packets_in = λ bytes. packets_of bytes;
  number = λ bytes out. unpack_number (unpack_bytes_answer alphabet bytes (length out));
  returned = λ bytes out. unpack_values (unpack_bytes_answer alphabet bytes (length out));
  output_after = λ bytes out. codes_after_bytes alphabet bytes out;
  as_returned = λ values. values;
}

abbrev pub gull_unpack_call : ℕ → List ℕ → UnpackCall
gull_unpack_call alphabet results = record {
  packets_in = λ bytes. packets_of bytes;
  number = λ bytes out. unpack_number (console_unpack alphabet bytes (length out) (length results));
  returned = λ bytes out. unpack_results (console_unpack alphabet bytes (length out) (length results)) results;
  output_after = λ bytes out. console_codes alphabet bytes out (length results);
  as_returned = λ values. written_at 0 (result_bytes values) results;
}

-- ---- a call that succeeds

-- Packing answers 0, returns so many packets and L, and the buffer then has `written` from the place on and is otherwise as it was.
pub record PacksAs (call : PackCall) (codes buffer : List ℕ) (place packets : ℕ) (written : List ℕ) : Type 0 where
  pub succeeds : call.number codes buffer place ≡ 0
  pub returns : call.returned codes buffer place ≡ call.as_returned (packets ∷ length codes ∷ [])
  pub leaves : call.buffer_after codes buffer place ≡ written_at (call.start_of place) written buffer

-- Unpacking a range answers 0, returns so many packets and L, and the output then begins with `codes` and is otherwise as it was.
pub record UnpacksAs (call : UnpackCall) (range out : List ℕ) (packets : ℕ) (codes : List ℕ) : Type 0 where
  pub succeeds : call.number range out ≡ 0
  pub returns : call.returned range out ≡ call.as_returned (packets ∷ length codes ∷ [])
  pub leaves : call.output_after range out ≡ written_at 0 codes out

-- ---- round trips

-- The part of the buffer in which a packing call leaves the run.
abbrev pub range_packed : PackCall → List ℕ → List ℕ → ℕ → List ℕ
range_packed call codes buffer place =
    take (call.length_of (length (run call.alphabet codes))) (drop (call.start_of place) (call.buffer_after codes buffer place))

-- The part of the output in which an unpacking call leaves the residues.
abbrev pub codes_unpacked : UnpackCall → List ℕ → List ℕ → List ℕ
codes_unpacked call range out = take (length (unpacked (call.packets_in range))) (call.output_after range out)

-- Codes packed, and unpacked from where they were packed: the codes come back.
pub record PacksAndUnpacks (pack : PackCall) (unpack : UnpackCall) (codes buffer : List ℕ) (place : ℕ) (out : List ℕ) : Type 0 where
  pub packs : PacksAs pack codes buffer place (length (run pack.alphabet codes)) (range_packed pack codes buffer place)
  pub unpacks : UnpacksAs unpack (range_packed pack codes buffer place) out (length (run pack.alphabet codes)) codes

-- A range unpacked, and its residues packed: the range comes back, element for element.
pub record UnpacksAndPacks (unpack : UnpackCall) (pack : PackCall) (range out buffer : List ℕ) (place : ℕ) : Type 0 where
  pub unpacks : UnpacksAs unpack range out (length (unpack.packets_in range)) (unpacked (unpack.packets_in range))
  pub packs : PacksAs pack (codes_unpacked unpack range out) buffer place (length (unpack.packets_in range)) range

-- A range unpacked, its residues packed, and these unpacked again: the second output begins with the residues of the first.
pub record UnpacksAgain (unpack : UnpackCall) (pack : PackCall) (again : UnpackCall) (range out buffer : List ℕ) (place : ℕ) (second : List ℕ) : Type 0 where
  pub unpacks : UnpacksAs unpack range out (length (unpack.packets_in range)) (unpacked (unpack.packets_in range))
  pub comes_back : PacksAndUnpacks pack again (codes_unpacked unpack range out) buffer place second
