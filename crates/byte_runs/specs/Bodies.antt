-- Lists of `pack_bytes` calls over one buffer of bytes (document 01, "Packets").
-- Assumes nothing.
use Rattle.std.specs.Prelude.{◌≡◌, Result, List, ◌++◌, ℕ, ◌+◌, ◌*◌, ◌≤◌, length, drop}
use Rattle.packets.specs.Bytes.{bytes_of}
use Rattle.runs.specs.Bodies.{Item, taken, after_each, packed_by}
use Rattle.answers.specs.declared.Refusal.{Refusal}
use Rattle.runs.specs.declared.RunSize.{RunSize}
use Rattle.byte_runs.specs.Bytes.{pack_bytes_answer, bytes_after}

-- A buffer of bytes and the place of the next call, counted in packets.
pub record ByteBuffer : Type 0 where
  pub bytes : List ℕ
  pub place : ℕ

abbrev pub byte_call_answer : ByteBuffer → Item → Result RunSize Refusal
byte_call_answer buffer s = pack_bytes_answer s.alphabet s.codes buffer.bytes buffer.place

-- The buffer after a call; the next place is the call's place plus the packets it returned, or the same place if it was refused.
abbrev pub after_byte_call : ByteBuffer → Item → ByteBuffer
after_byte_call buffer s = record {
  bytes = bytes_after s.alphabet s.codes buffer.bytes buffer.place;
  place = buffer.place + taken (byte_call_answer buffer s);
}

abbrev pub after_byte_calls : ByteBuffer → List Item → ByteBuffer
after_byte_calls = after_each after_byte_call

-- The sequences that calls packed.
abbrev pub bytes_packed_of : ByteBuffer → List Item → List Item
bytes_packed_of = packed_by (λ s. s) byte_call_answer after_byte_call

-- A buffer that was `bytes` at first: its bytes before the place are those of the packets `body`, and all others are as at first.
pub record HoldsBytes (bytes body : List ℕ) (buffer : ByteBuffer) : Type 0 where
  pub within : 4 * length body ≤ length bytes
  pub place_is : buffer.place ≡ length body
  pub bytes_are : buffer.bytes ≡ bytes_of body ++ drop (4 * length body) bytes
