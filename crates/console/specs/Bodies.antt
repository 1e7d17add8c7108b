-- Lists of the console's packing calls over one buffer of bytes (document 01, "Packets").
-- Assumes nothing.
use Rattle.answers.specs.declared.Refusal.{Refusal}
use Rattle.runs.specs.declared.RunSize.{RunSize}
use Rattle.std.specs.Prelude.{List, ℕ, ◌+◌, Result}
use Rattle.runs.specs.Bodies.{Item, taken, after_each, packed_by}
use Rattle.byte_runs.specs.Bodies.{ByteBuffer}
use Rattle.console.specs.Calls.{console_pack, console_buffer}

-- A call: a sequence with its alphabet, and the length of the results range that is lent with it.
pub record ConsoleCall : Type 0 where
  pub item : Item
  pub room : ℕ

abbrev pub console_answer : ByteBuffer → ConsoleCall → Result RunSize Refusal
console_answer buffer call = console_pack call.item.alphabet call.item.codes buffer.bytes buffer.place call.room

-- The buffer after a call; the next place is the call's place plus the packets it returned, or the same place if it was refused.
abbrev pub after_console_call : ByteBuffer → ConsoleCall → ByteBuffer
after_console_call buffer call = record {
  bytes = console_buffer call.item.alphabet call.item.codes buffer.bytes buffer.place call.room;
  place = buffer.place + taken (console_answer buffer call);
}

abbrev pub after_console_calls : ByteBuffer → List ConsoleCall → ByteBuffer
after_console_calls = after_each after_console_call

-- The sequences that calls packed.
abbrev pub console_packed_of : ByteBuffer → List ConsoleCall → List Item
console_packed_of = packed_by (λ c. c.item) console_answer after_console_call
