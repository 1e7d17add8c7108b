-- Demand 3: a packed body reads one way only. Every statement is over definitions that the contracts of the calls cite; the proofs are laws
-- of the crates below. Assumes nothing.
use mathlib.Core.Path.{◌≡◌}
use mathlib.Core.List.{List}
use Prim.Native.Nat.{ℕ, ◌<◌}
use lib.IntN.{ℤ}
use lib.ListN.{length}
use Rattle.fields.specs.declared.Order.{Order}
use Rattle.packets.specs.Ends.{Makes}
use Rattle.packets.proofs.Ends.{ends_unique}
use Rattle.runs.specs.Bodies.{Item, body, sequences_of, AllValid, AllValidIn, run_ends, Begins, Buffer, after_calls, packed_of, Holds}
use Rattle.runs.proofs.Bodies.{body_prefix, body_injective, calls_body}
use Rattle.runs.proofs.Making.{body_made}
use Rattle.byte_runs.specs.Bodies.{ByteBuffer, after_byte_calls, bytes_packed_of, HoldsBytes}
use Rattle.byte_runs.proofs.Bodies.{byte_calls_body}
use Rattle.dsqdata.specs.Header.{set_order, alphabet_of, body_of}
use Rattle.dsqdata.specs.Ends.{packet_ends}
use Rattle.dsqdata.specs.Check.{set_check, set_number}
use Rattle.dsqdata.specs.Rules.{OtherRules}
use Rattle.dsqdata.proofs.Demand as Set
use Rattle.console.specs.Bodies.{ConsoleCall, after_console_calls, console_packed_of}
use Rattle.console.proofs.Bodies.{console_calls_body}

-- (a) If the body of a first list of sequences is a beginning of the body of a second, the first list is a beginning of the second, residue
-- for residue. Each sequence is packed in its own alphabet, in which its codes are valid.
pub body-begins : (first second : List Item) → AllValid first → AllValid second → Begins (body first) (body second)
    → Begins (sequences_of first) (sequences_of second)
body-begins = body_prefix

-- Equal bodies mean equal lists.
pub body-equal : (first second : List Item) → AllValid first → AllValid second → body first ≡ body second → sequences_of first ≡ sequences_of second
body-equal = body_injective

-- (b) After any list of packing calls, refused ones included, from place 0 of any packet buffer, the packets before the place reached are exactly
-- the body of the sequences packed, in order, and all others are as at first.
pub calls_leave_body : (packets : List ℕ) (calls : List Item) →
    let first : Buffer = record { packets = packets; place = 0 } in
    Holds packets (body (packed_of first calls)) (after_calls first calls)
calls_leave_body = calls_body

-- The same over `pack_bytes`, on a buffer of bytes, whose length a 64-bit machine can count.
pub byte_calls_leave_body : (bytes : List ℕ) (calls : List Item) → length bytes < 18446744073709551616 →
    let first : ByteBuffer = record { bytes = bytes; place = 0 } in
    HoldsBytes bytes (body (bytes_packed_of first calls)) (after_byte_calls first calls)
byte_calls_leave_body bytes calls short = byte_calls_body bytes short calls

-- The same over the console's calls, on a buffer of bytes, whose length a 64-bit machine can count.
pub console_calls_leave_body : (bytes : List ℕ) (calls : List ConsoleCall) → length bytes < 18446744073709551616 →
    let first : ByteBuffer = record { bytes = bytes; place = 0 } in
    HoldsBytes bytes (body (console_packed_of first calls)) (after_console_calls first calls)
console_calls_leave_body bytes calls short = console_calls_body bytes short calls

-- (c) For every body and alphabet at most one list of ends makes it well formed; ends are signed, as an index has them.
pub one-list_of_ends : (alphabet : ℕ) (packets : List ℕ) (ends others : List ℤ) → Makes alphabet packets ends → Makes alphabet packets others → ends ≡ others
one-list_of_ends = ends_unique

-- The body of any list of valid sequences of one alphabet has exactly one: the ends of its runs.
pub body_has_ends : (alphabet : ℕ) (sequences : List Item) → AllValidIn alphabet sequences
    → Makes alphabet (body sequences) (run_ends sequences)
    × ((others : List ℤ) → Makes alphabet (body sequences) others → others ≡ run_ends sequences)
body_has_ends alphabet sequences v =
    let made = body_made alphabet sequences v in
    (made, λ others m. ends_unique alphabet (body sequences) others (run_ends sequences) m made)

-- (d) A set passes exactly when its packet ends are such a list for its body and alphabet and it breaks no other rule. Its body is its packets,
-- its ends and its alphabet are numbers, all in the byte order of the set, whichever that is.
pub set-passes_only : (index metadata sequence : List ℕ) →
    let order = set_order index in
    set_number (set_check index metadata sequence) ≡ 0
    → Makes (alphabet_of order index) (body_of order sequence) (packet_ends order index) × OtherRules order index metadata sequence
set-passes_only = Set.passes_makes

pub set-passes : (index metadata sequence : List ℕ) (order : Order) → Makes (alphabet_of order index) (body_of order sequence) (packet_ends order index)
    → OtherRules order index metadata sequence → set_number (set_check index metadata sequence) ≡ 0
set-passes = Set.makes_passes

-- (e) So an old index passes over a new body only if every run ends where it did: its packet ends are the one list that makes the new body well
-- formed in its alphabet, and those of every index that passes over that body, whatever its alphabet and its byte order.
pub old_index_ends : (old metadata sequence : List ℕ) → set_number (set_check old metadata sequence) ≡ 0
    → (ends : List ℤ) → Makes (alphabet_of (set_order old) old) (body_of (set_order old) sequence) ends → packet_ends (set_order old) old ≡ ends
old_index_ends = Set.passes-ends

pub old_and_new_index : (old metadata sequence new metadata' sequence' : List ℕ) → set_number (set_check old metadata sequence) ≡ 0
    → set_number (set_check new metadata' sequence') ≡ 0 → body_of (set_order old) sequence ≡ body_of (set_order new) sequence'
    → packet_ends (set_order old) old ≡ packet_ends (set_order new) new
old_and_new_index = Set.old_index
