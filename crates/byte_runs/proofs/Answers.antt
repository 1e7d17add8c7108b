-- The answers of packing into and unpacking from bytes, refusal by refusal. Assumes nothing.
use mathlib.Core.Path.{◌≡◌}
use mathlib.Core.List.{List}
use Prim.Native.Nat.{ℕ, ◌%◌, ◌≤◌, ◌<◌}
use lib.ListN.{length}
use borrow.Author.Tests.{le-leb, lt-leb, leb-true, eq-eqb, ne_eqb, eqb-true}
use Rattle.laws.specs.Writing.{written_at}
use Rattle.answers.specs.declared.Refusal.{Refusal}
use Rattle.answers.specs.declared.Refusal.TheVariants.{TooLarge, TooShort}
use Rattle.fields.specs.declared.Order.{Order}
use Rattle.packets.specs.Positions.{byte_of}
use Rattle.packets.specs.Packing.{run}
use Rattle.packets.specs.Runs.{unpacked}
use Rattle.packets.specs.Reading.{run_length}
use Rattle.std.specs.Prelude.{None, Ok, Err}
use Rattle.packets.specs.Bytes.{packets_by, packets_of, bytes_of}
use Rattle.runs.specs.declared.RunSize.{RunSize}
use Rattle.runs.specs.Answers.{unpacked_size}
use Rattle.runs.proofs.Answers.{MayUnpack, RunAnswer, may_unpack, answer_holds}
use Rattle.byte_runs.specs.Bytes.{pack_bytes_answer, bytes_after, run_in, unpack_bytes_rules, unpack_bytes_answer, codes_after_bytes}

-- ---- packing: what the bytes are after

module _ (a : ℕ) (codes bytes : List ℕ) (place : ℕ) where
  pub bytes_kept : (r : Refusal) → pack_bytes_answer a codes bytes place ≡ Err r → bytes_after a codes bytes place ≡ bytes
  unfolding bytes_after
  bytes_kept r e = rw e

  pub bytes_written : (size : RunSize) → pack_bytes_answer a codes bytes place ≡ Ok size
      → bytes_after a codes bytes place ≡ written_at (byte_of 0 place) (bytes_of (run a codes)) bytes
  unfolding bytes_after
  bytes_written size e = rw e

-- ---- unpacking

-- what reading bytes finds is what reading their packets finds
pub read_fits : (order : Order) (a : ℕ) (bytes : List ℕ) → length bytes ≤ 2147483647 → run_in order a bytes ≡ run_length a (packets_by order bytes)
unfolding run_in
read_fits order a bytes h = rw (le-leb (length bytes) 2147483647 h)

pub read-large : (order : Order) (a : ℕ) (bytes : List ℕ) → 2147483647 < length bytes → None ≡ run_in order a bytes
unfolding run_in
read-large order a bytes h = rw (lt-leb (length bytes) 2147483647 h)

module _ (a : ℕ) (bytes : List ℕ) (room : ℕ) where
  pub unpack_bytes_large : 2147483647 < length bytes → unpack_bytes_answer a bytes room ≡ Err TooLarge
  unfolding unpack_bytes_answer
  unpack_bytes_large h = rw (lt-leb (length bytes) 2147483647 h)

  pub unpack_bytes_short : length bytes ≤ 2147483647 → (length bytes % 4 ≡ 0 → ⊥) → unpack_bytes_answer a bytes room ≡ Err TooShort
  unfolding unpack_bytes_answer
  unpack_bytes_short h n = rw (le-leb (length bytes) 2147483647 h, ne_eqb (length bytes % 4) 0 n)

  pub unpack_bytes_as : length bytes ≤ 2147483647 → length bytes % 4 ≡ 0 → unpack_bytes_answer a bytes room ≡ RunAnswer a (packets_of bytes) room
  unfolding unpack_bytes_answer
  unpack_bytes_as h n = rw (le-leb (length bytes) 2147483647 h, eq-eqb (length bytes % 4) 0 n)

  pub unpacked-bytes_may : (size : RunSize) → unpack_bytes_answer a bytes room ≡ Ok size
      → (length bytes ≤ 2147483647) × (length bytes % 4 ≡ 0) × MayUnpack a (packets_of bytes) room
  unfolding unpack_bytes_answer
  unpacked-bytes_may size e =
      let h = answer_holds (unpacked_size (packets_of bytes)) size (unpack_bytes_rules a bytes room) e in
      (leb-true (length bytes) 2147483647 h.0, eqb-true (length bytes % 4) 0 h.1.0, may_unpack a (packets_of bytes) room h.1.1)

-- what the output holds after
module _ (a : ℕ) (bytes out : List ℕ) where
  pub codes-bytes_kept : (r : Refusal) → unpack_bytes_answer a bytes (length out) ≡ Err r → codes_after_bytes a bytes out ≡ out
  unfolding codes_after_bytes
  codes-bytes_kept r e = rw e

  pub codes-bytes_written : (size : RunSize) → unpack_bytes_answer a bytes (length out) ≡ Ok size
      → codes_after_bytes a bytes out ≡ written_at 0 (unpacked (packets_of bytes)) out
  unfolding codes_after_bytes
  codes-bytes_written size e = rw e
