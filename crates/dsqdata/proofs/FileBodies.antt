-- The body of a sequence file, in either byte order, and of one whose bytes are a header and the bytes of packets.
-- Assumes nothing.
use mathlib.Core.Path.{◌≡◌, sym, ap, ◌∙◌}
use mathlib.Core.Bool.{true}
use mathlib.Core.List.{List, ◌++◌}
use Prim.Native.Nat.{ℕ, ◌+◌, ◌*◌, ◌-◌, ◌/◌, ◌^◌, ◌≤◌, ◌<◌}
use native.Mathlib.Omega.{arith}
use native.Mathlib.Nat.{min-eq_left}
use lib.ListN.{length, take, drop, get_or, length-take, length-drop}
use lib.Seq.{slice, ext_get_or, get_or-drop, drop_at}
use Rattle.laws.specs.Digits.{all_below}
use Rattle.laws.proofs.Parts.{slice_part}
use Rattle.fields.specs.Number.{little, unsigned_at}
use Rattle.fields.proofs.Turned.{unsigned_same}
use Rattle.fields.specs.declared.Order.{Order}
use Rattle.packets.specs.Bytes.{packets_by, packets_of, bytes_of}
use Rattle.packets.specs.Reading.{run_length}
use Rattle.std.specs.Prelude.{Option}
use Rattle.packets.specs.Positions.{byte_of}
use Rattle.packets.proofs.Bytes.{length-packets, packets_at, packets_part, packets-bytes}
use Rattle.byte_runs.specs.Bytes.{run_in}
use Rattle.byte_runs.proofs.Answers.{read_fits}
use Rattle.dsqdata.specs.Header.{packets_in, packet_at, body_of}
use Rattle.dsqdata.proofs.Bodies.{body-length, body_at}

field_behind : (order : Order) (w h : ℕ) (s : List ℕ) (at : ℕ) → unsigned_at order w (drop h s) at ≡ unsigned_at order w s (at + h)
field_behind order w h s at =
    unsigned_same order w (drop h s) s at (at + h)
    (λ k l. get_or-drop h s (at + k) 0 ∙ ap (λ (n : ℕ). get_or s n 0) (let e : h + (at + k) ≡ at + h + k = omega arith in e))

byte_place : (k : ℕ) → 4 * k + 8 ≤ 18446744073709551615 → byte_of 8 k ≡ 4 * k + 8
byte_place k h = min-eq_left h

module _ (order : Order) where
  packet-is : (s : List ℕ) (k : ℕ) → byte_of 8 k ≡ 4 * k + 8 → packet_at order s k ≡ unsigned_at order 4 (drop 8 s) (4 * k)
  packet-is s k e = ap (unsigned_at order 4 s) e ∙ sym (field_behind order 4 8 s (4 * k))

  -- The body of a sequence file is the packets that its bytes behind the header stand for ..
  pub body-packets : (s : List ℕ) → length s ≤ 2147483647 → body_of order s ≡ packets_by order (drop 8 s)
  body-packets s h =
      let n : length (body_of order s) ≡ length (packets_by order (drop 8 s)) = body-length order s ∙ sym (length-packets order (drop 8 s) ∙ ap (λ (x : ℕ). x / 4) (length-drop 8 s)) in
      ext_get_or 0 (body_of order s) (packets_by order (drop 8 s)) n
      (λ k l.
      let p : k < packets_in s = omega (arith, body-length order s) in
      let g : k < length (drop 8 s) / 4 = omega (arith, length-drop 8 s) in
      body_at order s k p ∙ (packet-is s k (byte_place k (omega arith)) ∙ sym (packets_at order (drop 8 s) k g)))

  -- .. so a run is what the bytes of its packets stand for ..
  module _ (a : ℕ) (s : List ℕ) (from to start end : ℕ) (low : from < to) (high : to ≤ packets_in s) (fits : length s ≤ 2147483647)
      (begins : start ≡ byte_of 8 from) (ends : end ≡ byte_of 8 to) where
    run-packets : packets_by order (take (end - start) (drop start s)) ≡ slice from to (body_of order s)
    run-packets =
        let e : start ≡ 4 * from + 8 = begins ∙ byte_place from (omega arith) in
        let f : end ≡ 4 * to + 8 = ends ∙ byte_place to (omega arith) in
        ap (packets_by order) (slice_part start end s (omega arith) (omega arith))
        ∙ rw (e, f, body-packets s fits) (packets_part order 8 s from to (omega arith) (omega arith))

    pub run_found : (x : Option ℕ) → x ≡ run_in order a (take (end - start) (drop start s)) → x ≡ run_length a (slice from to (body_of order s))
    run_found x e =
        let n : length (take (end - start) (drop start s)) ≤ 2147483647 =
        omega (arith, length-take (end - start) (drop start s), length-drop start s) in
        e ∙ (read_fits order a (take (end - start) (drop start s)) n ∙ ap (run_length a) run-packets)

-- .. and a header of 8 bytes and the bytes of packets have these packets as their body: packing writes little-endian.
pub body_bytes : (header packets : List ℕ) → length header ≡ 8 → all_below (2 ^ 32) packets ≡ true → length (header ++ bytes_of packets) ≤ 2147483647
    → body_of little (header ++ bytes_of packets) ≡ packets
body_bytes header packets e b h =
    body-packets little (header ++ bytes_of packets) h ∙ (ap packets_of (drop_at header (bytes_of packets) 8 e) ∙ packets-bytes packets b)
