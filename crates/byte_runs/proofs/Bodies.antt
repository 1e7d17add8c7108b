-- What a list of `pack_bytes` calls leaves. Assumes nothing.
use mathlib.Core.Path.{◌≡◌, refl, ◌∙◌}
use mathlib.Core.List.{List, [], ◌++◌}
use Prim.Native.Nat.{ℕ, ◌+◌, ◌*◌, ◌/◌, ◌<◌}
use native.Mathlib.Nat.{add-zero}
use native.Mathlib.Omega.{arith}
use lib.ListN.{length, drop, length-append}
use Rattle.answers.specs.declared.Refusal.{Refusal}
use Rattle.packets.specs.Positions.{byte_of}
use Rattle.packets.specs.Packing.{run}
use Rattle.packets.specs.Bytes.{bytes_of}
use Rattle.packets.proofs.Bytes.{length-bytes, bytes-append, bytes-none}
use Rattle.runs.specs.Bodies.{Item, body}
use Rattle.std.specs.Prelude.{Ok, Err}
use Rattle.runs.specs.declared.RunSize.{RunSize}
use Rattle.runs.proofs.Bodies.{packed_means, written_behind, length-behind, calls_add}
use Rattle.byte_runs.specs.Bodies.{ByteBuffer, byte_call_answer, after_byte_call, after_byte_calls, bytes_packed_of, HoldsBytes}
use Rattle.byte_runs.proofs.Answers.{bytes_kept, bytes_written}

pub none_held : (first : List ℕ) → HoldsBytes first [] (record { bytes = first; place = 0 })
none_held first = record { within = omega arith; place_is = refl; bytes_are = rw bytes-none }

module _ (first : List ℕ) (short : length first < 18446744073709551616) where
  -- a call that packs puts its run's bytes at the place reached
  pub byte_call_packs : (ps : List ℕ) (b : ByteBuffer) (s : Item) (size : RunSize) → HoldsBytes first ps b → byte_call_answer b s ≡ Ok size
      → HoldsBytes first (ps ++ run s.alphabet s.codes) (after_byte_call b s)
  byte_call_packs ps b s size h e =
      let R = run s.alphabet s.codes in
      let m = packed_means s.alphabet s.codes (length b.bytes / 4) b.place size e in
      let lb = length-bytes ps in
      let lr = length-bytes R in
      let la = length-append ps R in
      let are : b.bytes ≡ bytes_of ps ++ drop (length (bytes_of ps)) first = rw lb h.bytes_are in
      let len = length-behind first (bytes_of ps) b.bytes are (omega (arith, h.within)) in
      let at : byte_of 0 b.place ≡ length (bytes_of ps) = omega (arith, h.place_is) in
      let end : 4 * length (ps ++ R) ≡ length (bytes_of ps) + length (bytes_of R) = omega arith in
      record {
        within = omega (arith, h.place_is);
        place_is = rw e (omega (arith, h.place_is));
        bytes_are =
            bytes_written s.alphabet s.codes b.bytes b.place size e
            ∙ rw (at, end, bytes-append) (written_behind first (bytes_of ps) (bytes_of R) b.bytes are);
      }

  byte_call_refuses : (ps : List ℕ) (b : ByteBuffer) (s : Item) (r : Refusal) → HoldsBytes first ps b → byte_call_answer b s ≡ Err r
      → HoldsBytes first ps (after_byte_call b s)
  byte_call_refuses ps b s r h e = record {
    within = h.within;
    place_is = rw (e, add-zero) h.place_is;
    bytes_are = bytes_kept s.alphabet s.codes b.bytes b.place r e ∙ h.bytes_are;
  }

  -- After any list of `pack_bytes` calls, refused ones included, from place 0 of any buffer of bytes, the bytes before the place reached are
  -- exactly those of the body of the sequences packed, in order, and all others are as at first.
  pub byte_calls_body : (ss : List Item) →
      let b : ByteBuffer = record { bytes = first; place = 0 } in
      HoldsBytes first (body (bytes_packed_of b ss)) (after_byte_calls b ss)
  byte_calls_body ss =
      calls_add (λ s. s) byte_call_answer after_byte_call (HoldsBytes first) byte_call_packs byte_call_refuses [] (record { bytes = first; place = 0 }) ss
      (none_held first)
