-- What a list of the console's packing calls leaves: a call that packs does what `pack_bytes` does, and a refused one changes nothing.
-- Assumes nothing.
use Rattle.std.specs.Prelude.{Err, Ok}
use mathlib.Core.Path.{◌≡◌, sym, ◌∙◌}
use mathlib.Core.List.{List, [], ◌++◌}
use Prim.Native.Nat.{ℕ, ◌<◌}
use native.Mathlib.Nat.{add-zero}
use lib.ListN.{length}
use Rattle.answers.specs.declared.Refusal.{Refusal}
use Rattle.packets.specs.Packing.{run}
use Rattle.runs.specs.Bodies.{body}
use Rattle.runs.specs.declared.RunSize.{RunSize}
use Rattle.runs.proofs.Bodies.{calls_add}
use Rattle.byte_runs.specs.Bodies.{ByteBuffer, HoldsBytes}
use Rattle.byte_runs.proofs.Bodies.{byte_call_packs, none_held}
use Rattle.console.specs.Bodies.{ConsoleCall, console_answer, after_console_call, after_console_calls, console_packed_of}
use Rattle.console.proofs.Calls.{pack_room, packed_room, buffer_room, buffer_kept}

module _ (first : List ℕ) (short : length first < 18446744073709551616) where
  call_packs : (ps : List ℕ) (b : ByteBuffer) (c : ConsoleCall) (s : RunSize) → HoldsBytes first ps b → console_answer b c ≡ Ok s
      → HoldsBytes first (ps ++ run c.item.alphabet c.item.codes) (after_console_call b c)
  call_packs ps b c s h e =
      let a = c.item.alphabet in
      let cs = c.item.codes in
      let room = packed_room a cs b.bytes b.place c.room s e in
      let same = pack_room a cs b.bytes b.place c.room room in
      rw (buffer_room a cs b.bytes b.place c.room room, same) (byte_call_packs first short ps b c.item s h (sym same ∙ e))

  call_refuses : (ps : List ℕ) (b : ByteBuffer) (c : ConsoleCall) (r : Refusal) → HoldsBytes first ps b → console_answer b c ≡ Err r
      → HoldsBytes first ps (after_console_call b c)
  call_refuses ps b c r h e = rw (buffer_kept c.item.alphabet c.item.codes b.bytes b.place c.room r e, e, add-zero) h

  -- After any list of the console's packing calls, refused ones included, from place 0 of any buffer of bytes, the bytes before the place
  -- reached are exactly those of the body of the sequences packed, in order, and all others are as at first.
  pub console_calls_body : (cs : List ConsoleCall) →
      let b : ByteBuffer = record { bytes = first; place = 0 } in
      HoldsBytes first (body (console_packed_of b cs)) (after_console_calls b cs)
  console_calls_body cs =
      calls_add (λ c. c.item) console_answer after_console_call (HoldsBytes first) call_packs call_refuses [] (record { bytes = first; place = 0 }) cs
      (none_held first)
