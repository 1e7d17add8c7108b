-- The console's answers, by the room of the results range. Assumes nothing.
use Rattle.std.specs.Prelude.{Err, Ok, Result}
use mathlib.Core.Path.{◌≡◌, sym, ◌∙◌}
use mathlib.Core.Bool.{true, false}
use mathlib.Core.List.{List, [], ◌∷◌}
use Prim.Native.Nat.{ℕ, ◌/◌}
use lib.ListN.{length}
use Rattle.laws.proofs.Rules.{not-refused, hold-second, last-holds, last-broken, last_unasked}
use Rattle.answers.specs.declared.Refusal.{Refusal}
use Rattle.answers.specs.declared.Refusal.TheVariants.{NoRoom}
use Rattle.packets.specs.Bytes.{packets_of}
use Rattle.answers.specs.Numbers.{number_of}
use Rattle.answers.proofs.Checks.{err-not_ok, err_cause}
use Rattle.runs.specs.declared.RunSize.{RunSize}
use Rattle.runs.specs.Answers.{packed_size, unpacked_size, pack_rules, pack_answer, pack_number, unpack_number}
use Rattle.byte_runs.specs.Bytes.{pack_bytes_answer, bytes_after, unpack_bytes_rules, unpack_bytes_answer, codes_after_bytes}
use Rattle.console.specs.Results.{room_for, results_put}
use Rattle.console.specs.Calls.{results_rule, console_pack_rules, console_pack, console_buffer, pack_results, console_unpack, console_codes, unpack_results}
use Rattle.console.proofs.Values.{put_nothing}

module _ (alphabet : ℕ) (codes buffer : List ℕ) (place room : ℕ) where
  -- with room the console answers as packing into bytes does
  pub pack_room : room_for 2 room ≡ true → console_pack alphabet codes buffer place room ≡ pack_bytes_answer alphabet codes buffer place
  unfolding console_pack pack_answer
  pack_room h =
      last-holds Err (Ok (packed_size alphabet codes)) (pack_rules alphabet codes (length buffer / 4) place)
      (room_for 2 room) NoRoom h

  -- a refusal of packing comes first
  pub pack_refused : (r : Refusal) → pack_bytes_answer alphabet codes buffer place ≡ Err r → console_pack alphabet codes buffer place room ≡ Err r
  unfolding console_pack pack_answer
  pack_refused r e =
      last_unasked Err (Ok (packed_size alphabet codes)) (pack_rules alphabet codes (length buffer / 4) place)
      (room_for 2 room) NoRoom
      r (err_cause r) (λ h. err-not_ok r _ (sym h)) e

  -- without room what would be packed is 13
  pub pack_short : room_for 2 room ≡ false → (s : RunSize) → pack_bytes_answer alphabet codes buffer place ≡ Ok s
      → console_pack alphabet codes buffer place room ≡ Err NoRoom
  unfolding console_pack pack_answer
  pack_short h s e =
      last-broken Err (Ok (packed_size alphabet codes)) (pack_rules alphabet codes (length buffer / 4) place)
      (room_for 2 room) NoRoom
      (Ok s) (λ r. err-not_ok r s) h e

  -- what is packed had room for the results
  pub packed_room : (s : RunSize) → console_pack alphabet codes buffer place room ≡ Ok s → room_for 2 room ≡ true
  unfolding console_pack
  packed_room s e =
      let rules = console_pack_rules alphabet codes buffer place room in
      let all = not-refused Err (Ok (packed_size alphabet codes)) (Ok s) rules (λ r. err-not_ok r s) e in
      (hold-second (pack_rules alphabet codes (length buffer / 4) place) (results_rule 2 room) all).0

  -- the buffer after: with room as packing into bytes leaves it, and as it was on a refusal
  pub buffer_room : room_for 2 room ≡ true → console_buffer alphabet codes buffer place room ≡ bytes_after alphabet codes buffer place
  unfolding console_buffer bytes_after
  buffer_room h = rw (pack_room h)

  pub buffer_kept : (r : Refusal) → console_pack alphabet codes buffer place room ≡ Err r → console_buffer alphabet codes buffer place room ≡ buffer
  unfolding console_buffer
  buffer_kept r e = rw e

module _ (alphabet : ℕ) (bytes : List ℕ) (out room : ℕ) where
  pub unpack_room : room_for 2 room ≡ true → console_unpack alphabet bytes out room ≡ unpack_bytes_answer alphabet bytes out
  unfolding console_unpack unpack_bytes_answer
  unpack_room h =
      last-holds Err (Ok (unpacked_size (packets_of bytes))) (unpack_bytes_rules alphabet bytes out)
      (room_for 2 room) NoRoom h

  pub unpack_refused : (r : Refusal) → unpack_bytes_answer alphabet bytes out ≡ Err r → console_unpack alphabet bytes out room ≡ Err r
  unfolding console_unpack unpack_bytes_answer
  unpack_refused r e =
      last_unasked Err (Ok (unpacked_size (packets_of bytes))) (unpack_bytes_rules alphabet bytes out)
      (room_for 2 room) NoRoom
      r (err_cause r) (λ h. err-not_ok r _ (sym h)) e

  pub unpack_short : room_for 2 room ≡ false → (s : RunSize) → unpack_bytes_answer alphabet bytes out ≡ Ok s
      → console_unpack alphabet bytes out room ≡ Err NoRoom
  unfolding console_unpack unpack_bytes_answer
  unpack_short h s e =
      last-broken Err (Ok (unpacked_size (packets_of bytes))) (unpack_bytes_rules alphabet bytes out)
      (room_for 2 room) NoRoom
      (Ok s) (λ r. err-not_ok r s) h e

-- the output after: with room as unpacking bytes leaves it
pub codes-room : (alphabet : ℕ) (bytes codes : List ℕ) (room : ℕ) → room_for 2 room ≡ true
    → console_codes alphabet bytes codes room ≡ codes_after_bytes alphabet bytes codes
unfolding console_codes codes_after_bytes
codes-room alphabet bytes codes room h = rw (unpack_room alphabet bytes (length codes) room h)

-- ---- every range after a call, by its answer

module _ (alphabet : ℕ) (codes buffer : List ℕ) (place : ℕ) (results : List ℕ) where
  abbrev answer : Result RunSize Refusal
  answer = console_pack alphabet codes buffer place (length results)

  -- a refusal: its number, and both ranges as they were
  pub pack_all_refused : (r : Refusal) (n : ℕ) (left : List ℕ) → n ≡ number_of r → answer ≡ Err r → left ≡ buffer
      → (n ≡ pack_number answer) × ((left ≡ console_buffer alphabet codes buffer place (length results)) × (results ≡ pack_results answer results))
  unfolding console_buffer
  pack_all_refused r n left e h f = (simp h e, (simp h f, simp h (sym (put_nothing results))))

  -- packing into bytes that refuses leaves them as they were
  pub pack_left : (r : Refusal) → pack_bytes_answer alphabet codes buffer place ≡ Err r → bytes_after alphabet codes buffer place ≡ buffer
  unfolding bytes_after
  pack_left r h = simp h

  -- a success: 0, the buffer as packing into bytes leaves it, and the two values
  pub pack_all_packed : room_for 2 (length results) ≡ true → (s : RunSize) → pack_bytes_answer alphabet codes buffer place ≡ Ok s → (left told : List ℕ)
      → left ≡ bytes_after alphabet codes buffer place → told ≡ results_put (s.packets ∷ s.residues ∷ []) results
      → (0 ≡ pack_number answer) × ((left ≡ console_buffer alphabet codes buffer place (length results)) × (told ≡ pack_results answer results))
  unfolding console_buffer bytes_after
  pack_all_packed room s e left told f g =
      let h : answer ≡ Ok s = pack_room alphabet codes buffer place (length results) room ∙ e in
      (simp h, (f ∙ simp (e, h), g ∙ simp h))

module _ (alphabet : ℕ) (bytes codes results : List ℕ) where
  abbrev unpacking : Result RunSize Refusal
  unpacking = console_unpack alphabet bytes (length codes) (length results)

  pub unpack_all_refused : (r : Refusal) (n : ℕ) (left : List ℕ) → n ≡ number_of r → unpacking ≡ Err r → left ≡ codes
      → (n ≡ unpack_number unpacking) × ((left ≡ console_codes alphabet bytes codes (length results)) × (results ≡ unpack_results unpacking results))
  unfolding console_codes
  unpack_all_refused r n left e h f = (simp h e, (simp h f, simp h (sym (put_nothing results))))

  pub unpack_left : (r : Refusal) → unpack_bytes_answer alphabet bytes (length codes) ≡ Err r → codes_after_bytes alphabet bytes codes ≡ codes
  unfolding codes_after_bytes
  unpack_left r h = simp h

  pub unpack_all_unpacked : room_for 2 (length results) ≡ true → (s : RunSize) → unpack_bytes_answer alphabet bytes (length codes) ≡ Ok s →
      (left told : List ℕ)
      → left ≡ codes_after_bytes alphabet bytes codes → told ≡ results_put (s.packets ∷ s.residues ∷ []) results
      → (0 ≡ unpack_number unpacking) × ((left ≡ console_codes alphabet bytes codes (length results)) × (told ≡ unpack_results unpacking results))
  unfolding console_codes codes_after_bytes
  unpack_all_unpacked room s e left told f g =
      let h : unpacking ≡ Ok s = unpack_room alphabet bytes (length codes) (length results) room ∙ e in
      (simp h, (f ∙ simp (e, h), g ∙ simp h))
