-- Packing and unpacking succeed exactly when document 01's rules hold, one by one. Assumes nothing.
use mathlib.Core.Path.{◌≡◌, ◌∙◌}
use mathlib.Core.Bool.{true}
use mathlib.Core.List.{List}
use Prim.Native.Nat.{ℕ, ◌+◌, ◌≤◌, ◌<◌}
use native.Mathlib.Omega.{arith}
use lib.Dec.{leb}
use lib.ListN.{length}
use borrow.Author.Tests.{le-leb, lt-leb, leb-true}
use Rattle.laws.proofs.Tests.{both_pass, bool_cases}
use Rattle.laws.proofs.Digits.{below_at, below_all}
use Rattle.answers.specs.Limits.{bytes_fit}
use Rattle.answers.specs.declared.Refusal.TheVariants.{NoRoom}
use Rattle.residues.specs.Alphabets.{is_alphabet, code_limit, valid_codes}
use Rattle.packets.specs.Packing.{run}
use Rattle.packets.proofs.Packing.{limit_some}
use Rattle.packets.proofs.Rules.{formed_rules, rules_formed}
use Rattle.runs.specs.Answers.{packed_size, pack_answer, pack_number, unpacked_size, unpack_answer}
use Rattle.runs.specs.Rules.{Packable, Packs, RunUnpacks, Unpacks}
use Rattle.std.specs.Prelude.{Ok, Err}
use Rattle.runs.specs.declared.RunSize.{RunSize}
use Rattle.runs.proofs.Answers.{MayPack, pack_done, packed_may, MayUnpack, unpack_as, run-done, unpacked_may}

known : (a : ℕ) → is_alphabet a ≡ true → (1 ≤ a) × (a ≤ 3)
known a e = let p = both_pass (leb 1 a) (leb a 3) e in (leb-true 1 a p.0, leb-true a 3 p.1)

known_back : (a : ℕ) → (1 ≤ a) × (a ≤ 3) → is_alphabet a ≡ true
known_back a h = rw (le-leb 1 a h.0, le-leb a 3 h.1)

module _ (a : ℕ) (codes : List ℕ) (room place : ℕ) where
  may : MayPack a codes room place → Packs a codes room place
  may m =
      let ok : Packable a codes =
      record { input_size = m.small; known = known a m.known; valid = λ k h. below_at (code_limit a) k codes (limit_some a) m.valid } in
      record { packable = ok; fits = m.fits }

  must : Packs a codes room place → MayPack a codes room place
  must r =
      let ok = r.packable in
      record { small = ok.input_size; known = known_back a ok.known; valid = below_all (code_limit a) codes ok.valid; fits = r.fits }

  -- Where the rules hold packing answers 0, the run's packets and L.
  pub rules_pack : Packs a codes room place → pack_answer a codes room place ≡ Ok (packed_size a codes)
  rules_pack r = pack_done a codes room place (must r)

  -- Where packing answers 0 the rules hold.
  pub packed_rules : (size : RunSize) → pack_answer a codes room place ≡ Ok size → Packs a codes room place
  packed_rules size e = may (packed_may a codes room place size e)

  -- Where all holds but that the run fits, packing is refused for the room.
  pub rules_full : Packable a codes → room < place + length (run a codes) → pack_answer a codes room place ≡ Err NoRoom
  unfolding pack_answer
  rules_full ok h =
      rw (
        le-leb (length codes) 2147483647 ok.input_size,
        known_back a ok.known,
        below_all (code_limit a) codes ok.valid,
        lt-leb (place + length (run a codes)) room h,
      )

  -- Where the run fits its number is not that of the room, whatever else is wrong.
  pub fits-not_full : place + length (run a codes) ≤ room → pack_number (pack_answer a codes room place) ≡ 13 → ⊥
  unfolding pack_answer
  fits-not_full h e =
      bool_cases (bytes_fit codes)
      (λ b.
      bool_cases (is_alphabet a)
      (λ c.
      bool_cases (valid_codes a codes)
      (λ d. omega (arith, rw (b, c, d, le-leb (place + length (run a codes)) room h) at e))
      (λ d. omega (arith, rw (b, c, d) at e)))
      (λ c. omega (arith, rw (b, c) at e)))
      (λ b. omega (arith, rw b at e))

module _ (a : ℕ) (packets : List ℕ) (room : ℕ) where
  pub run_must : RunUnpacks a packets room → MayUnpack a packets room
  run_must r = record { known = known_back a r.known; formed = rules_formed a packets r.well_formed; fits = r.fits }

  pub run_may : MayUnpack a packets room → RunUnpacks a packets room
  run_may m = record { known = known a m.known; well_formed = formed_rules a packets m.formed; fits = m.fits }

  -- Where the rules hold unpacking answers 0, the run's packets and L.
  pub rules_unpack : Unpacks a packets room → unpack_answer a packets room ≡ Ok (unpacked_size packets)
  rules_unpack r = unpack_as a packets room r.input_size ∙ run-done a packets room (run_must r.run)

  -- Where unpacking answers 0 the rules hold.
  pub unpacked_rules : (size : RunSize) → unpack_answer a packets room ≡ Ok size → Unpacks a packets room
  unpacked_rules size e = let m = unpacked_may a packets room size e in record { input_size = m.0; run = run_may m.1 }
