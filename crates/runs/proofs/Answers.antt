-- The answers of packing and unpacking, refusal by refusal. Assumes nothing.
use mathlib.Core.Path.{◌≡◌}
use mathlib.Core.Bool.{true, false}
use mathlib.Core.List.{List, []}
use Prim.Native.Nat.{ℕ, ◌+◌, ◌≤◌, ◌<◌}
use lib.ListN.{length}
use borrow.Author.Tests.{le-leb, lt-leb, leb-true}
use Rattle.laws.specs.Rules.{Rule, verdict, AllHold}
use Rattle.laws.specs.Writing.{written_at}
use Rattle.laws.proofs.Rules.{verdict-passes, not-refused}
use Rattle.answers.specs.Limits.{checked_by}
use Rattle.answers.specs.declared.Refusal.{Refusal}
use Rattle.answers.specs.declared.Refusal.TheVariants.{TooLarge, WrongKind, BadRun, NoRoom}
use Rattle.std.specs.Prelude.{Result, Ok, Err}
use Rattle.answers.proofs.Checks.{err-not_ok, refused-first, all_hold}
use Rattle.residues.specs.Alphabets.{is_alphabet, valid_codes}
use Rattle.packets.specs.Packing.{run}
use Rattle.packets.specs.Runs.{well_formed, unpacked}
use Rattle.runs.specs.Answers.{pack_rules, packed_size, pack_answer, packets_after, run_rules, unpack_rules, unpacked_size, unpacked_by, unpack_answer, codes_after}
use Rattle.runs.specs.declared.RunSize.{RunSize}

-- ---- packing

-- What packing asks, all of it held.
pub record MayPack (a : ℕ) (codes : List ℕ) (room place : ℕ) : Type 0 where
  pub small : length codes ≤ 2147483647
  pub known : is_alphabet a ≡ true
  pub valid : valid_codes a codes ≡ true
  pub fits : place + length (run a codes) ≤ room

-- an answer that is no refusal holds all its rules
pub answer_holds : (done size : RunSize) (rules : List (Rule Refusal)) → verdict Err (Ok done) rules ≡ Ok size → AllHold rules
answer_holds done size rules e = not-refused Err (Ok done) (Ok size) rules (λ r. err-not_ok r size) e

module _ (a : ℕ) (codes : List ℕ) (room place : ℕ) where
  pub may_pack : AllHold (pack_rules a codes room place) → MayPack a codes room place
  may_pack h = record {
    small = leb-true (length codes) 2147483647 h.0;
    known = h.1.0;
    valid = h.1.1.0;
    fits = leb-true (place + length (run a codes)) room h.1.1.1.0;
  }

  pub pack_rules_lem : MayPack a codes room place → AllHold (pack_rules a codes room place)
  pack_rules_lem m = (le-leb (length codes) 2147483647 m.small, (m.known, (m.valid, (le-leb (place + length (run a codes)) room m.fits, tt))))

  pub pack_done : MayPack a codes room place → pack_answer a codes room place ≡ Ok (packed_size a codes)
  unfolding pack_answer
  pack_done m = verdict-passes Err (Ok (packed_size a codes)) (pack_rules a codes room place) (pack_rules_lem m)

  pub packed_may : (size : RunSize) → pack_answer a codes room place ≡ Ok size → MayPack a codes room place
  unfolding pack_answer
  packed_may size e = may_pack (answer_holds (packed_size a codes) size (pack_rules a codes room place) e)

  -- what the check of the rules says
  module _ (c : Result Unit Refusal) (e : c ≡ checked_by (pack_rules a codes room place)) where
    pub check_refused : (r : Refusal) → c ≡ Err r → pack_answer a codes room place ≡ Err r
    unfolding pack_answer
    check_refused r f = refused-first (pack_rules a codes room place) [] c r e f Err (Ok (packed_size a codes))

    pub check_passed : c ≡ Ok tt → MayPack a codes room place
    check_passed f = may_pack (all_hold (pack_rules a codes room place) c e f)

-- what the lent range holds after
module _ (a : ℕ) (codes packets : List ℕ) (place : ℕ) where
  pub packets_kept : (r : Refusal) → pack_answer a codes (length packets) place ≡ Err r → packets_after a codes packets place ≡ packets
  unfolding packets_after
  packets_kept r e = rw e

  pub packets_written : (size : RunSize) → pack_answer a codes (length packets) place ≡ Ok size → packets_after a codes packets place
      ≡ written_at place (run a codes) packets
  unfolding packets_after
  packets_written size e = rw e

-- ---- unpacking

-- What unpacking asks of the run and the output, all of it held.
pub record MayUnpack (a : ℕ) (packets : List ℕ) (room : ℕ) : Type 0 where
  pub known : is_alphabet a ≡ true
  pub formed : well_formed a packets ≡ true
  pub fits : length (unpacked packets) ≤ room

module _ (a : ℕ) (packets : List ℕ) (room : ℕ) where
  abbrev pub RunAnswer : Result RunSize Refusal
  RunAnswer = unpacked_by (run_rules a packets room) packets

  pub may_unpack : AllHold (run_rules a packets room) → MayUnpack a packets room
  may_unpack h = record { known = h.0; formed = h.1.0; fits = leb-true (length (unpacked packets)) room h.1.1.0 }

  pub run_rules_lem : MayUnpack a packets room → AllHold (run_rules a packets room)
  run_rules_lem m = (m.known, (m.formed, (le-leb (length (unpacked packets)) room m.fits, tt)))

  pub run_wrong : is_alphabet a ≡ false → RunAnswer ≡ Err WrongKind
  run_wrong e = rw e

  pub run-bad : is_alphabet a ≡ true → well_formed a packets ≡ false → RunAnswer ≡ Err BadRun
  run-bad e f = rw (e, f)

  pub run_full : is_alphabet a ≡ true → well_formed a packets ≡ true → room < length (unpacked packets) → RunAnswer ≡ Err NoRoom
  run_full e f h = rw (e, f, lt-leb (length (unpacked packets)) room h)

  pub run-done : MayUnpack a packets room → RunAnswer ≡ Ok (unpacked_size packets)
  run-done m = verdict-passes Err (Ok (unpacked_size packets)) (run_rules a packets room) (run_rules_lem m)

  pub unpack_large : 536870912 < length packets → unpack_answer a packets room ≡ Err TooLarge
  unfolding unpack_answer
  unpack_large h = rw (lt-leb (length packets) 536870912 h)

  pub unpack_as : length packets ≤ 536870912 → unpack_answer a packets room ≡ RunAnswer
  unfolding unpack_answer
  unpack_as h = rw (le-leb (length packets) 536870912 h)

  pub unpacked_may : (size : RunSize) → unpack_answer a packets room ≡ Ok size → (length packets ≤ 536870912) × MayUnpack a packets room
  unfolding unpack_answer
  unpacked_may size e =
      let h = answer_holds (unpacked_size packets) size (unpack_rules a packets room) e in
      (leb-true (length packets) 536870912 h.0, may_unpack h.1)

-- what the output holds after
module _ (a : ℕ) (packets out : List ℕ) where
  pub codes_kept : (r : Refusal) → unpack_answer a packets (length out) ≡ Err r → codes_after a packets out ≡ out
  unfolding codes_after
  codes_kept r e = rw e

  pub codes_written : (size : RunSize) → unpack_answer a packets (length out) ≡ Ok size → codes_after a packets out ≡ written_at 0 (unpacked packets) out
  unfolding codes_after
  codes_written size e = rw e
