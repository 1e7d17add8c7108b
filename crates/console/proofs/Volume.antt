-- The console's volume check, by the room of the results range. Assumes nothing.
use Rattle.std.specs.Prelude.{Err, Ok, Result}
use mathlib.Core.Path.{◌≡◌, refl, sym}
use mathlib.Core.Bool.{true, false}
use mathlib.Core.List.{List}
use Prim.Native.Nat.{ℕ}
use lib.ListN.{length}
use Rattle.laws.proofs.Rules.{hold-second, last-holds}
use Rattle.answers.specs.Numbers.{number_of}
use Rattle.answers.specs.declared.Refusal.{Refusal}
use Rattle.answers.specs.declared.Refusal.TheVariants.{NoRoom}
use Rattle.answers.proofs.Numbers.{zero-passes}
use Rattle.answers.proofs.Checks.{err-not_ok}
use Rattle.volume.specs.Volume.{volume_rules, volume_record, record_values, volume_answer, volume_number, volume_values}
use Rattle.volume.specs.declared.VolumeRecord.{VolumeRecord}
use Rattle.console.specs.Results.{room_for, results_put}
use Rattle.console.specs.Calls.{results_rule, console_volume_rules, console_volume, volume_results}
use Rattle.console.proofs.Told.{Answers, told_refused, told_short, told_passed}

answers : Answers (Result VolumeRecord Refusal) Err volume_number volume_values
answers = record { numbered = λ r. refl; valueless = λ r. refl; apart = λ r s e. cc }

module _ (index sequence header results : List ℕ) where
  abbrev answer : Result VolumeRecord Refusal
  answer = console_volume index sequence header (length results)

  pub volume_refused : (r : Refusal) (n : ℕ) → n ≡ number_of r → volume_answer index sequence header ≡ Err r
      → (n ≡ volume_number answer) × (results ≡ volume_results answer results)
  unfolding console_volume volume_answer
  volume_refused r n e h =
      told_refused Err volume_number volume_values answers (Ok (volume_record index)) (volume_rules index sequence header) 8 results r n e
      (λ k. err-not_ok r (volume_record index) (sym k)) h

  pub volume_short : (v : VolumeRecord) (n : ℕ) → n ≡ number_of NoRoom → room_for 8 (length results) ≡ false → volume_answer index sequence header ≡ Ok v
      → (n ≡ volume_number answer) × (results ≡ volume_results answer results)
  unfolding console_volume volume_answer
  volume_short v n e room h =
      told_short Err volume_number volume_values answers (Ok (volume_record index)) (volume_rules index sequence header) 8 results (Ok v) n e
      (λ r. err-not_ok r v) room h

  pub volume_passed : (v : VolumeRecord) (told : List ℕ) → room_for 8 (length results) ≡ true → volume_answer index sequence header ≡ Ok v
      → told ≡ results_put (record_values v) results → (0 ≡ volume_number answer) × (told ≡ volume_results answer results)
  unfolding console_volume volume_answer
  volume_passed v told room h e =
      told_passed Err volume_number volume_values answers (Ok (volume_record index)) (volume_rules index sequence header) 8 results
      (Ok v) told room h refl e

-- with room the console's check answers as the volume check does
pub volume_room : (index sequence header : List ℕ) (room : ℕ) → room_for 8 room ≡ true
    → console_volume index sequence header room ≡ volume_answer index sequence header
unfolding console_volume volume_answer
volume_room index sequence header room h = last-holds Err (Ok (volume_record index)) (volume_rules index sequence header) (room_for 8 room) NoRoom h

-- where it answers 0 the results had room
pub zero_room : (index sequence header : List ℕ) (room : ℕ) → volume_number (console_volume index sequence header room) ≡ 0 → room_for 8 room ≡ true
unfolding console_volume
zero_room index sequence header room z =
    (hold-second (volume_rules index sequence header) (results_rule 8 room)
    (zero-passes Err (Ok (volume_record index)) volume_number (λ r. refl) (console_volume_rules index sequence header room) z).0).0
