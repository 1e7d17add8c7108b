-- The exported set check, by the room of the results range. Assumes nothing.
use Rattle.std.specs.Prelude.{Err, Ok, Result}
use mathlib.Core.Path.{◌≡◌, refl, sym}
use mathlib.Core.Bool.{true, false}
use mathlib.Core.List.{List}
use Prim.Native.Nat.{ℕ}
use lib.ListN.{length}
use Rattle.answers.specs.Numbers.{number_of}
use Rattle.answers.specs.declared.Refusal.TheVariants.{NoRoom}
use Rattle.answers.specs.declared.Refusal.{Refusal}
use Rattle.dsqdata.specs.Header.{set_order, record_of}
use Rattle.dsqdata.specs.Check.{set_rules, set_check, set_number, set_values, set_record_values}
use Rattle.dsqdata.specs.declared.SetRecord.{SetRecord}
use Rattle.answers.proofs.Checks.{err-not_ok}
use Rattle.console.specs.Results.{room_for, results_put}
use Rattle.console.proofs.Told.{Answers, told_refused, told_short, told_passed}
use Rattle.timing.specs.Calls.{timed_set, set_results}

answers : Answers (Result SetRecord Refusal) Err set_number set_values
answers = record { numbered = λ r. refl; valueless = λ r. refl; apart = λ r s e. cc }

module _ (index metadata sequence results : List ℕ) where
  abbrev answer : Result SetRecord Refusal
  answer = timed_set index metadata sequence (length results)

  pub set-refused : (r : Refusal) (n : ℕ) → n ≡ number_of r → set_check index metadata sequence ≡ Err r
      → (n ≡ set_number answer) × (results ≡ set_results answer results)
  unfolding timed_set set_check
  set-refused r n e h =
      told_refused Err set_number set_values answers (Ok (record_of (set_order index) index)) (set_rules (set_order index) index metadata sequence) 11 results r n e
      (λ k. err-not_ok r (record_of (set_order index) index) (sym k)) h

  pub set-short : (set : SetRecord) (n : ℕ) → n ≡ number_of NoRoom → room_for 11 (length results) ≡ false → set_check index metadata sequence ≡ Ok set
      → (n ≡ set_number answer) × (results ≡ set_results answer results)
  unfolding timed_set set_check
  set-short set n e room h =
      told_short Err set_number set_values answers (Ok (record_of (set_order index) index)) (set_rules (set_order index) index metadata sequence) 11 results (Ok set) n e
      (λ r. err-not_ok r set) room h

  pub set_passed : (set : SetRecord) (told : List ℕ) → room_for 11 (length results) ≡ true → set_check index metadata sequence ≡ Ok set
      → told ≡ results_put (set_record_values set) results → (0 ≡ set_number answer) × (told ≡ set_results answer results)
  unfolding timed_set set_check
  set_passed set told room h e =
      told_passed Err set_number set_values answers (Ok (record_of (set_order index) index)) (set_rules (set_order index) index metadata sequence) 11 results (Ok set) told room h refl e
