-- The texts of one number's metadata record, and its rules. Assumes nothing.
use mathlib.Core.Path.{◌≡◌, refl}
use mathlib.Core.List.{List}
use Prim.Native.Nat.{ℕ, ◌+◌}
use native.Mathlib.Numerals.{add-one}
use Rattle.laws.specs.Rules.{AllHold}
use Rattle.answers.specs.Limits.{checked_by}
use Rattle.answers.specs.declared.Refusal.TheVariants.{BadMetadata}
use Rattle.std.specs.Prelude.{Option, Some, None, Err}
use Rattle.fields.specs.declared.Order.{Order}
use Rattle.metadata.specs.declared.Texts.{Texts}
use Rattle.metadata.specs.Record.{texts_in}
use Rattle.dsqdata.specs.Ends.{metadata_start}
use Rattle.dsqdata.specs.Records.{texts_at}
use Rattle.dsqdata.specs.Check.{rules_of_record}

-- a turn over the records: what it reads of number k, by the places of the record
module _ (order : Order) (index metadata : List ℕ) (k : ℕ) {from to : ℕ} (e : from ≡ metadata_start order index k) (f : to ≡ metadata_start order index (k + 1)) where
  pub texts_here : {x : Option Texts} → x ≡ texts_in order metadata from to → x ≡ texts_at order index metadata k
  unfolding texts_at
  texts_here q = let g = rw add-one at f in rw (← e, ← g) q

module _ (order : Order) (index metadata : List ℕ) (k : ℕ) where
  pub record-holds : {t : Texts} → Some t ≡ texts_at order index metadata k → AllHold (rules_of_record order index metadata k)
  unfolding rules_of_record
  record-holds g = rw (← g) (refl, tt)

  pub record-refused : None ≡ texts_at order index metadata k → Err BadMetadata ≡ checked_by (rules_of_record order index metadata k)
  unfolding rules_of_record
  record-refused g = rw (← g)
