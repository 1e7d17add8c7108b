-- What is promised of the kinds of identifier and their names (request 2026-05): demand 1 for the name call, and what it gives. The identifier call's own
-- promises are in Demand1, Order, Demand2Reads and Refusals. The printed numbers are in Printed. Assumes nothing.
use Rattle.std.specs.Prelude.{Err, Ok, Result}
use mathlib.Core.Path.{◌≡◌, refl, ap, ◌∙◌}
use mathlib.Core.Bool.{true}
use mathlib.Core.List.{List, ◌∷◌, ◌++◌}
use Prim.Native.Nat.{ℕ, ◌≤◌}
use borrow.Author.Tests.{le-leb}
use lib.ListN.{length, drop}
use Rattle.laws.proofs.Storing.{written_start}
use Rattle.answers.specs.declared.Refusal.{Refusal}
use Rattle.deflines.specs.declared.Identifier.{Identifier}
use Rattle.deflines.specs.declared.Identifier.TheVariants as D
use Rattle.deflines.specs.Answers.{Value, counted, values_of}
use Rattle.kinds.specs.Names.{kind_name, is_kind, written_by, name_rules, name_answer, name_output, name_number}
use Rattle.demands.specs.Numbers.{Numbered}
use Rattle.demands.specs.Order.{Ordered}
use Rattle.demands.proofs.Demand1.{number_answered}
use Rattle.demands.proofs.Order.{ordered}

-- ---- demand 1 for `kind_name`

-- Its number is 0 or stands in the table.
pub kind_name_call : (kind : ℕ) (lent : List ℕ) → Numbered (name_number (name_answer kind lent))
kind_name_call kind lent = number_answered name_number (λ x. refl) (λ r. refl) (name_answer kind lent)

-- A refusal changes nothing.
pub name-refused_kept : (kind : ℕ) (lent : List ℕ) (r : Refusal) → name_answer kind lent ≡ Err r → name_output kind lent ≡ lent
unfolding name_output
name-refused_kept kind lent r e = ap (λ (x : Result ℕ Refusal). written_by x (kind_name kind) lent) e

-- The first broken rule decides, and the number is 0 exactly where every rule holds.
pub kind_name_order : (kind : ℕ) (lent : List ℕ) → Ordered Err name_number (name_rules kind lent) (name_answer kind lent)
unfolding name_answer
kind_name_order kind lent =
    ordered Err name_number (λ r. refl) (Ok (length (kind_name kind))) refl (name_rules kind lent) (name_answer kind lent) refl

-- ---- what it gives

module _ (kind : ℕ) (lent : List ℕ) (low : 160 ≤ kind) (high : kind ≤ 179) (room : length (kind_name kind) ≤ length lent) where
  -- A kind's name, where it has room: its length.
  pub name-given : name_answer kind lent ≡ Ok (length (kind_name kind))
  unfolding name_answer
  name-given = rw (le-leb _ _ low, le-leb _ _ high, le-leb _ _ room)

  -- .. and its bytes, with what was lent behind them.
  pub name_written : name_output kind lent ≡ kind_name kind ++ drop (length (kind_name kind)) lent
  unfolding name_output
  name_written = ap (λ (x : Result ℕ Refusal). written_by x (kind_name kind) lent) name-given ∙ written_start (kind_name kind) lent

-- Every identifier that is found begins its values with the tag of a kind, so that it has a name.
pub kind_told : (i : Identifier) → (kind : ℕ) × (rest : List Value) × (values_of i ≡ counted kind ∷ rest) × (is_kind kind ≡ true)
kind_told (D.Local x) = (160, _, refl, refl)
kind_told (D.Gibbsq x) = (161, _, refl, refl)
kind_told (D.Gibbmt x) = (162, _, refl, refl)
kind_told (D.Giim x) = (163, _, refl, refl)
kind_told (D.Genbank x) = (164, _, refl, refl)
kind_told (D.Embl x) = (165, _, refl, refl)
kind_told (D.Pir x) = (166, _, refl, refl)
kind_told (D.Swissprot x) = (167, _, refl, refl)
kind_told (D.Patent x) = (168, _, refl, refl)
kind_told (D.Other x) = (169, _, refl, refl)
kind_told (D.General x) = (170, _, refl, refl)
kind_told (D.Gi x) = (171, _, refl, refl)
kind_told (D.Ddbj x) = (172, _, refl, refl)
kind_told (D.Prf x) = (173, _, refl, refl)
kind_told (D.Pdb x) = (174, _, refl, refl)
kind_told (D.Tpg x) = (175, _, refl, refl)
kind_told (D.Tpe x) = (176, _, refl, refl)
kind_told (D.Tpd x) = (177, _, refl, refl)
kind_told (D.Gpipe x) = (178, _, refl, refl)
kind_told (D.NamedAnnotTrack x) = (179, _, refl, refl)
