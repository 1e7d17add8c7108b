-- Where identifiers and their fields stand. Assumes nothing.
use mathlib.Core.Path.{◌≡◌, refl, sym, subst}
use mathlib.Core.List.{List, [], ◌∷◌}
use mathlib.Core.Bool.{Bool}
use Prim.Native.Nat.{ℕ, ◌+◌, ◌≤◌}
use lib.ListN.{length, get_or}
use lib.Dec.{eqb}
use Rattle.laws.proofs.Choices.{cond_elim}
use Rattle.deflines.specs.declared.Field.{Field}
use Rattle.deflines.specs.declared.Field.TheVariants as L
use Rattle.std.specs.Prelude.{Option, Some, None, IfSome}
use Rattle.std.specs.Option.{option_map}
use Rattle.std.specs.List.{find}
use Rattle.std.specs.declared.ops.ControlFlow.TheVariants.{Break}
use Rattle.deflines.specs.Numbered.{item_from}
use Rattle.deflines.specs.Fields.{elements_in, field_at, field_identifiers, identifiers_in, identifiers_of}
use Rattle.deflines.specs.Identifiers.{field_in}
use Rattle.deflines.proofs.Lists.{Each, each_flat}
use Rattle.deflines.proofs.Walks.{InPlace, elements_each, place-room}

-- ---- identifiers stand within the file

field_each : (s : List ℕ) (x : Field) → Each (InPlace s) (field_identifiers s x)
field_each s (L.Title t) = tt
field_each s (L.Identifiers p) = elements_each s (p + 2)
field_each s L.Other = tt

identifiers_each : (s : List ℕ) (start : ℕ) → Each (InPlace s) (identifiers_of s start)
unfolding identifiers_of identifiers_in
identifiers_each s start =
    each_flat (InPlace s) (identifiers_in s) _
    (λ line. each_flat (InPlace s) (λ p. field_identifiers s (field_at s p)) _ (λ p. field_each s (field_at s p)))

pub identifier_room : (s : List ℕ) (start k p : ℕ) → item_from (identifiers_of s start) k ≡ Break p → p + 2 ≤ length s
identifier_room s start k p e = place-room s (identifiers_of s start) k p (identifiers_each s start) e

-- ---- and so do their fields

pub option_same : {X : Type 0} (x : Option X) → x ≡ option_map (λ y. y) x
option_same (Some y) = refl
option_same None = refl

-- what holds of each item holds of one that is found
found_each : {X : Type 0} (P : X → Type 0) (test : X → Bool) (xs : List X) (x : X) → Each P xs → find test xs ≡ Some x → P x
found_each P test [] x h e = absurd (cc)
found_each P test (y ∷ xs) x h e =
    cond_elim (λ (z : Option _). z ≡ Some x → P x) (test y) (λ _ q. subst P (let w : y ≡ x = cc in w) h.0) (λ _ q. found_each P test xs x h.1 q) e

module _ (s : List ℕ) (list tag : ℕ) where
  pub field_room : (p : ℕ) → field_in s list tag ≡ Some p → p + 2 ≤ length s
  unfolding field_in
  field_room p e = found_each (InPlace s) (λ p. eqb (get_or s p 0) tag) (elements_in s list) p (elements_each s (list + 2)) e

  pub field_found : (x : Option ℕ) → x ≡ field_in s list tag → IfSome x (λ p. p + 2 ≤ length s)
  field_found (Some p) e = field_room p (sym e)
  field_found None e = tt
