-- The fields of a def-line by their tags, and what they hold. Assumes nothing.
use mathlib.Core.Path.{◌≡◌, refl, sym, ap, ◌∙◌}
use mathlib.Core.List.{List, [], ◌∷◌}
use Prim.Native.Nat.{ℕ, ◌+◌, ◌≤◌}
use native.Mathlib.Omega.{arith}
use lib.ListN.{length, get_or}
use lib.Dec.{eqb}
use Rattle.laws.proofs.Choices.{cond_elim}
use Rattle.elements.specs.declared.Span.{Span}
use Rattle.answers.specs.declared.Refusal.{Refusal}
use Rattle.std.specs.Prelude.{Result, Ok, Err}
use Rattle.elements.specs.Parts.{text_at}
use Rattle.deflines.specs.declared.Field.{Field}
use Rattle.deflines.specs.declared.Field.TheVariants as L
use Rattle.deflines.specs.Fields.{title_field, field_at, field_titles}

-- ---- what a field holds

module _ (s : List ℕ) (p : ℕ) (x : Field) (e : x ≡ field_at s p) where
  pub title_held : (t : Span) → x ≡ L.Title t → field_titles (field_at s p) ≡ t ∷ []
  title_held t q = ap field_titles (sym e ∙ q)

  pub no_title : ((t : Span) → x ≡ L.Title t → ⊥) → field_titles (field_at s p) ≡ []
  no_title o = ap field_titles (sym e) ∙ none x o
    where
      none : (x : Field) → ((t : Span) → x ≡ L.Title t → ⊥) → field_titles x ≡ []
      none (L.Title t) o = absurd (o t refl)
      none (L.Identifiers p) o = refl
      none L.Other o = refl

  module _ (list : ℕ) (q : x ≡ L.Identifiers list) where
    -- the list of identifiers stands two bytes behind the tag
    list-place : list ≡ p + 2
    unfolding field_at
    list-place =
        let P : Field → Type 0 = λ y. y ≡ L.Identifiers list → list ≡ p + 2 in
        cond_elim P (eqb (get_or s p 0) 161) (λ _ f. cc)
        (λ _. cond_elim P (eqb (get_or s p 0) 160) (λ _ f. absurd (never (text_at s (p + 2)) f)) (λ _ f. cc))
        (sym e ∙ q)
      where
        never : (y : Result Span Refusal) → title_field y ≡ L.Identifiers list → ⊥
        never (Ok t) f = let z : ◌≡◌ {A = ℕ} 0 1 = cc in omega arith
        never (Err r) f = let z : ◌≡◌ {A = ℕ} 0 1 = cc in omega arith

    pub list_inside : p + 2 ≤ length s → list ≤ length s
    list_inside h = let z = list-place in omega arith
