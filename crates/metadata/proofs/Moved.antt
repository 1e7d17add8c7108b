-- The same metadata record in two files of two byte orders: its texts are the same bytes, and its taxonomy ids are read alike.
-- Assumes nothing.
use mathlib.Core.Path.{◌≡◌, refl, sym, ◌∙◌}
use mathlib.Core.Bool.{Bool, true, false}
use mathlib.Core.List.{List}
use Prim.Native.Nat.{ℕ, ◌+◌, ◌-◌, ◌≤◌, ◌<◌}
use native.Mathlib.Omega.{arith}
use lib.ListN.{get_or}
use Rattle.fields.specs.declared.Order.{Order}
use Rattle.fields.specs.Number.{signed_at}
use Rattle.metadata.specs.declared.Texts.{Texts}
use Rattle.std.specs.Prelude.{Option, None, Some}
use Rattle.std.proofs.lemmas.Option.{none-some}
use Rattle.metadata.specs.Record.{texts_in}
use Rattle.metadata.specs.Rules.{Text, MetadataRule}
use Rattle.metadata.proofs.Rules.{texts_rule, rule_texts}

module _ (o o' : Order) (s s' : List ℕ) (from to : ℕ) (same : (k : ℕ) → from ≤ k → k + 4 < to → get_or s k 0 ≡ get_or s' k 0)
    (ids : from + 4 ≤ to → signed_at o 4 s (to - 4) ≡ signed_at o' 4 s' (to - 4)) where
  text-moved : (w : Bool) (a b : ℕ) → from ≤ a → a ≤ b → b + 4 < to → Text w s a b → Text w s' a b
  text-moved w a b h l m t = record {
    bytes = λ k i j. rw (same k (omega arith) (omega arith)) at (t.bytes k i j);
    closed = sym (same b (omega arith) m) ∙ t.closed;
  }

  pub rule_moved : (n a d : ℕ) → MetadataRule o s from to n a d → MetadataRule o' s' from to n a d
  rule_moved n a d r =
      let w = r.whole in
      let e : from + n + 1 + a + 1 + d + 1 ≡ to - 4 = omega arith in
      record {
        named = r.named;
        name_text = text-moved true from (from + n) (omega arith) (omega arith) (omega arith) r.name_text;
        accession_text = text-moved true (from + n + 1) (from + n + 1 + a) (omega arith) (omega arith) (omega arith) r.accession_text;
        description_text = text-moved false (from + n + 1 + a + 1) (from + n + 1 + a + 1 + d) (omega arith) (omega arith) (omega arith) r.description_text;
        taxonomy = rw (e, ← ids (omega arith)) (rw e at r.taxonomy);
        whole = w;
      }

-- What holds of both is read of both.
texts_by : (x y : Option Texts) → ((t : Texts) → x ≡ Some t → y ≡ Some t) → ((t : Texts) → y ≡ Some t → x ≡ Some t) → x ≡ y
texts_by (Some t) y f g = sym (f t refl)
texts_by None (Some t) f g = absurd (none-some t (g t refl))
texts_by None None f g = refl

pub texts_moved : (o o' : Order) (s s' : List ℕ) (from to : ℕ) → ((k : ℕ) → from ≤ k → k + 4 < to → get_or s k 0 ≡ get_or s' k 0)
    → (from + 4 ≤ to → signed_at o 4 s (to - 4) ≡ signed_at o' 4 s' (to - 4)) → texts_in o s from to ≡ texts_in o' s' from to
texts_moved o o' s s' from to same ids =
    texts_by (texts_in o s from to) (texts_in o' s' from to)
    (λ t e. rule_texts o' s' from to t.name t.accession t.description
    (rule_moved o o' s s' from to same ids t.name t.accession t.description (texts_rule o s from to t.name t.accession t.description e)))
    (λ t e. rule_texts o s from to t.name t.accession t.description
    (rule_moved o' o s' s from to (λ k i j. sym (same k i j)) (λ h. sym (ids h)) t.name t.accession t.description
    (texts_rule o' s' from to t.name t.accession t.description e)))
