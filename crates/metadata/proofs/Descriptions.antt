-- A description by the one place where its NUL can stand: five bytes before the record's end. Assumes nothing.
use mathlib.Core.Path.{◌≡◌, refl, sym, ap, ◌∙◌}
use mathlib.Core.Bool.{Bool, true, false, not}
use mathlib.Core.List.{List}
use Prim.Native.Nat.{ℕ, ◌+◌, ◌-◌, ◌≤◌, ◌<◌}
use native.Mathlib.Omega.{arith}
use lib.Dec.{eqb}
use lib.ListN.{length, get_or, take, drop, length-take, length-drop}
use lib.Seq.{get_or-drop}
use Rattle.std.proofs.lemmas.List.{get_or-take}
use borrow.Author.Tests.{eq-eqb, ne_eqb, eqb-true, eqb-false, not-true}
use Rattle.laws.proofs.Tests.{never, both_pass}
use Rattle.laws.proofs.Places.{every_at, every-all, every-same}
use Rattle.fields.specs.declared.Order.{Order}
use Rattle.std.specs.Prelude.{Option, None, Some}
use Rattle.metadata.specs.Record.{text_byte, stays_in, all_stay, is_text, closing, behind_description}
use Rattle.metadata.specs.Rules.{TextByte, Text}
use Rattle.metadata.proofs.Closings.{within}
use Rattle.metadata.proofs.Rules.{byte_rule, rule_byte, no_nul, closed-text, text-closed}

-- ---- bytes that stand in a text

stays_rule : (w : Bool) (b : ℕ) → stays_in w b ≡ true → TextByte w b
stays_rule w b h =
    let p = both_pass (not (eqb b 0)) (text_byte w b) h in
    byte_rule w b (eqb-false b 0 (not-true _ p.0)) p.1

rule_stays : (w : Bool) (b : ℕ) → TextByte w b → stays_in w b ≡ true
rule_stays w b h = rw (ne_eqb b 0 (no_nul w b h), rule_byte w b h)

module _ (w : Bool) (s : List ℕ) (from nul : ℕ) where
  text-is : is_text w s from nul ≡ true → Text w s from nul
  text-is h =
      let p = both_pass (eqb (get_or s nul 0) 0) (all_stay w s from (nul - from)) h in
      record {
        bytes = λ k i j. let e : from + (k - from) ≡ k = omega arith in
            rw e at (stays_rule w (get_or s (from + (k - from)) 0)
            (every_at (λ m. stays_in w (get_or s (from + m) 0)) (nul - from) (k - from) (omega arith) p.1));
        closed = eqb-true (get_or s nul 0) 0 p.0;
      }

  is-text : Text w s from nul → is_text w s from nul ≡ true
  is-text t =
      rw (
        eq-eqb (get_or s nul 0) 0 t.closed,
        every-all (λ m. stays_in w (get_or s (from + m) 0)) (nul - from)
            (λ k l. rule_stays w (get_or s (from + k) 0) (t.bytes (from + k) (omega arith) (omega arith))),
      )

-- the bytes of a part of a file, taken by themselves
pub part_stays : (w : Bool) (s : List ℕ) (from to : ℕ) → from ≤ to → to ≤ length s
    → all_stay w (take (to - from) (drop from s)) 0 (length (take (to - from) (drop from s))) ≡ all_stay w s from (to - from)
part_stays w s from to h l =
    let n : length (take (to - from) (drop from s)) ≡ to - from = omega (arith, length-take (to - from) (drop from s), length-drop from s) in
    rw n (every-same _ _ (to - from) (λ k i.
    let z : 0 + k ≡ k = omega arith in
    ap (stays_in w) (ap (λ (m : ℕ). get_or (take (to - from) (drop from s)) m 0) z ∙ (get_or-take (to - from) (drop from s) k 0 i ∙ get_or-drop from s k 0))))

-- ---- behind the accession, closed at a

module _ (order : Order) (s : List ℕ) (from to n a : ℕ) where
  -- no description whose NUL stands five bytes before the end
  none_by : (m : Option ℕ) → ((z : ℕ) → m ≡ Some z → z + 5 ≡ to → ⊥) → None ≡ behind_description order s from to n a m
  none_by None f = refl
  none_by (Some z) f = rw (ne_eqb (z + 5) to (f z refl))

  -- the record ends too early for one
  pub short-record : to < a + 6 → None ≡ behind_description order s from to n a (closing false s (to - (a + 1)) (a + 1))
  short-record l =
      none_by (closing false s (to - (a + 1)) (a + 1))
      (λ z e g. let i = within false s to (a + 1) z e in omega arith)

  module _ (d : ℕ) (e : d + 5 ≡ to) where
    pub no_description : is_text false s (a + 1) d ≡ false → None ≡ behind_description order s from to n a (closing false s (to - (a + 1)) (a + 1))
    no_description f =
        none_by (closing false s (to - (a + 1)) (a + 1))
        (λ z g i. let q : z ≡ d = omega arith in
        never (sym f ∙ is-text false s (a + 1) d (rw q at (closed-text false s (to - (a + 1)) (a + 1) z g))))

    pub description-closed : a < d → is_text false s (a + 1) d ≡ true → closing false s (to - (a + 1)) (a + 1) ≡ Some d
    description-closed l f = text-closed false s to (a + 1) d (omega arith) (omega arith) (text-is false s (a + 1) d f)
