-- Bytes are read as a metadata record exactly where they are one as document 01 words it. Assumes nothing.
use mathlib.Core.Path.{◌≡◌, refl, sym, ap, ◌∙◌}
use mathlib.Core.Bool.{Bool, true, false, not, cond, ◌&&◌}
use mathlib.Core.Logic.{⊎_elim, inl, inr}
use mathlib.Core.List.{List}
use Prim.Native.Nat.{ℕ, zero, suc, ◌+◌, ◌-◌, ◌≤◌, ◌<◌}
use native.Mathlib.Omega.{arith}
use native.Mathlib.Nat.{eq-or-lt_of_le}
use lib.ListN.{get_or}
use lib.Dec.{leb, eqb, le→leb, leb→le}
use lib.IntN.{ℤ, pos, negsuc}
use lib.Signed.{◌≤ℤ◌, le_z_yes}
use borrow.Author.Tests.{eq-eqb, ne_eqb, eqb-true, eqb-false, le-leb, leb-true, not-true}
use Rattle.fields.specs.declared.Order.{Order}
use Rattle.fields.specs.Number.{signed_at}
use Rattle.laws.proofs.Tests.{never, bool_cases, both_pass, cond_passed, cond_failed}
use Rattle.std.specs.Prelude.{Option, None, Some}
use Rattle.std.proofs.lemmas.Option.{none-some, cond_some}
use Rattle.metadata.specs.declared.Texts.{Texts}
use Rattle.metadata.specs.Record.{text_byte, closing, is_taxonomy, behind_description, behind_accession, behind_name, texts_in}
use Rattle.metadata.specs.Rules.{TextByte, Text, Taxonomy, MetadataRule}
use Rattle.metadata.proofs.Closings.{within}

-- ---- bytes of a text

pub byte_rule : (w : Bool) (b : ℕ) → (b ≡ 0 → ⊥) → text_byte w b ≡ true → TextByte w b
byte_rule true b z h =
    let p = both_pass (not (leb 9 b && leb b 13)) (not (eqb b 32)) h in
    (z, (λ i j. never (sym (not-true (leb 9 b && leb b 13) p.0) ∙ rw (le-leb 9 b i, le-leb b 13 j))), eqb-false b 32 (not-true (eqb b 32) p.1))
byte_rule false b z h = (z, eqb-false b 10 (not-true (eqb b 10) h))

pub rule_byte : (w : Bool) (b : ℕ) → TextByte w b → text_byte w b ≡ true
rule_byte true b h =
    bool_cases (leb 9 b)
    (λ e. bool_cases (leb b 13) (λ f. absurd (h.1 (leb-true 9 b e) (leb-true b 13 f))) (λ f. rw (e, f, ne_eqb b 32 h.2)))
    (λ e. rw (e, ne_eqb b 32 h.2))
rule_byte false b h = rw (ne_eqb b 10 h.1)

pub no_nul : (w : Bool) (b : ℕ) → TextByte w b → b ≡ 0 → ⊥
no_nul true b h = h.0
no_nul false b h = h.0

-- ---- a closed text

closed_by : (w : Bool) (s : List ℕ) (n p q : ℕ) (b c : Bool) → eqb (get_or s p 0) 0 ≡ b → text_byte w (get_or s p 0) ≡ c
    → (closing w s n (suc p) ≡ Some q → Text w s (suc p) q)
    → cond b (Some p) (cond c (closing w s n (suc p)) None) ≡ Some q → Text w s p q
closed_by w s n p q true c i j f h =
    let e : p ≡ q = cc in
    record { bytes = λ k l m. absurd (let z : ⊥ = omega arith in z); closed = rw (← e) (eqb-true _ _ i) }
closed_by w s n p q false true i j f h =
    let r = f h in
    record {
      bytes = λ k l m. ⊎_elim (λ e. rw (← e) (byte_rule w (get_or s p 0) (eqb-false (get_or s p 0) 0 i) j)) (λ g. r.bytes k g m) (eq-or-lt_of_le l);
      closed = r.closed;
    }
closed_by w s n p q false false i j f h = absurd (none-some _ h)

pub closed-text : (w : Bool) (s : List ℕ) (n p q : ℕ) → closing w s n p ≡ Some q → Text w s p q
closed-text w s zero p q h = absurd (none-some _ h)
closed-text w s (suc n) p q h = closed_by w s n p q (eqb (get_or s p 0) 0) (text_byte w (get_or s p 0)) refl refl (closed-text w s n (suc p) q) h

text-left : (w : Bool) (s : List ℕ) (n p q : ℕ) → p ≤ q → q < p + n → Text w s p q → closing w s n p ≡ Some q
text-left w s zero p q a b r = absurd (let z : ⊥ = omega arith in z)
text-left w s (suc n) p q a b r =
    ⊎_elim (λ e. let z : get_or s p 0 ≡ 0 = rw e r.closed in rw (eq-eqb (get_or s p 0) 0 z) (ap Some e))
    (λ l.
    let t = r.bytes p (omega arith) l in
    rw (ne_eqb (get_or s p 0) 0 (no_nul w (get_or s p 0) t), rule_byte w (get_or s p 0) t)
    (text-left w s n (suc p) q l (omega arith) (record { bytes = λ k i j. r.bytes k (omega arith) j; closed = r.closed })))
    (eq-or-lt_of_le a)

pub text-closed : (w : Bool) (s : List ℕ) (to p q : ℕ) → p ≤ q → q < to → Text w s p q → closing w s (to - p) p ≡ Some q
text-closed w s to p q a b r = text-left w s (to - p) p q a (omega arith) r

-- ---- the taxonomy id

id_rule : (z : ℤ) → is_taxonomy z ≡ true → Taxonomy z
id_rule (pos zero) h = never h
id_rule (pos (suc n)) h = inr (le_z_yes (le→leb 1 (suc n) (omega arith)))
id_rule (negsuc zero) h = inl refl
id_rule (negsuc (suc n)) h = never h

id_unset : (z : ℤ) → z ≡ negsuc 0 → is_taxonomy z ≡ true
id_unset z e = rw e

id_set : (z : ℤ) → pos 1 ≤ℤ z → is_taxonomy z ≡ true
id_set (pos zero) h = absurd (let l = leb→le 1 0 h.le in let z : ⊥ = omega arith in z)
id_set (pos (suc n)) h = refl
id_set (negsuc n) h = absurd h.le

rule_id : (z : ℤ) → Taxonomy z → is_taxonomy z ≡ true
rule_id z h = ⊎_elim (id_unset z) (id_set z) h

-- ---- the record

module _ (order : Order) (s : List ℕ) (from to n a d : ℕ) where
  description-read : (x y : ℕ) (m : Option ℕ) → behind_description order s from to x y m ≡ Some (record { name = n; accession = a; description = d })
      → (z : ℕ) × (m ≡ Some z) × (z + 5 ≡ to) × (is_taxonomy (signed_at order 4 s (z + 1)) ≡ true) × (x - from ≡ n) × (y - (x + 1) ≡ a) × (z - (y + 1) ≡ d)
  description-read x y None h = absurd (none-some _ h)
  description-read x y (Some z) h =
      let p = cond_passed (eqb (z + 5) to) (none-some _) h in
      let q = cond_some (is_taxonomy (signed_at order 4 s (z + 1))) _ _ p.1 in
      (z, refl, eqb-true (z + 5) to p.0, q.0, ap (λ (t : Texts). t.name) q.1, ap (λ (t : Texts). t.accession) q.1, ap (λ (t : Texts). t.description) q.1)

  accession-read : (x : ℕ) (m : Option ℕ) → behind_accession order s from to x m ≡ Some (record { name = n; accession = a; description = d })
      → (y : ℕ) × (m ≡ Some y) × (behind_description order s from to x y (closing false s (to - (y + 1)) (y + 1)) ≡ Some (record { name = n; accession = a; description = d }))
  accession-read x None h = absurd (none-some _ h)
  accession-read x (Some y) h = (y, refl, h)

  name-read : (m : Option ℕ) → behind_name order s from to m ≡ Some (record { name = n; accession = a; description = d })
      → (x : ℕ) × (m ≡ Some x) × (x ≡ from → ⊥) × (behind_accession order s from to x (closing true s (to - (x + 1)) (x + 1)) ≡ Some (record { name = n; accession = a; description = d }))
  name-read None h = absurd (none-some _ h)
  name-read (Some x) h = let p = cond_failed (eqb x from) (none-some _) h in (x, refl, eqb-false x from p.0, p.1)

  rule_at : (x y z : ℕ) → closing true s (to - from) from ≡ Some x → (x ≡ from → ⊥)
      → closing true s (to - (x + 1)) (x + 1) ≡ Some y → closing false s (to - (y + 1)) (y + 1) ≡ Some z
      → z + 5 ≡ to → is_taxonomy (signed_at order 4 s (z + 1)) ≡ true → x - from ≡ n → y - (x + 1) ≡ a → z - (y + 1) ≡ d
      → MetadataRule order s from to n a d
  rule_at x y z cx ne cy cz e0 t e1 e2 e3 =
      let wx = within true s to from x cx in
      let wy = within true s to (x + 1) y cy in
      let wz = within false s to (y + 1) z cz in
      let ex : x ≡ from + n = omega arith in
      let ey : y ≡ from + n + 1 + a = omega arith in
      let ez : z ≡ from + n + 1 + a + 1 + d = omega arith in
      record {
        named = positive n (λ i. ne (omega arith));
        name_text = rw ex at (closed-text true s (to - from) from x cx);
        accession_text = rw (ey, ex) at (closed-text true s (to - (x + 1)) (x + 1) y cy);
        description_text = rw (ez, ey) at (closed-text false s (to - (y + 1)) (y + 1) z cz);
        taxonomy = rw ez at (id_rule (signed_at order 4 s (z + 1)) t);
        whole = omega arith;
      }
    where
      positive : (k : ℕ) → (k ≡ 0 → ⊥) → 0 < k
      positive zero f = absurd (f refl)
      positive (suc k) f = omega arith

  -- What is read as a metadata record with texts of these lengths is one ..
  pub texts_rule : texts_in order s from to ≡ Some (record { name = n; accession = a; description = d }) → MetadataRule order s from to n a d
  unfolding texts_in
  texts_rule h =
      let p = name-read (closing true s (to - from) from) h in
      let q = accession-read p.0 (closing true s (to - (p.0 + 1)) (p.0 + 1)) p.3 in
      let r = description-read p.0 q.0 (closing false s (to - (q.0 + 1)) (q.0 + 1)) q.2 in
      rule_at p.0 q.0 r.0 p.1 p.2 q.1 r.1 r.2 r.3 r.4 r.5 r.6

  -- .. and a metadata record with texts of these lengths is read as one.
  pub rule_texts : MetadataRule order s from to n a d → texts_in order s from to ≡ Some (record { name = n; accession = a; description = d })
  unfolding texts_in
  rule_texts r =
      let l = r.named in
      let w = r.whole in
      let ne : from + n ≡ from → ⊥ = λ e. omega arith in
      let e : from + n + 1 + a + 1 + d + 5 ≡ to = omega arith in
      let f1 : from + n - from ≡ n = omega arith in
      let f2 : from + n + 1 + a - (from + n + 1) ≡ a = omega arith in
      let f3 : from + n + 1 + a + 1 + d - (from + n + 1 + a + 1) ≡ d = omega arith in
      rw (
        text-closed true s to from (from + n) (omega arith) (omega arith) r.name_text,
        ne_eqb (from + n) from ne,
        text-closed true s to (from + n + 1) (from + n + 1 + a) (omega arith) (omega arith) r.accession_text,
        text-closed false s to (from + n + 1 + a + 1) (from + n + 1 + a + 1 + d) (omega arith) (omega arith) r.description_text,
        eq-eqb (from + n + 1 + a + 1 + d + 5) to e,
        rule_id (signed_at order 4 s (from + n + 1 + a + 1 + d + 1)) r.taxonomy,
        f1,
        f2,
        f3,
      )
