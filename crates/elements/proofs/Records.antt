-- A record is read exactly where its fields stand in their order, each required one given. One law over all records of source 001. Assumes nothing.
use mathlib.Core.Path.{◌≡◌, refl, sym, subst, ap, ◌∙◌}
use mathlib.Core.List.{List}
use mathlib.Core.Bool.{true, ◌&&◌}
use Prim.Native.Nat.{ℕ, zero, suc, ◌+◌, ◌≤◌, ◌<◌}
use native.Mathlib.Omega.{arith}
use borrow.Author.Tests.{le-leb, lt-leb, eq-eqb, ne_eqb, leb-true, leb-false, eqb-true, eqb-false}
use lib.ListN.{length, get_or}
use lib.Dec.{leb, eqb}
use Rattle.laws.proofs.Tests.{never, bool_cases, both_pass}
use Rattle.laws.proofs.Choices.{cond_elim}
use Rattle.std.specs.Prelude.{Result, Ok}
use Rattle.answers.specs.declared.Refusal.{Refusal}
use Rattle.elements.specs.declared.RecordKind.{RecordKind}
use Rattle.elements.specs.declared.RecordKind.TheVariants as R
use Rattle.elements.specs.declared.Form.TheVariants as F
use Rattle.elements.specs.Grammar.{in_range, last_tag, optional_from, field_body, may_follow}
use Rattle.elements.specs.Reading.{closes, list_end, read}
use Rattle.elements.specs.Statement.{ChoiceElement, Maybe, Required, Optional, Ended, RecordElement}
use Rattle.elements.specs.Statement as Z
use Rattle.elements.proofs.Parts.{range_parts}
use Rattle.elements.proofs.Reading.{ends-within}
use Rattle.elements.proofs.Began.{close-bytes, bytes-close, byte_not_close, bad-not_end, same_end, Began, read_began, began_read}
use Rattle.elements.proofs.Began as B
use Rattle.elements.proofs.Exact.{Reads, then_end, no_choice}
use Rattle.elements.proofs.Tagged.{read-tagged, tagged-read, tag-choice}

last-few : (kind : RecordKind) → last_tag kind ≤ 179
last-few R.DefLine = omega arith
last-few R.GiimportId = omega arith
last-few R.TextseqId = omega arith
last-few R.PatentSeqId = omega arith
last-few R.IdPat = omega arith
last-few R.Dbtag = omega arith
last-few R.PdbSeqId = omega arith
last-few R.DateStd = omega arith

-- Reading the fields from the tag `low` on gives what `Fields` says.
pub record FieldsRead (depth : ℕ) (s : List ℕ) (kind : RecordKind) (low : ℕ) (Fields : ℕ → ℕ → Type 0) : Type 0 where
  pub sound : (turns p n : ℕ) → list_end (read (suc depth) (F.Field kind) s) (F.Record kind) turns low s p ≡ Ok n → Fields p n
  pub full : (turns p n : ℕ) → length s < turns + p → Fields p n → list_end (read (suc depth) (F.Field kind) s) (F.Record kind) turns low s p ≡ Ok n

module _ (depth : ℕ) (s : List ℕ) (kind : RecordKind) where
  abbrev fields_end : ℕ → ℕ → ℕ → Result ℕ Refusal
  fields_end turns low p = list_end (read (suc depth) (F.Field kind) s) (F.Record kind) turns low s p

  first-none : {A : Type 0} (low p n : ℕ) → fields_end 0 low p ≡ Ok n → A
  unfolding list_end
  first-none low p n e = bad-not_end n e

  -- a field may stand where it is the next one
  follows : (low b : ℕ) → b ≡ low → may_follow (F.Record kind) low b ≡ true
  follows low b q =
      let l : low ≤ b = omega arith in
      bool_cases (leb (optional_from kind) low) (λ o. rw (le-leb _ _ l, o)) (λ o. rw (le-leb _ _ l, o, eq-eqb _ _ q))

  -- a field by its tag
  field_there : (p m : ℕ) {One : ℕ → ℕ → Type 0} (low : ℕ) → get_or s p 0 ≡ low → Reads (read depth (field_body kind low) s) One
      → read (suc depth) (F.Field kind) s p ≡ Ok m → ChoiceElement One s low p m
  field_there p m low q r e =
      let x = read-tagged depth s (F.Field kind) (last_tag kind) (λ b. refl) p m e in
      tag-choice x low (sym x.there.is ∙ q) r

  -- one field, and what is behind it
  first_read : (turns low p n : ℕ) {One : ℕ → ℕ → Type 0} → 160 ≤ low → get_or s p 0 ≡ low → Reads (read depth (field_body kind low) s) One
      → fields_end (suc turns) low p ≡ Ok n → (m : ℕ) × ChoiceElement One s low p m × (fields_end turns (low + 1) m ≡ Ok n)
  unfolding list_end
  first_read turns low p n a q r e =
      let shut = byte_not_close s p (λ z. omega arith) in
      let t = then_end (read (suc depth) (F.Field kind) s p) (λ m. fields_end turns (get_or s p 0 + 1) m) n (rw (shut, follows low (get_or s p 0) q) at e) in
      (t.0, field_there p t.0 low q r t.1, subst (λ (k : ℕ). fields_end turns (k + 1) t.0 ≡ Ok n) q t.2)

  read_first : (turns low p m n : ℕ) {One : ℕ → ℕ → Type 0} → 160 ≤ low → low ≤ last_tag kind → Reads (read depth (field_body kind low) s) One
      → length s < turns + p → ChoiceElement One s low p m
      → ((left : ℕ) → length s < left + m → fields_end left (low + 1) m ≡ Ok n) → fields_end turns low p ≡ Ok n
  unfolding list_end
  read_first zero low p m n a h r l c more = let w = c.tagged.there in absurd (omega arith)
  read_first (suc turns) low p m n a h r l c more =
      let e = tagged-read depth s (F.Field kind) (last_tag kind) (λ b. refl) low p m (last-few kind) a h r c in
      let w = ends-within (suc depth) (F.Field kind) s p m e in
      let q : get_or s p 0 ≡ low = c.tagged.is in
      rw (byte_not_close s p (λ z. omega arith), follows low (get_or s p 0) q, e)
      (subst (λ (k : ℕ). fields_end turns (k + 1) m ≡ Ok n) (sym q) (more turns (omega (arith, w.0))))

  -- where an optional field is not the next one, it is past
  lower : (turns low p : ℕ) → optional_from kind ≤ low → (get_or s p 0 ≡ low → ⊥) → fields_end turns low p ≡ fields_end turns (low + 1) p
  unfolding list_end
  lower zero low p o n = refl
  lower (suc turns) low p o n =
      let more : optional_from kind ≤ low + 1 = omega arith in
      let same : leb low (get_or s p 0) ≡ leb (low + 1) (get_or s p 0) =
      bool_cases (leb (low + 1) (get_or s p 0))
      (λ t. let h : low + 1 ≤ get_or s p 0 = leb-true _ _ t in let l : low ≤ get_or s p 0 = omega arith in rw (le-leb _ _ l, t))
      (λ f. let h : get_or s p 0 < low + 1 = leb-false _ _ f in let l : get_or s p 0 < low = omega arith in rw (lt-leb _ _ l, f)) in
      rw (le-leb _ _ o, le-leb _ _ more, same)

  -- and it is not the next one where it is past
  past : (turns low p n : ℕ) → 160 ≤ low → fields_end turns (low + 1) p ≡ Ok n → get_or s p 0 ≡ low → ⊥
  unfolding list_end
  past zero low p n a e q = bad-not_end n e
  past (suc turns) low p n a e q =
      let below : get_or s p 0 < low + 1 = omega arith in
      bad-not_end n (rw (byte_not_close s p (λ z. omega arith), lt-leb _ _ below) at e)

  module _ (low : ℕ) {One More : ℕ → ℕ → Type 0} (r : Reads (read depth (field_body kind low) s) One) (more : FieldsRead depth s kind (low + 1) More) where
    -- a required field that is not the next one
    missed : (turns p n : ℕ) {A : Type 0} → low < optional_from kind → (get_or s p 0 ≡ low → ⊥) → fields_end turns low p ≡ Ok n → A
    unfolding list_end
    missed zero p n short q e = bad-not_end n e
    missed (suc turns) p n {A} short q e =
        let P : Result ℕ Refusal → Type 0 = λ x. x ≡ Ok n → A in
        cond_elim P (closes s p) (λ _ e. bad-not_end n (rw (lt-leb _ _ short) at e))
        (λ _. cond_elim P (may_follow (F.Record kind) low (get_or s p 0))
        (λ f _. never (rw (lt-leb _ _ short, ne_eqb _ _ q) at (both_pass (leb low (get_or s p 0)) _ f).1)) (λ _ e. bad-not_end n e))
        e

    needed : (turns p n : ℕ) → 160 ≤ low → low < optional_from kind → fields_end turns low p ≡ Ok n → Required s low One More p n
    needed zero p n a short e = first-none low p n e
    needed (suc turns) p n a short e =
        bool_cases (eqb (get_or s p 0) low)
        (λ q. let t = first_read turns low p n a (eqb-true _ _ q) r e in
        record { stop = t.0; first = t.1; more = more.sound turns t.0 n t.2 })
        (λ q. missed (suc turns) p n short (eqb-false _ _ q) e)

    pub required : in_range 160 (last_tag kind) low && leb (low + 1) (optional_from kind) ≡ true → FieldsRead depth s kind low (Required s low One More)
    required w =
        let b = both_pass (in_range 160 (last_tag kind) low) (leb (low + 1) (optional_from kind)) w in
        let g = range_parts 160 (last_tag kind) low b.0 in
        let h = leb-true (low + 1) (optional_from kind) b.1 in
        record {
          sound = λ turns p n e. needed turns p n g.0 (omega arith) e;
          full = λ turns p n l t. read_first turns low p t.stop n g.0 g.1 r l t.first (λ left h. more.full left t.stop n h t.more);
        }

    perhaps : (turns p n : ℕ) → 160 ≤ low → optional_from kind ≤ low → fields_end turns low p ≡ Ok n → Optional s low One More p n
    perhaps zero p n a o e = first-none low p n e
    perhaps (suc turns) p n a o e =
        bool_cases (eqb (get_or s p 0) low)
        (λ q. let t = first_read turns low p n a (eqb-true _ _ q) r e in
        record { stop = t.0; first = Z.given t.1; more = more.sound turns t.0 n t.2 })
        (λ q. record { stop = p; first = Z.absent refl; more = more.sound (suc turns) p n (sym (lower (suc turns) low p o (eqb-false _ _ q)) ∙ e) })

    put : (turns p n : ℕ) → 160 ≤ low → low ≤ last_tag kind → optional_from kind ≤ low → length s < turns + p
        → (stop : ℕ) → Maybe (ChoiceElement One s low) p stop → More stop n → fields_end turns low p ≡ Ok n
    put turns p n a h o l stop (Z.given c) m = read_first turns low p stop n a h r l c (λ left k. more.full left stop n k m)
    put turns p n a h o l stop (Z.absent q) m =
        let e : fields_end turns (low + 1) p ≡ Ok n = more.full turns p n l (subst (λ (k : ℕ). More k n) (sym q) m) in
        lower turns low p o (past turns low p n a e) ∙ e

    pub optional : in_range 160 (last_tag kind) low && leb (optional_from kind) low ≡ true → FieldsRead depth s kind low (Optional s low One More)
    optional w =
        let b = both_pass (in_range 160 (last_tag kind) low) (leb (optional_from kind) low) w in
        let g = range_parts 160 (last_tag kind) low b.0 in
        let o : optional_from kind ≤ low = leb-true _ _ b.1 in
        record { sound = λ turns p n e. perhaps turns p n g.0 o e; full = λ turns p n l t. put turns p n g.0 g.1 o l t.stop t.first t.more }

  -- no field is left
  module _ (low : ℕ) where
    done : (turns p n : ℕ) → last_tag kind < low → leb (optional_from kind) low ≡ true → fields_end turns low p ≡ Ok n → Ended s p n
    unfolding list_end
    done zero p n h o e = bad-not_end n e
    done (suc turns) p n h o e =
        let P : Result ℕ Refusal → Type 0 = λ x. x ≡ Ok n → Ended s p n in
        cond_elim P (closes s p) (λ c e. record { close = close-bytes s p c; ends = same_end _ n (rw o at e) })
        (λ _. cond_elim P (may_follow (F.Record kind) low (get_or s p 0))
        (λ f e.
        let t = then_end (read (suc depth) (F.Field kind) s p) (λ m. fields_end turns (get_or s p 0 + 1) m) n e in
        let x = read-tagged depth s (F.Field kind) (last_tag kind) (λ b. refl) p t.0 t.1 in
        let l = leb-true low (get_or s p 0) (both_pass (leb low (get_or s p 0)) _ f).0 in
        absurd (omega (arith, x.most, x.there.is)))
        (λ _ e. bad-not_end n e))
        e

    close : (turns p n : ℕ) → leb (optional_from kind) low ≡ true → length s < turns + p → Ended s p n → fields_end turns low p ≡ Ok n
    unfolding list_end
    close zero p n o l t = let w = t.close.first.there in absurd (omega arith)
    close (suc turns) p n o l t = rw (bytes-close s p t.close, o) (ap Ok t.ends)

    pub ended : leb (last_tag kind + 1) low && leb (optional_from kind) low ≡ true → FieldsRead depth s kind low (Ended s)
    ended w =
        let b = both_pass (leb (last_tag kind + 1) low) (leb (optional_from kind) low) w in
        let h = leb-true (last_tag kind + 1) low b.0 in
        record { sound = λ turns p n e. done turns p n (omega arith) b.1 e; full = λ turns p n l t. close turns p n b.1 l t }

  -- the record with its fields
  pub record-reads : {Fields : ℕ → ℕ → Type 0} → FieldsRead depth s kind 160 Fields → Reads (read (suc (suc depth)) (F.Record kind) s) (RecordElement Fields s)
  record-reads {Fields} r =
      record {
        sound = λ at n e. go at n (read_began (suc depth) (F.Record kind) s at n e);
        full = λ at n l. began_read (suc depth) (F.Record kind) s at n
            (B.list refl l.tag l.opened (r.full (length s) (at + 2) n (omega arith) l.fields));
      }
    where
      go : (at n : ℕ) → Began (λ i p. read (suc depth) i s p) (F.Record kind) s at n → RecordElement Fields s at n
      go at n (B.integer m y e) = never m
      go at n (B.text m y e) = never m
      go at n (B.list m y o e) = record { tag = y; opened = o; fields = r.sound (length s) (at + 2) n e }
      go at n (B.choice tag l h m y o e) = no_choice 48 tag (omega arith) l m
