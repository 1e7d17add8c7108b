-- The reader reads an element to a place exactly where the plain statement has it end there. Assumes nothing.
use mathlib.Core.Path.{◌≡◌, refl, sym, subst, ap}
use mathlib.Core.List.{List}
use mathlib.Core.Bool.{true}
use Prim.Native.Nat.{ℕ, zero, suc, ◌+◌, ◌-◌, ◌≤◌, ◌<◌}
use native.Mathlib.Omega.{arith}
use borrow.Author.Tests.{lt-ltb, le-ltb, le-leb, ltb-true, leb-true, eqb-true}
use lib.ListN.{length, get_or, take, drop}
use lib.Dec.{ltb, leb, eqb}
use Rattle.laws.specs.Digits.{value}
use Rattle.laws.proofs.Tests.{never, cond_passed}
use Rattle.laws.proofs.Choices.{cond_elim}
use Rattle.std.specs.Prelude.{Result, Ok, Err}
use Rattle.answers.specs.declared.Refusal.{Refusal}
use Rattle.elements.specs.declared.Span.{Span}
use Rattle.elements.specs.declared.Form.{Form}
use Rattle.elements.specs.declared.Form.TheVariants as F
use Rattle.elements.specs.Grammar.{in_range, may_follow, may_close}
use Rattle.elements.specs.Parts.{bytes_of, part_at, integer_part, long_part, text_part}
use Rattle.elements.specs.Reading.{closes, end_of, and_then, closed_at, list_end, read}
use Rattle.elements.specs.Statement.{Byte, IntegerElement, TextElement, Items, ListElement, ChoiceElement, AnyElement, Nested}
use Rattle.elements.specs.Statement as Z
use Rattle.elements.proofs.Parts.{integer-read, allowed-bytes, bytes-allowed, range_parts}
use Rattle.elements.proofs.Reading.{ends-within}
use Rattle.elements.proofs.Began.{close-bytes, bytes-close, byte_not_close, bad-not_end, same_end, Began, read_began, began_read, read_none, read_byte}
use Rattle.elements.proofs.Began as B

-- ---- integers and texts

end_part : (x : Result Span Refusal) (n : ℕ) → end_of x ≡ Ok n → (t : Span) × (x ≡ Ok t) × (t.start + t.len ≡ n)
end_part (Ok t) n e = (t, refl, same_end _ n e)
end_part (Err r) n e = absurd (let z : ◌≡◌ {A = ℕ} 0 1 = cc in omega arith)

two : (at : ℕ) → at + 1 + 1 ≡ at + 2
two at = omega arith

module _ (s : List ℕ) (at n : ℕ) where
  integer_sound : Byte s at 2 → end_of (integer_part s (at + 1)) ≡ Ok n → IntegerElement s at n
  integer_sound y e =
      let p = end_part (integer_part s (at + 1)) n e in
      let r = integer-read s (at + 1) p.0 p.1 in
      let a = r.starts in
      let b = r.sized in
      let c = p.2 in
      let f = r.fits in
      record {
        tag = y;
        sized = r.there;
        ends = omega arith;
        fits = omega arith;
        allowed = subst (λ (k : ℕ). Z.IntegerBytes (take (get_or s (at + 1) 0) (drop k s))) (two at) (allowed-bytes _ r.allowed);
      }

  integer_full : IntegerElement s at n → end_of (integer_part s (at + 1)) ≡ Ok n
  unfolding integer_part
  integer_full i =
      let a = i.ends in
      let f = i.fits in
      let h : at + 1 + 1 + get_or s (at + 1) 0 ≤ length s = omega arith in
      let q : at + 1 + 1 + get_or s (at + 1) 0 ≡ n = omega arith in
      let w : Z.IntegerBytes (bytes_of s (at + 1 + 1) (get_or s (at + 1) 0)) =
      subst (λ (k : ℕ). Z.IntegerBytes (take (get_or s (at + 1) 0) (drop k s))) (sym (two at)) i.allowed in
      rw (lt-ltb _ _ i.sized, le-leb _ _ h, bytes-allowed _ w) (ap Ok q)

  part_sound : (p k : ℕ) → end_of (part_at s p k) ≡ Ok n → (p + k ≡ n) × (n ≤ length s)
  unfolding part_at
  part_sound p k =
      cond_elim (λ (x : Result Span Refusal). end_of x ≡ Ok n → (p + k ≡ n) × (n ≤ length s)) (leb (p + k) (length s))
      (λ t e. let q : p + k ≡ n = same_end _ n e in (q, subst (λ (m : ℕ). m ≤ length s) q (leb-true _ _ t))) (λ _ e. bad-not_end n e)

  part_full : (p k : ℕ) → p + k ≡ n → n ≤ length s → end_of (part_at s p k) ≡ Ok n
  unfolding part_at
  part_full p k q h = let l : p + k ≤ length s = omega arith in rw (le-leb _ _ l) (ap Ok q)

  text-long : (b : ℕ) → Byte s at 26 → Byte s (at + 1) b → in_range 129 132 b ≡ true → end_of (long_part s (at + 1 + 1) (b - 128)) ≡ Ok n → TextElement s at n
  unfolding long_part
  text-long b y z r =
      let g = range_parts 129 132 b r in
      cond_elim (λ (x : Result Span Refusal). end_of x ≡ Ok n → TextElement s at n) (leb (at + 1 + 1 + (b - 128)) (length s))
      (λ _ e.
      let p = part_sound (at + 1 + 1 + (b - 128)) (value 8 0 (bytes_of s (at + 1 + 1) (b - 128))) e in
      let w : 128 + (b - 128) ≡ b = omega (arith, g) in
      let v : at + 2 + (b - 128) + value 8 0 (take (b - 128) (drop (at + 2) s)) ≡ n =
      subst (λ (k : ℕ). k + (b - 128) + value 8 0 (take (b - 128) (drop k s)) ≡ n) (two at) p.0 in
      Z.long (b - 128) y (omega (arith, g)) (omega (arith, g)) (subst (λ (k : ℕ). Byte s (at + 1) k) (sym w) z) v p.1)
      (λ _ e. bad-not_end n e)

  text_sound : Byte s at 26 → end_of (text_part s (at + 1)) ≡ Ok n → TextElement s at n
  unfolding text_part
  text_sound y =
      let b = get_or s (at + 1) 0 in
      let P : Result Span Refusal → Type 0 = λ x. end_of x ≡ Ok n → TextElement s at n in
      cond_elim P (ltb (at + 1) (length s))
      (λ t. let h : at + 1 < length s = ltb-true _ _ t in
      cond_elim P (ltb b 128)
      (λ l e. let p = part_sound (at + 1 + 1) b e in let q = p.0 in Z.short y h (ltb-true _ _ l) (omega arith) p.1)
      (λ _. cond_elim P (in_range 129 132 b) (λ r e. text-long b y (record { there = h; is = refl }) r e) (λ _ e. bad-not_end n e)))
      (λ _ e. bad-not_end n e)

  text_full : TextElement s at n → end_of (text_part s (at + 1)) ≡ Ok n
  unfolding text_part long_part
  text_full (Z.short y h l q f) = rw (lt-ltb _ _ h, lt-ltb _ _ l) (part_full (at + 1 + 1) (get_or s (at + 1) 0) (omega arith) f)
  text_full (Z.long k y a b z q f) =
      let i = z.is in
      let n128 : 128 ≤ get_or s (at + 1) 0 = omega arith in
      let lo : 129 ≤ get_or s (at + 1) 0 = omega arith in
      let hi : get_or s (at + 1) 0 ≤ 132 = omega arith in
      let w : get_or s (at + 1) 0 - 128 ≡ k = omega arith in
      let u : at + 1 + 1 + k + value 8 0 (bytes_of s (at + 1 + 1) k) ≡ n =
      subst (λ (m : ℕ). m + k + value 8 0 (take k (drop m s)) ≡ n) (sym (two at)) q in
      let v : at + 1 + 1 + k ≤ length s = omega arith in
      rw (lt-ltb _ _ z.there, le-ltb _ _ n128, le-leb _ _ lo, le-leb _ _ hi, w, le-leb _ _ v)
      (part_full (at + 1 + 1 + k) (value 8 0 (bytes_of s (at + 1 + 1) k)) u f)

-- ---- a reader that reads exactly what a relation says

pub record Reads (inner : ℕ → Result ℕ Refusal) (One : ℕ → ℕ → Type 0) : Type 0 where
  pub sound : (q m : ℕ) → inner q ≡ Ok m → One q m
  pub full : (q m : ℕ) → One q m → inner q ≡ Ok m

pub then_end : (x : Result ℕ Refusal) (more : ℕ → Result ℕ Refusal) (n : ℕ) → and_then x more ≡ Ok n → (m : ℕ) × (x ≡ Ok m) × (more m ≡ Ok n)
then_end (Ok m) more n e = (m, refl, e)
then_end (Err r) more n e = absurd (let z : ◌≡◌ {A = ℕ} 0 1 = cc in omega arith)

pub closed_end : (s : List ℕ) (x : Result ℕ Refusal) (n : ℕ) → closed_at s x ≡ Ok n → (m : ℕ) × (x ≡ Ok m) × (closes s m ≡ true) × (m + 2 ≡ n)
closed_end s (Ok m) n e =
    let p = cond_passed (closes s m) (λ z. bad-not_end n z) e in
    (m, refl, p.0, same_end _ n p.1)
closed_end s (Err r) n e = absurd (let z : ◌≡◌ {A = ℕ} 0 1 = cc in omega arith)

module _ (depth : ℕ) (i : Form) (s : List ℕ) (One : ℕ → ℕ → Type 0) (r : Reads (read depth i s) One) where
  -- elements up to 00 00, where any may follow any, and be the last
  module _ (form : Form) (follow : (low b : ℕ) → may_follow form low b ≡ true) (last : (low : ℕ) → may_close form low ≡ true) where
    items_sound : (turns low p n : ℕ) → list_end (read depth i s) form turns low s p ≡ Ok n → Items One s p n
    unfolding list_end
    items_sound zero low p n e = bad-not_end n e
    items_sound (suc turns) low p n e =
        let P : Result ℕ Refusal → Type 0 = λ x. x ≡ Ok n → Items One s p n in
        cond_elim P (closes s p) (λ c e. Z.close (close-bytes s p c) (same_end _ n (rw (last low) at e)))
        (λ _. cond_elim P (may_follow form low (get_or s p 0))
        (λ _ e.
        let t = then_end (read depth i s p) (λ m. list_end (read depth i s) form turns (get_or s p 0 + 1) s m) n e in
        Z.item (r.sound p t.0 t.1) (items_sound turns (get_or s p 0 + 1) t.0 n t.2))
        (λ _ e. bad-not_end n e))
        e

    items_full : (turns low p n : ℕ) → length s < turns + p → Items One s p n → list_end (read depth i s) form turns low s p ≡ Ok n
    unfolding list_end
    items_full zero low p n l (Z.close c q) = let w = c.first.there in absurd (omega arith)
    items_full (suc turns) low p n l (Z.close c q) = rw (bytes-close s p c, last low) (ap Ok q)
    items_full zero low p n l (Z.item {q} o t) = let w = ends-within depth i s p q (r.full p q o) in absurd (omega arith)
    items_full (suc turns) low p n l (Z.item {q} o t) =
        let e = r.full p q o in
        let w = ends-within depth i s p q e in
        rw (byte_not_close s p (read_byte depth i s p q e), follow low (get_or s p 0), e) (items_full turns (get_or s p 0 + 1) q n (omega (arith, w.0)) t)

    pub list_sound : (at n : ℕ) → Byte s at 48 → Byte s (at + 1) 128 → list_end (read depth i s) form (length s) 160 s (at + 2) ≡ Ok n → ListElement One s at n
    list_sound at n y o e = record { tag = y; opened = o; items = items_sound (length s) 160 (at + 2) n e }

    pub list_full : (at n : ℕ) → ListElement One s at n → list_end (read depth i s) form (length s) 160 s (at + 2) ≡ Ok n
    list_full at n l = items_full (length s) 160 (at + 2) n (omega arith) l.items

  -- one element and 00 00
  pub choice_sound : (tag at n : ℕ) → Byte s at tag → Byte s (at + 1) 128 → closed_at s (read depth i s (at + 2)) ≡ Ok n → ChoiceElement One s tag at n
  choice_sound tag at n y o e =
      let c = closed_end s (read depth i s (at + 2)) n e in
      record { tagged = y; opened = o; stop = c.0; one = r.sound (at + 2) c.0 c.1; closed = close-bytes s c.0 c.2; ends = c.3 }

  pub choice_full : (tag at n : ℕ) → ChoiceElement One s tag at n → closed_at s (read depth i s (at + 2)) ≡ Ok n
  choice_full tag at n c = rw (r.full (at + 2) c.stop c.one, bytes-close s c.stop c.closed) (ap Ok c.ends)

-- ---- the forms with nothing inside, and the nesting

-- a choice's tag is no 02, 1A or 30
pub no_choice : {A : Type 0} (k tag : ℕ) → k < 160 → 160 ≤ tag → eqb tag k ≡ true → A
no_choice k tag h l e = absurd (let q : tag ≡ k = eqb-true tag k e in omega arith)

module _ (depth : ℕ) (s : List ℕ) where
  pub integer-reads : Reads (read (suc depth) F.Integer s) (IntegerElement s)
  integer-reads =
      record {
        sound = λ at n e. go at n (read_began depth F.Integer s at n e);
        full = λ at n i. began_read depth F.Integer s at n (B.integer refl i.tag (integer_full s at n i));
      }
    where
      go : (at n : ℕ) → Began (λ i p. read depth i s p) F.Integer s at n → IntegerElement s at n
      go at n (B.integer m y e) = integer_sound s at n y e
      go at n (B.text m y e) = never m
      go at n (B.list m y o e) = never m
      go at n (B.choice tag l h m y o e) = no_choice 2 tag (omega arith) l m

  text-tag : (at n : ℕ) → TextElement s at n → Byte s at 26
  text-tag at n (Z.short y h l q f) = y
  text-tag at n (Z.long k y a b z q f) = y

  pub text-reads : Reads (read (suc depth) F.Text s) (TextElement s)
  text-reads =
      record {
        sound = λ at n e. go at n (read_began depth F.Text s at n e);
        full = λ at n t. began_read depth F.Text s at n (B.text refl (text-tag at n t) (text_full s at n t));
      }
    where
      go : (at n : ℕ) → Began (λ i p. read depth i s p) F.Text s at n → TextElement s at n
      go at n (B.integer m y e) = never m
      go at n (B.text m y e) = text_sound s at n y e
      go at n (B.list m y o e) = never m
      go at n (B.choice tag l h m y o e) = no_choice 26 tag (omega arith) l m

pub nested_reads : (depth : ℕ) (s : List ℕ) → Reads (read depth F.Any s) (Nested depth s)
nested_reads zero s = record { sound = λ at n e. read_none F.Any s at n e; full = λ at n e. absurd e }
nested_reads (suc depth) s =
    let r = nested_reads depth s in
    record { sound = λ at n e. go r at n (read_began depth F.Any s at n e); full = λ at n e. began_read depth F.Any s at n (back r at n e) }
  where
    go : Reads (read depth F.Any s) (Nested depth s) → (at n : ℕ) → Began (λ i p. read depth i s p) F.Any s at n → AnyElement (Nested depth s) s at n
    go r at n (B.integer m y e) = Z.integer (integer_sound s at n y e)
    go r at n (B.text m y e) = Z.text (text_sound s at n y e)
    go r at n (B.list m y o e) = Z.list (list_sound depth F.Any s (Nested depth s) r F.Any (λ low b. refl) (λ low. refl) at n y o e)
    go r at n (B.choice tag l h m y o e) = Z.choice tag l h (choice_sound depth F.Any s (Nested depth s) r tag at n y o e)

    back : Reads (read depth F.Any s) (Nested depth s) → (at n : ℕ) → AnyElement (Nested depth s) s at n → Began (λ i p. read depth i s p) F.Any s at n
    back r at n (Z.integer i) = B.integer refl i.tag (integer_full s at n i)
    back r at n (Z.text t) = B.text refl (text-tag depth s at n t) (text_full s at n t)
    back r at n (Z.list l) = B.list refl l.tag l.opened (list_full depth F.Any s (Nested depth s) r F.Any (λ low b. refl) (λ low. refl) at n l)
    back r at n (Z.choice tag l h c) = B.choice tag l h refl c.tagged c.opened (choice_full depth F.Any s (Nested depth s) r tag at n c)
