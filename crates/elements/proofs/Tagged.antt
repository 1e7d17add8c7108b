-- Choices and fields: an element by its tag. Assumes nothing.
use mathlib.Core.Path.{◌≡◌, sym, subst, ◌∙◌}
use mathlib.Core.List.{List}
use Prim.Native.Nat.{ℕ, suc, ◌+◌, ◌≤◌}
use native.Mathlib.Omega.{arith}
use borrow.Author.Tests.{le-leb, eqb-true, eqb-false}
use lib.Dec.{eqb}
use Rattle.laws.proofs.Tests.{never, bool_cases}
use Rattle.std.specs.Prelude.{Ok}
use Rattle.elements.specs.declared.Form.{Form}
use Rattle.elements.specs.Grammar.{in_range, may_begin, inside}
use Rattle.elements.specs.Reading.{closed_at, read}
use Rattle.elements.specs.Statement.{Byte, ChoiceElement, EitherElement}
use Rattle.elements.specs.Statement as Z
use Rattle.elements.proofs.Parts.{range_parts}
use Rattle.elements.proofs.Began.{Began, read_began, began_read}
use Rattle.elements.proofs.Began as B
use Rattle.elements.proofs.Exact.{Reads, choice_sound, choice_full}

-- An element that was read by a form whose tags are A0 to a last one.
pub record TagRead (depth : ℕ) (form : Form) (last : ℕ) (s : List ℕ) (at n : ℕ) : Type 0 where
  pub tag : ℕ
  pub first : 160 ≤ tag
  pub most : tag ≤ last
  pub there : Byte s at tag
  pub opened : Byte s (at + 1) 128
  pub body : closed_at s (read depth (inside form tag) s (at + 2)) ≡ Ok n

module _ (depth : ℕ) (s : List ℕ) (form : Form) (last : ℕ) (begin : (b : ℕ) → may_begin form b ≡ in_range 160 last b) where
  -- it begins with one of these tags
  pub read-tagged : (at n : ℕ) → read (suc depth) form s at ≡ Ok n → TagRead depth form last s at n
  read-tagged at n e = go (read_began depth form s at n e)
    where
      go : Began (λ i p. read depth i s p) form s at n → TagRead depth form last s at n
      go (B.integer m y e) = never (sym (begin 2) ∙ m)
      go (B.text m y e) = never (sym (begin 26) ∙ m)
      go (B.list m y o e) = never (sym (begin 48) ∙ m)
      go (B.choice tag l h m y o e) =
          record { tag = tag; first = l; most = (range_parts 160 last tag (sym (begin tag) ∙ m)).1; there = y; opened = o; body = e }

  -- and is read where its tag is one of them
  pub tagged-read : {One : ℕ → ℕ → Type 0} (tag at n : ℕ) → last ≤ 179 → 160 ≤ tag → tag ≤ last → Reads (read depth (inside form tag) s) One
      → ChoiceElement One s tag at n → read (suc depth) form s at ≡ Ok n
  tagged-read {One} tag at n few l h r c =
      began_read depth form s at n
      (B.choice tag l (omega arith) (begin tag ∙ rw (le-leb _ _ l, le-leb _ _ h)) c.tagged c.opened
      (choice_full depth (inside form tag) s One r tag at n c))

-- the choice of a tag that is known
pub tag-choice : {depth last : ℕ} {form : Form} {s : List ℕ} {at n : ℕ} (x : TagRead depth form last s at n) {One : ℕ → ℕ → Type 0} (k : ℕ) → x.tag ≡ k
    → Reads (read depth (inside form k) s) One → ChoiceElement One s k at n
tag-choice {depth} {last} {form} {s} {at} {n} x {One} k q r =
    choice_sound depth (inside form k) s One r k at n (subst (λ (y : ℕ). Byte s at y) q x.there) x.opened
    (subst (λ (y : ℕ). closed_at s (read depth (inside form y) s (at + 2)) ≡ Ok n) q x.body)

-- tags from A0 on, one after another
pub tag_cases : {A : Type 0} (k tag : ℕ) → k ≤ tag → (tag ≡ k → A) → (k + 1 ≤ tag → A) → A
tag_cases k tag l here later = bool_cases (eqb tag k) (λ q. here (eqb-true tag k q)) (λ q. let n = eqb-false tag k q in later (omega arith))

-- a choice of two, A0 and A1
pub either_reads : (depth : ℕ) (s : List ℕ) (form : Form) → ((b : ℕ) → may_begin form b ≡ in_range 160 161 b) → {First Second : ℕ → ℕ → Type 0}
    → Reads (read depth (inside form 160) s) First → Reads (read depth (inside form 161) s) Second
    → Reads (read (suc depth) form s) (EitherElement First Second s)
either_reads depth s form begin {First} {Second} one two = record { sound = go; full = back }
  where
    go : (at n : ℕ) → read (suc depth) form s at ≡ Ok n → EitherElement First Second s at n
    go at n e =
        let x = read-tagged depth s form 161 begin at n e in
        tag_cases 160 x.tag x.first (λ q. Z.first (tag-choice x 160 q one))
        (λ l. let m = x.most in let q : x.tag ≡ 161 = omega arith in Z.second (tag-choice x 161 q two))

    back : (at n : ℕ) → EitherElement First Second s at n → read (suc depth) form s at ≡ Ok n
    back at n (Z.first c) = tagged-read depth s form 161 begin 160 at n (omega arith) (omega arith) (omega arith) one c
    back at n (Z.second c) = tagged-read depth s form 161 begin 161 at n (omega arith) (omega arith) (omega arith) two c
