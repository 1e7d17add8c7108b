-- An element that is read to its end, taken apart by how it begins, and put together again. Assumes nothing.
use mathlib.Core.Path.{◌≡◌, refl, sym, subst, ◌∙◌}
use mathlib.Core.List.{List}
use mathlib.Core.Bool.{true, false, ◌&&◌}
use Prim.Native.Nat.{ℕ, zero, suc, ◌+◌, ◌≤◌, ◌<◌}
use native.Mathlib.Omega.{arith}
use borrow.Author.Tests.{lt-ltb, le-leb, eq-eqb, ne_eqb, ltb-true, eqb-true}
use lib.ListN.{length, get_or}
use lib.Dec.{ltb, eqb}
use Rattle.laws.proofs.Tests.{both_pass, bool_cases}
use Rattle.laws.proofs.Choices.{cond_elim}
use Rattle.std.specs.Prelude.{Result, Ok}
use Rattle.answers.specs.declared.Refusal.{Refusal}
use Rattle.elements.specs.declared.Start.{Start}
use Rattle.elements.specs.declared.Form.{Form}
use Rattle.elements.specs.Grammar.{in_range, may_begin, inside}
use Rattle.elements.specs.Parts.{integer_part, text_part}
use Rattle.elements.specs.Reading.{bad, opens, closes, begins, too_deep, end_of, start_of, closed_at, list_end, rest_of, read}
use Rattle.elements.specs.Statement.{Byte, Close}
use Rattle.elements.proofs.Parts.{range_parts}
use Rattle.elements.proofs.Reading.{opens-within, rest_started}

-- ---- bytes

pub open_byte : (s : List ℕ) (at : ℕ) → opens s at ≡ true → Byte s at 128
open_byte s at e = let p = opens-within s at e in record { there = p.0; is = p.1 }

pub byte_open : (s : List ℕ) (at : ℕ) → Byte s at 128 → opens s at ≡ true
unfolding opens
byte_open s at b = rw (lt-ltb _ _ b.there, eq-eqb _ _ b.is)

pub close-bytes : (s : List ℕ) (at : ℕ) → closes s at ≡ true → Close s at
unfolding closes
close-bytes s at e =
    let p = both_pass (ltb (at + 1) (length s) && eqb (get_or s at 0) 0) (eqb (get_or s (at + 1) 0) 0) e in
    let q = both_pass (ltb (at + 1) (length s)) (eqb (get_or s at 0) 0) p.0 in
    let h : at + 1 < length s = ltb-true (at + 1) (length s) q.0 in
    record {
      first = record { there = omega arith; is = eqb-true (get_or s at 0) 0 q.1 };
      second = record { there = h; is = eqb-true (get_or s (at + 1) 0) 0 p.1 };
    }

pub bytes-close : (s : List ℕ) (at : ℕ) → Close s at → closes s at ≡ true
unfolding closes
bytes-close s at c = rw (lt-ltb _ _ c.second.there, eq-eqb _ _ c.first.is, eq-eqb _ _ c.second.is)

-- a byte that is not 0 closes nothing
pub byte_not_close : (s : List ℕ) (at : ℕ) → (get_or s at 0 ≡ 0 → ⊥) → closes s at ≡ false
byte_not_close s at n = bool_cases (closes s at) (λ t. absurd (n (close-bytes s at t).first.is)) (λ f. f)

pub bad-not_end : {A : Type 0} (n : ℕ) → bad ≡ Ok n → A
bad-not_end n e = absurd (let z : ◌≡◌ {A = ℕ} 0 1 = cc in omega arith)

pub same_end : (m n : ℕ) → ◌≡◌ {A = Result ℕ Refusal} (Ok m) (Ok n) → m ≡ n
same_end m n e = cc

-- ---- how an element that ends has begun

pub data Began (inner : Form → ℕ → Result ℕ Refusal) (form : Form) (s : List ℕ) (at n : ℕ) : Type 0 where
  integer : may_begin form 2 ≡ true → Byte s at 2 → end_of (integer_part s (at + 1)) ≡ Ok n → Began inner form s at n
  text : may_begin form 26 ≡ true → Byte s at 26 → end_of (text_part s (at + 1)) ≡ Ok n → Began inner form s at n
  list : may_begin form 48 ≡ true → Byte s at 48 → Byte s (at + 1) 128 → list_end (inner (inside form 48)) form (length s) 160 s (at + 2) ≡ Ok n
      → Began inner form s at n
  choice : (tag : ℕ) → 160 ≤ tag → tag ≤ 179 → may_begin form tag ≡ true → Byte s at tag → Byte s (at + 1) 128
      → closed_at s (inner (inside form tag) (at + 2)) ≡ Ok n → Began inner form s at n

module _ (inner : Form → ℕ → Result ℕ Refusal) (form : Form) (s : List ℕ) (at n : ℕ) where
  began_list : (b : ℕ) → b ≡ 48 → may_begin form b ≡ true → Byte s at b → Byte s (at + 1) 128
      → list_end (inner (inside form b)) form (length s) 160 s (at + 2) ≡ Ok n → Began inner form s at n
  began_list b q m y o e =
      list (subst (λ (x : ℕ). may_begin form x ≡ true) q m) (subst (λ (x : ℕ). Byte s at x) q y) o
      (subst (λ (x : ℕ). list_end (inner (inside form x)) form (length s) 160 s (at + 2) ≡ Ok n) q e)

  pub began : rest_of inner form s at (start_of form s at) ≡ Ok n → Began inner form s at n
  unfolding start_of
  began =
      let b = get_or s at 0 in
      let P : Result Start Refusal → Type 0 = λ x. rest_of inner form s at x ≡ Ok n → Began inner form s at n in
      cond_elim P (ltb at (length s) && may_begin form b)
      (λ t.
      let p = both_pass (ltb at (length s)) (may_begin form b) t in
      let y : Byte s at b = record { there = ltb-true at (length s) p.0; is = refl } in
      let known : (k : ℕ) → eqb b k ≡ true → (may_begin form k ≡ true) × Byte s at k =
      λ k q. (subst (λ (x : ℕ). may_begin form x ≡ true) (eqb-true b k q) p.1, subst (λ (x : ℕ). Byte s at x) (eqb-true b k q) y) in
      cond_elim P (eqb b 2) (λ q e. integer (known 2 q).0 (known 2 q).1 (sym (rest_started inner form s at _) ∙ e))
      (λ _. cond_elim P (eqb b 26) (λ q e. text (known 26 q).0 (known 26 q).1 (sym (rest_started inner form s at _) ∙ e))
      (λ _. cond_elim P (opens s (at + 1))
      (λ o. cond_elim P (eqb b 48) (λ q e. began_list b (eqb-true b 48 q) p.1 y (open_byte s (at + 1) o) e)
      (λ _. cond_elim P (in_range 160 179 b)
      (λ r e. choice b (range_parts 160 179 b r).0 (range_parts 160 179 b r).1 p.1 y (open_byte s (at + 1) o) e)
      (λ _ e. bad-not_end n e)))
      (λ _ e. bad-not_end n e))))
      (λ _ e. bad-not_end n e)

  pub ends : Began inner form s at n → rest_of inner form s at (start_of form s at) ≡ Ok n
  unfolding start_of
  ends (integer m y e) = rw (lt-ltb _ _ y.there, y.is, m) (rest_started inner form s at _ ∙ e)
  ends (text m y e) = rw (lt-ltb _ _ y.there, y.is, m) (rest_started inner form s at _ ∙ e)
  ends (list m y o e) = rw (lt-ltb _ _ y.there, y.is, m, byte_open s (at + 1) o) e
  ends (choice tag l h m y o e) =
      let n2 : tag ≡ 2 → ⊥ = λ z. omega arith in
      let n26 : tag ≡ 26 → ⊥ = λ z. omega arith in
      let n48 : tag ≡ 48 → ⊥ = λ z. omega arith in
      rw (lt-ltb _ _ y.there, y.is, m, ne_eqb _ _ n2, ne_eqb _ _ n26, ne_eqb _ _ n48, byte_open s (at + 1) o, le-leb _ _ l, le-leb _ _ h) e

-- an element that was read begins with a byte that is not 0
pub began_byte : {inner : Form → ℕ → Result ℕ Refusal} {form : Form} {s : List ℕ} {at n : ℕ} → Began inner form s at n → get_or s at 0 ≡ 0 → ⊥
began_byte (integer m y e) z = let q = y.is in omega arith
began_byte (text m y e) z = let q = y.is in omega arith
began_byte (list m y o e) z = let q = y.is in omega arith
began_byte (choice tag l h m y o e) z = let q = y.is in omega arith

-- and with none above B3
began-low : {inner : Form → ℕ → Result ℕ Refusal} {form : Form} {s : List ℕ} {at n : ℕ} → Began inner form s at n → get_or s at 0 ≤ 179
began-low (integer m y e) = let q = y.is in omega arith
began-low (text m y e) = let q = y.is in omega arith
began-low (list m y o e) = let q = y.is in omega arith
began-low (choice tag l h m y o e) = let q = y.is in omega arith

no_depth : (form : Form) (s : List ℕ) (at n : ℕ) → read 0 form s at ≡ Ok n → ⊥
unfolding read too_deep
no_depth form s at n =
    cond_elim (λ (x : Result ℕ Refusal). x ≡ Ok n → ⊥) (begins (get_or s at 0)) (λ _ e. let z : ◌≡◌ {A = ℕ} 0 1 = cc in omega arith) (λ _ e. bad-not_end n e)

-- an element is read with a depth left, and begins so
pub read_began : (depth : ℕ) (form : Form) (s : List ℕ) (at n : ℕ) → read (suc depth) form s at ≡ Ok n → Began (λ i p. read depth i s p) form s at n
unfolding read
read_began depth form s at n e = began (λ i p. read depth i s p) form s at n e

pub began_read : (depth : ℕ) (form : Form) (s : List ℕ) (at n : ℕ) → Began (λ i p. read depth i s p) form s at n → read (suc depth) form s at ≡ Ok n
unfolding read
began_read depth form s at n b = ends (λ i p. read depth i s p) form s at n b

pub read_none : {A : Type 0} (form : Form) (s : List ℕ) (at n : ℕ) → read 0 form s at ≡ Ok n → A
read_none form s at n e = absurd (no_depth form s at n e)

pub read_byte : (depth : ℕ) (form : Form) (s : List ℕ) (at n : ℕ) → read depth form s at ≡ Ok n → get_or s at 0 ≡ 0 → ⊥
read_byte zero form s at n e = read_none form s at n e
read_byte (suc depth) form s at n e = began_byte (read_began depth form s at n e)

pub read-low : (depth : ℕ) (form : Form) (s : List ℕ) (at n : ℕ) → read depth form s at ≡ Ok n → get_or s at 0 ≤ 179
read-low zero form s at n e = read_none form s at n e
read-low (suc depth) form s at n e = began-low (read_began depth form s at n e)
