-- What the tests of the reader show: where an element ends, one step after another. Assumes nothing.
use mathlib.Core.Path.{◌≡◌, refl, sym, subst, ap, ◌∙◌}
use mathlib.Core.List.{List}
use mathlib.Core.Bool.{true, false, ◌&&◌}
use Prim.Native.Nat.{ℕ, zero, suc, ◌+◌, ◌-◌, ◌≤◌, ◌<◌}
use native.Mathlib.Omega.{arith}
use borrow.Author.Tests.{ltb-true, eqb-true}
use lib.ListN.{length, get_or}
use lib.Dec.{ltb, eqb}
use Rattle.laws.proofs.Tests.{both_pass}
use Rattle.laws.proofs.Choices.{cond_elim}
use Rattle.answers.specs.declared.Refusal.{Refusal}
use Rattle.std.specs.Prelude.{Result, Ok, Err}
use Rattle.elements.specs.declared.Span.{Span}
use Rattle.elements.specs.declared.Start.{Start}
use Rattle.elements.specs.declared.Start.TheVariants as B
use Rattle.elements.specs.declared.Form.{Form}
use Rattle.elements.specs.Grammar.{in_range, may_begin, may_follow, may_close}
use Rattle.elements.specs.Parts.{integer_part, text_part}
use Rattle.elements.specs.Reading.{bad, opens, closes, begins, too_deep, end_of, started, start_of, and_then, closed_at, list_end, rest_of, read}
use Rattle.elements.proofs.Parts.{Past, integer-past, text-past}

-- ---- 80, and 00 00

pub opens-within : (s : List ℕ) (at : ℕ) → opens s at ≡ true → (at < length s) × (get_or s at 0 ≡ 128)
unfolding opens
opens-within s at e =
    let p = both_pass (ltb at (length s)) (eqb (get_or s at 0) 128) e in
    (ltb-true at (length s) p.0, eqb-true (get_or s at 0) 128 p.1)

pub closes-within : (s : List ℕ) (at : ℕ) → closes s at ≡ true → at + 1 < length s
unfolding closes
closes-within s at e =
    let p = both_pass (ltb (at + 1) (length s) && eqb (get_or s at 0) 0) (eqb (get_or s (at + 1) 0) 0) e in
    let q = both_pass (ltb (at + 1) (length s)) (eqb (get_or s at 0) 0) p.0 in
    ltb-true (at + 1) (length s) q.0

-- ---- an element ends past its second byte and within s

abbrev pub Good : List ℕ → ℕ → Result ℕ Refusal → Type 0
Good s lo (Ok n) = (lo < n) × (n ≤ length s)
Good s lo (Err r) = Unit {0}

-- a list or a choice is open at its second byte
abbrev StartGood : List ℕ → ℕ → Result Start Refusal → Type 0
StartGood s at (Ok (B.Ended n)) = Good s (at + 1) (Ok n)
StartGood s at (Ok (B.List i)) = at + 1 < length s
StartGood s at (Ok (B.Choice i)) = at + 1 < length s
StartGood s at (Err r) = Unit {0}

part_good : (s : List ℕ) (at : ℕ) (x : Result Span Refusal) → Past s (at + 1) x → StartGood s at (started (end_of x))
part_good s at (Ok t) p = let u = p.0 in (omega arith, p.1)
part_good s at (Err r) p = tt

start-good : (form : Form) (s : List ℕ) (at : ℕ) → StartGood s at (start_of form s at)
unfolding start_of
start-good form s at =
    let P : Result Start Refusal → Type 0 = StartGood s at in
    let b = get_or s at 0 in
    cond_elim P (ltb at (length s) && may_begin form b)
    (λ _. cond_elim P (eqb b 2) (λ _. part_good s at (integer_part s (at + 1)) (integer-past s (at + 1)))
    (λ _. cond_elim P (eqb b 26) (λ _. part_good s at (text_part s (at + 1)) (text-past s (at + 1)))
    (λ _. cond_elim P (opens s (at + 1))
    (λ o. cond_elim P (eqb b 48) (λ _. (opens-within s (at + 1) o).0)
    (λ _. cond_elim P (in_range 160 179 b) (λ _. (opens-within s (at + 1) o).0) (λ _. tt)))
    (λ _. tt))))
    (λ _. tt)

pub start_at_lem : (form : Form) (s : List ℕ) (at : ℕ) (x : Result Start Refusal) → start_of form s at ≡ x → StartGood s at x
start_at_lem form s at x e = subst (λ (y : Result Start Refusal). StartGood s at y) e (start-good form s at)

then_good : (s : List ℕ) (lo at : ℕ) (x : Result ℕ Refusal) (more : ℕ → Result ℕ Refusal) → lo ≤ at → Good s at x
    → ((n : ℕ) → lo < n → n ≤ length s → Good s lo (more n)) → Good s lo (and_then x more)
then_good s lo at (Ok n) more h g k = k n (omega (arith, g.0)) g.1
then_good s lo at (Err r) more h g k = tt

-- a reader of inner elements that end past their second byte
abbrev Reader : List ℕ → (ℕ → Result ℕ Refusal) → Type 0
Reader s inner = (n : ℕ) → Good s (n + 1) (inner n)

close-good : (s : List ℕ) (lo p : ℕ) → lo < p → closes s p ≡ true → Good s lo (Ok (p + 2))
close-good s lo p h c = let k = closes-within s p c in (omega arith, omega arith)

list-good : (s : List ℕ) (inner : ℕ → Result ℕ Refusal) (form : Form) → Reader s inner → (turns low lo at : ℕ) → lo < at
    → Good s lo (list_end inner form turns low s at)
unfolding list_end
list-good s inner form g zero low lo at h = tt
list-good s inner form g (suc turns) low lo at h =
    cond_elim (Good s lo) (closes s at) (λ c. cond_elim (Good s lo) (may_close form low) (λ _. close-good s lo at h c) (λ _. tt))
    (λ _. cond_elim (Good s lo) (may_follow form low (get_or s at 0))
    (λ _. then_good s lo (at + 1) (inner at) (λ n. list_end inner form turns (get_or s at 0 + 1) s n) (omega arith) (g at)
    (λ n p q. list-good s inner form g turns (get_or s at 0 + 1) lo n p))
    (λ _. tt))

closed-good : (s : List ℕ) (lo at : ℕ) (x : Result ℕ Refusal) → lo ≤ at → Good s at x → Good s lo (closed_at s x)
closed-good s lo at (Ok n) h g = cond_elim (Good s lo) (closes s n) (λ c. close-good s lo n (omega (arith, g.0)) c) (λ _. tt)
closed-good s lo at (Err r) h g = tt

rest_good : (s : List ℕ) (inner : Form → ℕ → Result ℕ Refusal) (form : Form) (at : ℕ) → ((i : Form) → Reader s (inner i)) → (x : Result Start Refusal)
    → StartGood s at x → Good s (at + 1) (rest_of inner form s at x)
rest_good s inner form at g (Ok (B.Ended n)) p = p
rest_good s inner form at g (Ok (B.List i)) p = list-good s (inner i) form (g i) (length s) 160 (at + 1) (at + 2) (omega arith)
rest_good s inner form at g (Ok (B.Choice i)) p = closed-good s (at + 1) (at + 2 + 1) (inner i (at + 2)) (omega arith) (g i (at + 2))
rest_good s inner form at g (Err r) p = tt

read-good : (depth : ℕ) (form : Form) (s : List ℕ) (at : ℕ) → Good s (at + 1) (read depth form s at)
unfolding read too_deep
read-good zero form s at = cond_elim (Good s (at + 1)) (begins (get_or s at 0)) (λ _. tt) (λ _. tt)
read-good (suc depth) form s at =
    rest_good s (λ i n. read depth i s n) form at (λ i n. read-good depth i s n) (start_of form s at) (start-good form s at)

pub ends-within : (depth : ℕ) (form : Form) (s : List ℕ) (at n : ℕ) → read depth form s at ≡ Ok n → (at + 1 < n) × (n ≤ length s)
ends-within depth form s at n e = subst (λ (x : Result ℕ Refusal). Good s (at + 1) x) e (read-good depth form s at)

-- what is read to its end has no rest
pub rest_started : (inner : Form → ℕ → Result ℕ Refusal) (form : Form) (s : List ℕ) (at : ℕ) (x : Result ℕ Refusal) → rest_of inner form s at (started x) ≡ x
rest_started inner form s at (Ok n) = refl
rest_started inner form s at (Err r) = refl

-- ---- what the reader knows after its tests

-- the reader of the elements inside one, with so many depths left at that one
abbrev pub Inner : ℕ → Form → List ℕ → ℕ → Result ℕ Refusal
Inner depth i s n = read (depth - 1) i s n

module _ (form : Form) (s : List ℕ) (at : ℕ) {x : Result Start Refusal} (e : x ≡ start_of form s at) where
  -- a list or a choice has two bytes
  pub list-room : {i : Form} → x ≡ Ok (B.List i) → at + 2 ≤ length s
  list-room {i} q = let h = start_at_lem form s at (Ok (B.List i)) (sym e ∙ q) in omega arith

  pub choice-room : {i : Form} → x ≡ Ok (B.Choice i) → at + 2 ≤ length s
  choice-room {i} q = let h = start_at_lem form s at (Ok (B.Choice i)) (sym e ∙ q) in omega arith

  module _ (depth : ℕ) (deep : depth ≡ 0 → ⊥) where
    pub read_started : {y : Result Start Refusal} → x ≡ y → rest_of (λ i n. read (depth - 1) i s n) form s at y ≡ read depth form s at
    unfolding read
    read_started q =
        let f : depth ≡ suc (depth - 1) = omega arith in
        sym (ap (λ (d : ℕ). read d form s at) f ∙ rw (← e, q))

    pub read-choice : {i : Form} {y z : Result ℕ Refusal} → x ≡ Ok (B.Choice i) → z ≡ Inner depth i s (at + 2) → z ≡ y → closed_at s y ≡ read depth form s at
    read-choice q p u = ap (closed_at s) (sym u ∙ p) ∙ read_started q

-- What is left of a list from p on, read by `inner`, gives the answer x of the whole element.
pub record Rest (inner : ℕ → Result ℕ Refusal) (form : Form) (low : ℕ) (s : List ℕ) (p : ℕ) (x : Result ℕ Refusal) : Type 0 where
  pub turns : ℕ
  pub room : p ≤ length s
  pub many : length s < turns + p
  pub is : list_end inner form turns low s p ≡ x

pub rest_begins : (depth : ℕ) (form : Form) (s : List ℕ) (at : ℕ) {x : Result Start Refusal} {i : Form} → x ≡ start_of form s at → (depth ≡ 0 → ⊥) → x ≡ Ok (B.List i)
    → Rest (Inner depth i s) form 160 s (at + 2) (read depth form s at)
rest_begins depth form s at e deep q =
    record { turns = length s; room = list-room form s at e q; many = omega arith; is = read_started form s at e depth deep q }

-- its turns: the list ends, or may not end there; an element may not follow, is refused, is passed
module _ {inner : ℕ → Result ℕ Refusal} {form : Form} {low : ℕ} {s : List ℕ} {p : ℕ} {x : Result ℕ Refusal} (r : Rest inner form low s p x) where
  turned : list_end inner form (suc (r.turns - 1)) low s p ≡ x
  turned = let f : r.turns ≡ suc (r.turns - 1) = omega arith in ap (λ (k : ℕ). list_end inner form k low s p) (sym f) ∙ r.is

  pub rest_ends : closes s p ≡ true → may_close form low ≡ true → Ok (p + 2) ≡ x
  unfolding list_end
  rest_ends c m = rw (c, m) at turned

  pub rest_short : closes s p ≡ true → may_close form low ≡ false → bad ≡ x
  unfolding list_end
  rest_short c m = rw (c, m) at turned

  module _ (c : closes s p ≡ false) {b : ℕ} (e : b ≡ get_or s p 0) where
    pub rest_stray : may_follow form low b ≡ false → bad ≡ x
    unfolding list_end
    rest_stray m = rw (c, ← e, m) at turned

    module _ (m : may_follow form low b ≡ true) {z : Result ℕ Refusal} (t : z ≡ inner p) where
      pub rest_refused : {f : Refusal} → z ≡ Err f → Err f ≡ x
      unfolding list_end
      rest_refused q = rw (c, ← e, m, ← t, q) at turned

      pub rest_passed : {n : ℕ} → z ≡ Ok n → (p + 1 < n) × (n ≤ length s) → Rest inner form (b + 1) s n x
      unfolding list_end
      rest_passed {n} q w =
          record { turns = r.turns - 1; room = w.1; many = omega (arith, r.many, w.0); is = rw (c, ← e, m, ← t, q) at turned }
