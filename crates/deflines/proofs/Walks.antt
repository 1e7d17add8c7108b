-- The walks over def-lines, fields and identifiers: one turn passes one element of a list. Assumes nothing.
use mathlib.Core.Path.{◌≡◌, refl, sym, ap, subst, ◌∙◌}
use mathlib.Core.List.{List, [], ◌∷◌, ◌++◌, flat_map}
use mathlib.Core.Bool.{true, false}
use Prim.Native.Nat.{ℕ, zero, suc, ◌+◌, ◌≤◌, ◌<◌}
use native.Mathlib.Omega.{arith}
use lib.ListN.{length}
use Rattle.laws.proofs.Choices.{cond_elim}
use Rattle.answers.specs.declared.Refusal.{Refusal}
use Rattle.elements.specs.declared.Form.TheVariants as F
use Rattle.elements.specs.Reading.{closes, read}
use Rattle.elements.proofs.Reading.{ends-within}
use Rattle.std.specs.Prelude.{Option, Some, None, Result, Ok, Err}
use Rattle.std.specs.declared.ops.ControlFlow.{ControlFlow}
use Rattle.std.specs.declared.ops.ControlFlow.TheVariants.{Break, Continue}
use Rattle.std.specs.Result.{result_ok}
use Rattle.deflines.specs.Fields.{next_at, from_next, elements_from, elements_left, elements_in}
use Rattle.deflines.specs.Numbered.{item_from}
use Rattle.deflines.proofs.Lists.{Each, each_number}

-- ---- what comes next in a list

module _ (s : List ℕ) (p : ℕ) where
  pub next-closed : closes s p ≡ true → next_at s p ≡ None
  unfolding next_at
  next-closed c = rw c

  pub next-read : (n : ℕ) → closes s p ≡ false → read 16 F.Any s p ≡ Ok n → next_at s p ≡ Some n
  unfolding next_at
  next-read n c e = rw (c, e)

  read_cases : (P : Option ℕ → Type 0) (x : Result ℕ Refusal) → read 16 F.Any s p ≡ x → P None
      → ((n : ℕ) → p + 1 < n → n ≤ length s → P (Some n)) → P (result_ok x)
  read_cases P (Ok n) e none more = let w = ends-within 16 F.Any s p n e in more n w.0 w.1
  read_cases P (Err r) e none more = none

  -- the next element has two bytes, and ends within the bytes
  pub next_cases : (P : Option ℕ → Type 0) → P None → ((n : ℕ) → p + 1 < n → n ≤ length s → P (Some n)) → P (next_at s p)
  unfolding next_at
  next_cases P none more = cond_elim P (closes s p) (λ _. none) (λ _. read_cases P (read 16 F.Any s p) refl none more)

  pub next-within : (n : ℕ) → next_at s p ≡ Some n → (p + 1 < n) × (n ≤ length s)
  next-within n =
      next_cases (λ (x : Option ℕ). x ≡ Some n → (p + 1 < n) × (n ≤ length s))
      (λ e. absurd (cc))
      (λ m a b e. let z : m ≡ n = cc in (omega arith, omega arith))

-- ---- what is left of a list

-- one turn more finds no more, once there are as many as bytes
enough : (turns : ℕ) (s : List ℕ) (p : ℕ) → length s < turns + p → elements_from turns s p ≡ elements_from (suc turns) s p
unfolding elements_from
enough zero s p l = next_cases s p (λ (x : Option ℕ). [] ≡ from_next x (λ n. p ∷ [])) refl (λ n a b. absurd (omega arith))
enough (suc turns) s p l =
    next_cases s p (λ (x : Option ℕ). from_next x (λ n. p ∷ elements_from turns s n) ≡ from_next x (λ n. p ∷ elements_from (suc turns) s n)) refl
    (λ n a b. ap (λ (xs : List ℕ). p ∷ xs) (enough turns s n (omega arith)))

pub left-none : (s : List ℕ) (p : ℕ) → next_at s p ≡ None → elements_left s p ≡ []
unfolding elements_from
left-none s p e = rw e

pub left-next : (s : List ℕ) (p n : ℕ) → next_at s p ≡ Some n → elements_left s p ≡ p ∷ elements_left s n
unfolding elements_from
left-next s p n e =
    let w = next-within s p n e in
    let f : elements_from (length s) s n ≡ elements_left s n = enough (length s) s n (omega arith) in
    rw (e, f)

-- each element has two bytes
abbrev pub InPlace : List ℕ → ℕ → Type 0
InPlace s p = p + 2 ≤ length s

from_each : (turns : ℕ) (s : List ℕ) (p : ℕ) → Each (InPlace s) (elements_from turns s p)
unfolding elements_from
from_each zero s p = tt
from_each (suc turns) s p =
    next_cases s p (λ (x : Option ℕ). Each (InPlace s) (from_next x (λ n. p ∷ elements_from turns s n))) tt (λ n a b. (omega arith, from_each turns s n))

pub elements_each : (s : List ℕ) (p : ℕ) → Each (InPlace s) (elements_left s p)
elements_each s p = from_each (suc (length s)) s p

abbrev PlaceWithin : List ℕ → ControlFlow ℕ ℕ → Type 0
PlaceWithin s (Break p) = InPlace s p
PlaceWithin s (Continue k) = Unit {0}

-- and so has one that is found
pub place-room : (s xs : List ℕ) (k p : ℕ) → Each (InPlace s) xs → item_from xs k ≡ Break p → p + 2 ≤ length s
place-room s xs k p h e = subst (PlaceWithin s) e (each_number (InPlace s) (PlaceWithin s) Break Continue (λ p w. w) (λ j. tt) xs k h)

-- ---- number k of two lists, one after the other

module _ {X : Type 0} where
  pub from_left : (xs ys : List X) (k j : ℕ) → item_from xs k ≡ Continue j → item_from (xs ++ ys) k ≡ item_from ys j
  from_left [] ys k j e = let z : k ≡ j = cc in ap (item_from ys) z
  from_left (x ∷ xs) ys zero j e = absurd (cc)
  from_left (x ∷ xs) ys (suc k) j e = from_left xs ys k j e

  pub from_found : (xs ys : List X) (k : ℕ) (x : X) → item_from xs k ≡ Break x → item_from (xs ++ ys) k ≡ Break x
  from_found [] ys k x e = absurd (cc)
  from_found (y ∷ xs) ys zero x e = e
  from_found (y ∷ xs) ys (suc k) x e = from_found xs ys k x e

-- ---- the turns of a walk

-- The elements ps are left with k to pass, and give the answer y of the whole walk; f is what an element holds.
pub record Rest {X : Type 0} (f : ℕ → List X) (s ps : List ℕ) (k : ℕ) (y : ControlFlow X ℕ) : Type 0 where
  pub is : item_from (flat_map f ps) k ≡ y
  pub room : Each (InPlace s) ps

pub rest-first : {X : Type 0} (f : ℕ → List X) (s ps : List ℕ) (list k : ℕ) → ps ≡ elements_in s list
    → Rest f s ps k (item_from (flat_map f (elements_in s list)) k)
rest-first f s ps list k e = record { is = rw e; room = rw e (elements_each s (list + 2)) }

-- a walk that counts the elements themselves
pub each_held : (xs : List ℕ) → flat_map (λ p. p ∷ []) xs ≡ xs
unfolding flat_map
each_held [] = refl
each_held (x ∷ xs) = ap (λ (l : List ℕ). x ∷ l) (each_held xs)

module _ {X : Type 0} {f : ℕ → List X} {s ps : List ℕ} {k : ℕ} {y : ControlFlow X ℕ} (r : Rest f s ps k y) where
  -- a walk ends where no more comes next
  pub rest_none : ps ≡ [] → Continue k ≡ y
  unfolding flat_map
  rest_none e = rw e at r.is

  module _ {p : ℕ} {qs : List ℕ} (e : ps ≡ p ∷ qs) where
    pub turn_room : p + 2 ≤ length s
    turn_room = let w : Each (InPlace s) (p ∷ qs) = subst (Each (InPlace s)) e r.room in w.0

    turned : item_from (f p ++ flat_map f qs) k ≡ y
    unfolding flat_map
    turned = rw e at r.is

    -- the element holds what is looked for, or less than that
    pub turn_found : (x : X) → item_from (f p) k ≡ Break x → Break x ≡ y
    turn_found x q = sym (from_found (f p) (flat_map f qs) k x q) ∙ turned

    pub turn_left : (j : ℕ) → item_from (f p) k ≡ Continue j → Rest f s qs j y
    turn_left j q =
        let w : Each (InPlace s) (p ∷ qs) = subst (Each (InPlace s)) e r.room in
        record { is = sym (from_left (f p) (flat_map f qs) k j q) ∙ turned; room = w.1 }

    -- the element holds nothing
    pub turn_past : f p ≡ [] → Rest f s qs k y
    turn_past q = turn_left k (rw q)
