-- A loop that stores what f gives at one place after another; a list written into another, by place; and lists written at the start. Assumes nothing.
use mathlib.Core.Path.{◌≡◌, sym, ap, ◌∙◌}
use mathlib.Core.List.{List, [], ◌∷◌, ◌++◌, append_assoc}
use Prim.Native.Nat.{ℕ, suc, ◌+◌, ◌-◌, ◌≤◌, ◌<◌}
use native.Mathlib.Nat.{add_assoc, zero-add}
use native.Mathlib.Numerals.{add-one}
use native.Mathlib.Omega.{arith}
use lib.ListN.{length, take, drop, get_or, set, length-append, length-take, take-append-drop, get_or-append}
use lib.Seq.{set_at, set_split, append_snoc, take_at, drop_at, length-take-le}
use lib.Seq.{take-append-le, drop-append-le, drop-drop, paste-zero, get_or-append-add, get_or-take, get_or-drop}
use Rattle.laws.specs.Places.{list_to}
use Rattle.laws.specs.Writing.{written_at}
use Rattle.laws.proofs.Places.{length-list_to}
use Rattle.laws.proofs.Writing.{drop-step, length_written, paste_whole}

-- nothing stored yet
pub store_none : (f : ℕ → ℕ) (p : ℕ) (d : List ℕ) → d ≡ written_at p (list_to f 0) d
store_none f p d = paste-zero d p [] ∙ paste_whole p [] d

-- the next one stored
pub store_next : (f : ℕ → ℕ) (p n x : ℕ) (d : List ℕ) → p + n < length d → x ≡ f n
    → set (written_at p (list_to f n) d) (p + n) x ≡ written_at p (list_to f (n + 1)) d
store_next f p n x d h e =
    let xs = list_to f n in
    let l : length xs ≡ n = length-list_to f n in
    let k : length (take p d ++ xs) ≡ p + n = simp (length-append, length-take) (omega arith) in
    let m : length (list_to f (n + 1)) ≡ n + 1 = length-list_to f (n + 1) in
    let g : list_to f (n + 1) ≡ xs ++ (f n ∷ []) = rw (add-one n) in
    let r : drop (p + (n + 1)) d ≡ drop (p + n + 1) d = ap (λ (i : ℕ). drop i d) (sym (add_assoc p n 1)) in
    let a : written_at p xs d ≡ (take p d ++ xs) ++ (get_or d (p + n) 0 ∷ drop (p + n + 1) d) =
    ap (λ (i : ℕ). (take p d ++ xs) ++ drop (p + i) d) l ∙ ap (λ (t : List ℕ). (take p d ++ xs) ++ t) (drop-step d (p + n) 0 h) in
    let b : written_at p (list_to f (n + 1)) d ≡ (take p d ++ xs) ++ (f n ∷ drop (p + n + 1) d) =
    ap (λ (i : ℕ). (take p d ++ list_to f (n + 1)) ++ drop (p + i) d) m ∙ rw (g, r) (simp append_assoc) in
    ap (λ (t : List ℕ). set t (p + n) x) a ∙ (set_at (take p d ++ xs) (get_or d (p + n) 0) (drop (p + n + 1) d) x (p + n) k ∙ (rw e (sym b)))

-- the same from the front
pub store_front : (f : ℕ → ℕ) (n x : ℕ) (d : List ℕ) → n < length d → x ≡ f n
    → set (written_at 0 (list_to f n) d) n x ≡ written_at 0 (list_to f (n + 1)) d
store_front f n x d h e =
    let z : 0 + n ≡ n = zero-add n in
    sym (ap (λ (i : ℕ). set (written_at 0 (list_to f n) d) i x) z) ∙ store_next f 0 n x d (omega arith) e

-- what is written within a list leaves what follows it
pub written_append : (p : ℕ) (new a b : List ℕ) → p + length new ≤ length a → written_at p new (a ++ b) ≡ written_at p new a ++ b
written_append p new a b h =
    let k : p ≤ length a = omega arith in
    rw (take-append-le p a b k, drop-append-le (p + length new) a b h) (sym (append_assoc (take p a ++ new) (drop (p + length new) a) b))

-- a list written at the start
pub written_start : (new old : List ℕ) → written_at 0 new old ≡ new ++ drop (length new) old
written_start new old = rw zero-add

-- one element stored is a list of one written
pub set_written : (d : List ℕ) (i x : ℕ) → i < length d → set d i x ≡ written_at i (x ∷ []) d
set_written d i x h = set_split d i x h ∙ sym (append_snoc (take i d) x (drop (suc i) d)) ∙ ap (λ (n : ℕ). (take i d ++ (x ∷ [])) ++ drop n d) (sym (add-one i))

-- lists written at places that do not meet, in either order
pub written_apart : (p q : ℕ) (xs ys old : List ℕ) → p + length xs ≤ q → q + length ys ≤ length old
    → written_at p xs (written_at q ys old) ≡ written_at q ys (written_at p xs old)
written_apart p q xs ys old h l =
    let t : length (take q old) ≡ q = length-take-le q old (omega arith) in
    let F = written_at p xs (take q old) in
    let n : length F ≡ q = length_written p xs (take q old) (omega arith) ∙ t in
    let a : written_at p xs old ≡ F ++ drop q old =
    ap (written_at p xs) (sym (take-append-drop q old)) ∙ written_append p xs (take q old) (drop q old) (omega arith) in
    let b : drop (q + length ys) (F ++ drop q old) ≡ drop (q + length ys) old =
    sym (drop-drop (length ys) q (F ++ drop q old)) ∙ ap (drop (length ys)) (drop_at F (drop q old) q n) ∙ drop-drop (length ys) q old in
    ap (written_at p xs) (append_assoc (take q old) ys (drop (q + length ys) old))
    ∙ written_append p xs (take q old) (ys ++ drop (q + length ys) old) (omega arith)
    ∙ sym (append_assoc F ys (drop (q + length ys) old))
    ∙ sym (rw (a, take_at F (drop q old) q n, b))

-- a list written at the start of what is behind a place
pub written_behind : (place : ℕ) (new old : List ℕ) → take place old ++ written_at 0 new (drop place old) ≡ written_at place new old
written_behind place new old =
    ap (λ (l : List ℕ). take place old ++ l) (written_start new (drop place old) ∙ ap (λ (l : List ℕ). new ++ l) (drop-drop (length new) place old))
    ∙ sym (append_assoc (take place old) new (drop (place + length new) old))

-- ---- a list written into another, by place

module _ (place : ℕ) (new old : List ℕ) (h : place + length new ≤ length old) (k d : ℕ) where
  front : length (take place old ++ new) ≡ place + length new
  front = simp (length-append, length-take) (omega arith)

  pub written_before : k < place → get_or (written_at place new old) k d ≡ get_or old k d
  written_before l =
      let a : k < length (take place old ++ new) = rw front (omega arith) in
      let b : k < length (take place old) = rw length-take (omega arith) in
      get_or-append (take place old ++ new) (drop (place + length new) old) d k a
      ∙ get_or-append (take place old) new d k b
      ∙ get_or-take place old k d l

  pub written_inside : place ≤ k → k < place + length new → get_or (written_at place new old) k d ≡ get_or new (k - place) d
  written_inside g l =
      let a : k < length (take place old ++ new) = rw front (omega arith) in
      let b : k ≡ length (take place old) + (k - place) = rw length-take (omega arith) in
      get_or-append (take place old ++ new) (drop (place + length new) old) d k a
      ∙ ap (λ (i : ℕ). get_or (take place old ++ new) i d) b
      ∙ get_or-append-add (take place old) new (k - place) d

  pub written_after : place + length new ≤ k → get_or (written_at place new old) k d ≡ get_or old k d
  written_after g =
      let n = k - (place + length new) in
      let b : k ≡ length (take place old ++ new) + n = rw front (omega arith) in
      let e : place + length new + n ≡ k = omega arith in
      ap (λ (i : ℕ). get_or (written_at place new old) i d) b
      ∙ get_or-append-add (take place old ++ new) (drop (place + length new) old) n d
      ∙ get_or-drop (place + length new) old n d
      ∙ ap (λ (i : ℕ). get_or old i d) e
