-- Tests, sums and maxima over the places below n, as a loop that counts up makes them. Assumes nothing.
use mathlib.Core.Path.{◌≡◌, refl, sym, ap, ◌∙◌}
use mathlib.Core.Bool.{Bool, true, false, and-false}
use mathlib.Core.Logic.{⊎_elim}
use mathlib.Core.List.{[], ◌∷◌, ◌++◌, append_assoc, append-nil}
use Prim.Native.Nat.{ℕ, zero, suc, ◌+◌, ◌≤◌, ◌<◌, max}
use native.Mathlib.Omega.{arith}
use native.Mathlib.Numerals.{add-one}
use native.Mathlib.Nat.{eq-or-lt_of_le, le_of_suc-le-suc, not-suc-le-zero, le_antisymm, add-zero}
use lib.ListN.{length, length-append, get_or, get_or-append}
use lib.Seq.{get_or_at}
use Rattle.laws.specs.Places.{every, sum_to, largest_to, list_to}
use Rattle.laws.proofs.Tests.{both_pass}

module _ (f : ℕ → Bool) where
  -- one place more
  pub every_more : (i : ℕ) → every f i ≡ true → f i ≡ true → every f (i + 1) ≡ true
  every_more i a b = rw add-one (simp (a, b))

  -- a place below n where the test fails
  pub every-fails : (n k : ℕ) → k < n → f k ≡ false → every f n ≡ false
  every-fails zero k h e = absurd (not-suc-le-zero h)
  every-fails (suc n) k h e =
      ⊎_elim (λ i. let g : f n ≡ false = ap f (sym i) ∙ e in simp (g, and-false)) (λ l. simp (every-fails n k l e)) (eq-or-lt_of_le (le_of_suc-le-suc h))

  -- a loop that has come to its end
  pub every-done : (i n : ℕ) → i ≤ n → n ≤ i → every f i ≡ true → every f n ≡ true
  every-done i n a b e = rw (← le_antisymm a b) e

  -- what holds at every place holds at each, and back
  pub every_at : (n k : ℕ) → k < n → every f n ≡ true → f k ≡ true
  every_at zero k h e = absurd (not-suc-le-zero h)
  every_at (suc n) k h e =
      let p = both_pass (every f n) (f n) e in
      ⊎_elim (λ i. ap f i ∙ p.1) (λ l. every_at n k l p.0) (eq-or-lt_of_le (le_of_suc-le-suc h))

  pub every-all : (n : ℕ) → ((k : ℕ) → k < n → f k ≡ true) → every f n ≡ true
  every-all zero h = refl
  every-all (suc n) h =
      let a : every f n ≡ true = every-all n (λ k l. h k (omega arith)) in
      let b : f n ≡ true = h n (omega arith) in
      simp (a, b)

-- tests that agree below n
pub every-same : (f g : ℕ → Bool) (n : ℕ) → ((k : ℕ) → k < n → f k ≡ g k) → every f n ≡ every g n
every-same f g zero h = refl
every-same f g (suc n) h =
    let a : every f n ≡ every g n = every-same f g n (λ k l. h k (omega arith)) in
    let b : f n ≡ g n = h n (omega arith) in
    rw (a, b)

module _ (f : ℕ → ℕ) where
  pub sum_more : (i x : ℕ) → x ≡ f i → sum_to f i + x ≡ sum_to f (i + 1)
  sum_more i x e = rw add-one (ap (λ (y : ℕ). sum_to f i + y) e)

  -- sums never fall
  pub sum-rises : (k n : ℕ) → k ≤ n → sum_to f k ≤ sum_to f n
  sum-rises k zero h = let e : k ≡ 0 = omega arith in rw e (omega arith)
  sum-rises k (suc n) h =
      ⊎_elim (λ i. rw i (omega arith)) (λ l. let r : sum_to f k ≤ sum_to f n = sum-rises k n (omega arith) in omega arith) (eq-or-lt_of_le h)

  pub largest-more : (i x y : ℕ) → x ≡ largest_to f i → y ≡ f i → max x y ≡ largest_to f (i + 1)
  largest-more i x y e g = rw (add-one, e, g)

  -- each is at most the largest
  pub largest_at : (n k : ℕ) → k < n → f k ≤ largest_to f n
  largest_at zero k h = absurd (not-suc-le-zero h)
  largest_at (suc n) k h =
      ⊎_elim (λ i. let e : f k ≡ f n = ap f i in omega arith) (λ l. let r : f k ≤ largest_to f n = largest_at n k l in omega arith)
      (eq-or-lt_of_le (le_of_suc-le-suc h))

-- the largest below n and the largest of m more
pub largest_join : (f : ℕ → ℕ) (n m : ℕ) → max (largest_to f n) (largest_to (λ k. f (n + k)) m) ≡ largest_to f (n + m)
largest_join f n zero = rw (add-zero n) (omega arith)
largest_join f n (suc m) =
    let e : n + suc m ≡ suc (n + m) = omega arith in
    let r = largest_join f n m in
    rw e (omega arith)

pub sum_same : (f g : ℕ → ℕ) (n : ℕ) → ((k : ℕ) → k < n → f k ≡ g k) → sum_to f n ≡ sum_to g n
sum_same f g zero h = refl
sum_same f g (suc n) h =
    let a : sum_to f n ≡ sum_to g n = sum_same f g n (λ k l. h k (omega arith)) in
    let b : f n ≡ g n = h n (omega arith) in
    rw (a, b)

pub largest-same : (f g : ℕ → ℕ) (n : ℕ) → ((k : ℕ) → k < n → f k ≡ g k) → largest_to f n ≡ largest_to g n
largest-same f g zero h = refl
largest-same f g (suc n) h =
    let a : largest_to f n ≡ largest_to g n = largest-same f g n (λ k l. h k (omega arith)) in
    let b : f n ≡ g n = h n (omega arith) in
    rw (a, b)

module _ {ℓ} {A : Type ℓ} (f : ℕ → A) where
  pub length-list_to : (n : ℕ) → length (list_to f n) ≡ n
  length-list_to zero = refl
  length-list_to (suc n) = rw (length-append, length-list_to n) (add-one n)

  -- the list of m places more
  pub list_to-append : (n m : ℕ) → list_to f (n + m) ≡ list_to f n ++ list_to (λ k. f (n + k)) m
  list_to-append n zero = rw (add-zero n) (sym (append-nil (list_to f n)))
  list_to-append n (suc m) =
      let e : n + suc m ≡ suc (n + m) = omega arith in
      rw (e, list_to-append n m) (append_assoc (list_to f n) (list_to (λ k. f (n + k)) m) (f (n + m) ∷ []))

  pub list_to_at : (n k : ℕ) (d : A) → k < n → get_or (list_to f n) k d ≡ f k
  list_to_at zero k d h = absurd (not-suc-le-zero h)
  list_to_at (suc n) k d h =
      ⊎_elim (λ i. rw i (get_or_at (list_to f n) (f n) [] d n (length-list_to n)))
      (λ l. get_or-append (list_to f n) (f n ∷ []) d k (rw (length-list_to n) l) ∙ list_to_at n k d l)
      (eq-or-lt_of_le (le_of_suc-le-suc h))
