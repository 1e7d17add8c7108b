-- A test of every place by one test of the largest. Assumes nothing.
use mathlib.Core.Path.{◌≡◌, sym}
use mathlib.Core.Bool.{◌&&◌}
use Prim.Native.Nat.{ℕ, zero, suc, ◌≤◌, ◌<◌, max}
use native.Mathlib.Omega.{arith}
use borrow.Author.Tests.{leb-true, leb-false, le-leb, lt-leb}
use lib.Dec.{leb}
use Rattle.laws.specs.Places.{every, largest_to}
use Rattle.laws.proofs.Tests.{bool_cases}

-- both are at most m where the larger is
max_most : (a b m : ℕ) → (leb a m && leb b m) ≡ leb (max a b) m
max_most a b m =
    bool_cases (leb a m)
    (λ e. bool_cases (leb b m)
    (λ f. let g : max a b ≤ m = (let h = leb-true a m e in let k = leb-true b m f in omega arith) in rw (e, f) (sym (le-leb (max a b) m g)))
    (λ f. let g : m < max a b = (let k = leb-false b m f in omega arith) in rw (e, f) (sym (lt-leb (max a b) m g))))
    (λ e. let g : m < max a b = (let h = leb-false a m e in omega arith) in rw e (sym (lt-leb (max a b) m g)))

-- each is at most m exactly where the largest is
pub every-most : (f : ℕ → ℕ) (m n : ℕ) → every (λ k. leb (f k) m) n ≡ leb (largest_to f n) m
every-most f m zero = sym (le-leb 0 m (omega arith))
every-most f m (suc n) = rw (every-most f m n) (max_most (largest_to f n) (f n) m)
