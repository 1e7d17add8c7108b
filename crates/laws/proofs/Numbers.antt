-- Bounds of digits and of the larger of two numbers, a number with one digit more, room behind a place, and the bytes of a number. Assumes nothing.
use mathlib.Core.Path.{◌≡◌, refl, sym, ap, ◌∙◌}
use mathlib.Core.Bool.{true, ◌&&◌}
use mathlib.Core.List.{List, [], ◌∷◌, ◌++◌}
use Prim.Native.Nat.{ℕ, zero, suc, ◌+◌, ◌-◌, ◌*◌, ◌/◌, ◌%◌, ◌^◌, ◌≤◌, ◌<◌, max, min}
use native.Mathlib.Nat.{mod-lt, zero-mul, zero-add}
use native.Mathlib.Omega.{arith}
use lib.Dec.{leb, ltb}
use lib.ListN.{length, take, get_or}
use lib.Pow.{pow_pos}
use lib.Seq.{take_all, take-length}
use borrow.Author.Tests.{lt-ltb, le-ltb, ltb-true, ltb-false, le-leb, lt-leb, leb-true, leb-false}
use Rattle.laws.specs.Digits.{digits, value, all_below}
use Rattle.laws.specs.Places.{largest_to}
use Rattle.laws.proofs.Tests.{bool_cases, never}
use Rattle.laws.proofs.Places.{largest_at}
use Rattle.laws.proofs.Digits.{below_none, below-cons, below_at, below_all, length_digits, digits_value, value-digits}

-- digits of k bits are below 2^k
pub digits-below : (k n p : ℕ) → all_below (2 ^ k) (digits k n p) ≡ true
unfolding digits
digits-below k zero p = below_none (2 ^ k)
digits-below k (suc n) p = below-cons (2 ^ k) (p / 2 ^ (k * n) % 2 ^ k) (digits k n p) (mod-lt (p / 2 ^ (k * n)) (pow_pos k)) (digits-below k n p)

-- what stands above the digits does not matter
pub digits_low : (k n p : ℕ) → digits k n (p % 2 ^ (k * n)) ≡ digits k n p
digits_low k n p =
    let e = digits_value k 0 (digits k n p) (digits-below k n p) in
    (rw (length_digits, value-digits, zero-mul, zero-add) at e)

-- one digit more at the end
pub value-more : (k acc : ℕ) (xs : List ℕ) (x : ℕ) → value k acc (xs ++ (x ∷ [])) ≡ value k acc xs * 2 ^ k + x
unfolding value
value-more k acc [] x = refl
value-more k acc (y ∷ xs) x = value-more k (acc * 2 ^ k + y) xs x

-- the larger of two numbers is below a limit where both are
pub larger_below : (a b m : ℕ) → ltb (max a b) m ≡ (ltb a m && ltb b m)
larger_below a b m =
    bool_cases (ltb a m)
    (λ e. bool_cases (ltb b m)
    (λ f. rw (e, f) (lt-ltb (max a b) m (omega (arith, ltb-true a m e, ltb-true b m f))))
    (λ f. rw (e, f) (le-ltb (max a b) m (omega (arith, ltb-false b m f)))))
    (λ e. rw e (le-ltb (max a b) m (omega (arith, ltb-false a m e))))

-- as many as there are, up to n
pub take_min : (n : ℕ) (xs : List ℕ) → take n xs ≡ take (min n (length xs)) xs
take_min n xs =
    bool_cases (leb n (length xs))
    (λ e. let h : min n (length xs) ≡ n = omega (arith, leb-true n (length xs) e) in rw h)
    (λ e. let h : min n (length xs) ≡ length xs = omega (arith, leb-false n (length xs) e) in
    let l : length xs ≤ n = omega (arith, leb-false n (length xs) e) in
    rw (h, take-length, take_all n xs l))

-- the largest is below a limit where all are
pub largest_less : (f : ℕ → ℕ) (n m : ℕ) → 0 < m → ((k : ℕ) → k < n → f k < m) → largest_to f n < m
largest_less f zero m h b = h
largest_less f (suc n) m h b =
    let r : largest_to f n < m = largest_less f n m h (λ k l. b k (omega arith)) in
    omega (arith, b n (omega arith))

pub largest-below : (m : ℕ) (xs : List ℕ) → 0 < m → ltb (largest_to (λ k. get_or xs k 0) (length xs)) m ≡ all_below m xs
largest-below m xs h =
    bool_cases (all_below m xs)
    (λ e. lt-ltb (largest_to (λ k. get_or xs k 0) (length xs)) m (largest_less (λ k. get_or xs k 0) (length xs) m h (λ k l. below_at m k xs h e)) ∙ sym e)
    (λ e.
    bool_cases (ltb (largest_to (λ k. get_or xs k 0) (length xs)) m)
    (λ t. never (sym e ∙ below_all m xs (λ k l.
    let a : get_or xs k 0 ≤ largest_to (λ i. get_or xs i 0) (length xs) = largest_at (λ i. get_or xs i 0) (length xs) k l in
    omega (arith, ltb-true _ m t))))
    (λ f. f ∙ sym e))

-- room behind a place
pub fits-behind : (place n room : ℕ) → place ≤ room → leb n (room - place) ≡ leb (place + n) room
fits-behind place n room h =
    bool_cases (leb n (room - place))
    (λ e. e ∙ sym (le-leb (place + n) room (omega (arith, leb-true n (room - place) e))))
    (λ e. e ∙ sym (lt-leb (place + n) room (omega (arith, leb-false n (room - place) e))))

-- the four bytes of a number, the lowest first
pub bytes_of : (n a b c d : ℕ) → n ≡ a + b * 256 + c * 65536 + d * 16777216 → a < 256 → b < 256 → c < 256 → d < 256
    → (n % 256 ≡ a) × (n / 256 % 256 ≡ b) × (n / 65536 % 256 ≡ c) × (n / 16777216 ≡ d)
bytes_of n a b c d e ha hb hc hd =
    let q₁ : n / 256 ≡ b + c * 256 + d * 65536 = omega arith in
    let q₂ : n / 65536 ≡ c + d * 256 = omega arith in
    let e₁ : (b + c * 256 + d * 65536) % 256 ≡ b = omega arith in
    let e₂ : (c + d * 256) % 256 ≡ c = omega arith in
    (omega arith, ap (λ (x : ℕ). x % 256) q₁ ∙ e₁, ap (λ (x : ℕ). x % 256) q₂ ∙ e₂, omega arith)
