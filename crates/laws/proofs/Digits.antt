-- Digits of k bits and the numbers that they write, for every k. Assumes nothing.
use mathlib.Core.Path.{◌≡◌, refl, sym, ap, ◌∙◌, subst⁻¹}
use mathlib.Core.Bool.{true}
use mathlib.Core.List.{List, [], ◌∷◌, ◌++◌}
use Prim.Native.Nat.{ℕ, zero, suc, ◌+◌, ◌*◌, ◌/◌, ◌%◌, ◌^◌, ◌-◌, ◌≤◌, ◌<◌}
use native.Mathlib.Nat.{add-mul, mul_assoc, zero-mul, zero-add, mul-suc, mul-zero, mul-add, mul-one}
use native.Mathlib.Omega.{arith}
use lib.Arith.{digits_lt}
use lib.Dec.{ltb, lit<}
use lib.ListN.{length, take, drop, get_or}
use lib.Pow.{pow-add, high, low, mod-pow-add, shr-shr}
use lib.Seq.{take_at}
use borrow.Author.Tests.{lt-ltb, ltb-true}
use Rattle.laws.specs.Digits.{digits, value, all_below}
use Rattle.laws.proofs.Tests.{both_pass}

-- ---- numbers below a limit

pub below_parts : (m x : ℕ) (xs : List ℕ) → all_below m (x ∷ xs) ≡ true → (x < m) × (all_below m xs ≡ true)
unfolding all_below
below_parts m x xs e = let p = both_pass (ltb x m) (all_below m xs) e in (ltb-true x m p.0, p.1)

pub below-cons : (m x : ℕ) (xs : List ℕ) → x < m → all_below m xs ≡ true → all_below m (x ∷ xs) ≡ true
unfolding all_below
below-cons m x xs h e = rw (lt-ltb x m h) e

pub below_none : (m : ℕ) → all_below m [] ≡ true
unfolding all_below
below_none m = refl

pub below_at : (m i : ℕ) (xs : List ℕ) → 0 < m → all_below m xs ≡ true → get_or xs i 0 < m
below_at m i [] h e = h
below_at m zero (x ∷ xs) h e = (below_parts m x xs e).0
below_at m (suc i) (x ∷ xs) h e = below_at m i xs h (below_parts m x xs e).1

pub below_weaken : (m n : ℕ) (xs : List ℕ) → m ≤ n → all_below m xs ≡ true → all_below n xs ≡ true
below_weaken m n [] h e = below_none n
below_weaken m n (x ∷ xs) h e = let p = below_parts m x xs e in below-cons n x xs (omega arith) (below_weaken m n xs h p.1)

pub below-take : (m n : ℕ) (xs : List ℕ) → all_below m xs ≡ true → all_below m (take n xs) ≡ true
below-take m zero xs e = below_none m
below-take m (suc n) [] e = below_none m
below-take m (suc n) (x ∷ xs) e = let p = below_parts m x xs e in below-cons m x (take n xs) p.0 (below-take m n xs p.1)

pub below-drop : (m n : ℕ) (xs : List ℕ) → all_below m xs ≡ true → all_below m (drop n xs) ≡ true
below-drop m zero xs e = e
below-drop m (suc n) [] e = e
below-drop m (suc n) (x ∷ xs) e = below-drop m n xs (below_parts m x xs e).1

pub below-append : (m : ℕ) (xs ys : List ℕ) → all_below m xs ≡ true → all_below m ys ≡ true → all_below m (xs ++ ys) ≡ true
below-append m [] ys e f = f
below-append m (x ∷ xs) ys e f = let p = below_parts m x xs e in below-cons m x (xs ++ ys) p.0 (below-append m xs ys p.1 f)

-- what is below the limit at each place is below it as a list
pub below_all : (m : ℕ) (xs : List ℕ) → ((i : ℕ) → i < length xs → get_or xs i 0 < m) → all_below m xs ≡ true
below_all m [] h = below_none m
below_all m (x ∷ xs) h = below-cons m x xs (h 0 (omega arith)) (below_all m xs (λ i l. h (suc i) (omega arith)))

-- ---- digits

-- digit n of k bits, counted from the lowest
abbrev pub digit : ℕ → ℕ → ℕ → ℕ
digit k n p = p / 2 ^ (k * n) % 2 ^ k

pub digits-cons : (k n p : ℕ) → 0 < n → digits k n p ≡ digit k (n - 1) p ∷ digits k (n - 1) p
unfolding digits
digits-cons k n p h = let e : n ≡ suc (n - 1) = omega arith in ap (λ (x : ℕ). digits k x p) e

pub digits-none : (k n p : ℕ) → n ≤ 0 → digits k n p ≡ []
unfolding digits
digits-none k n p h = let e : n ≡ 0 = omega arith in ap (λ (x : ℕ). digits k x p) e

pub length_digits : (k n p : ℕ) → length (digits k n p) ≡ n
unfolding digits
length_digits k zero p = refl
length_digits k (suc n) p = ap suc (length_digits k n p)

-- ---- the number that digits write

-- one digit more
pub more-digits : (k j : ℕ) {w c : ℕ} → w < 2 ^ (k * j) → c < 2 ^ k → w * 2 ^ k + c < 2 ^ (k * (j + 1))
more-digits k j {w} {c} hw hc =
    subst⁻¹ (λ (n : ℕ). w * 2 ^ k + c < n) (ap (λ (n : ℕ). 2 ^ n) (mul-add k j 1 ∙ ap (λ (n : ℕ). k * j + n) (mul-one k)) ∙ pow-add 2 (k * j) k)
    (digits_lt hw hc)

pow-suc : (k m : ℕ) → 2 ^ (k * suc m) ≡ 2 ^ k * 2 ^ (k * m)
pow-suc k m = ap (λ (n : ℕ). 2 ^ n) (let e : k * suc m ≡ k + k * m = mul-suc k m ∙ omega arith in e) ∙ pow-add 2 k (k * m)

-- (h K + c) P + v, in two ways
regroup : (h K c P v : ℕ) → h * (K * P) + ((0 * K + c) * P + v) ≡ (h * K + c) * P + v
regroup h K c P v =
    omega (arith, add-mul (h * K) c P, add-mul (0 * K) c P, zero-mul K, mul_assoc h K P, zero-mul P, ap (λ (n : ℕ). n * P) (zero-mul K))

pub value_after : (k acc : ℕ) (ds : List ℕ) → value k acc ds ≡ acc * 2 ^ (k * length ds) + value k 0 ds
unfolding value
value_after k acc [] = rw (mul-zero k) (omega arith)
value_after k acc (d ∷ ds) =
    value_after k (acc * 2 ^ k + d) ds
    ∙ rw (pow-suc k (length ds), value_after k (0 * 2 ^ k + d) ds) (sym (regroup acc (2 ^ k) d (2 ^ (k * length ds)) (value k 0 ds)))

pub value-below : (k : ℕ) (ds : List ℕ) → all_below (2 ^ k) ds ≡ true → value k 0 ds < 2 ^ (k * length ds)
unfolding value
value-below k [] e = rw mul-zero (lit< tt)
value-below k (d ∷ ds) e =
    let p = below_parts (2 ^ k) d ds e in
    let v : value k 0 ds < 2 ^ (k * length ds) = value-below k ds p.1 in
    rw (value_after k (0 * 2 ^ k + d) ds, zero-mul, zero-add, pow-suc k (length ds)) (digits_lt p.0 v)

-- the digits of a number that digits write, whatever stands above them
pub digits_value : (k h : ℕ) (ds : List ℕ) → all_below (2 ^ k) ds ≡ true → digits k (length ds) (h * 2 ^ (k * length ds) + value k 0 ds) ≡ ds
unfolding digits value
digits_value k h [] e = refl
digits_value k h (d ∷ ds) e =
    let m = length ds in
    let p = below_parts (2 ^ k) d ds e in
    let v : value k 0 ds < 2 ^ (k * m) = value-below k ds p.1 in
    let w : h * 2 ^ (k * suc m) + value k (0 * 2 ^ k + d) ds ≡ (h * 2 ^ k + d) * 2 ^ (k * m) + value k 0 ds =
    rw (pow-suc k m, value_after k (0 * 2 ^ k + d) ds) (regroup h (2 ^ k) d (2 ^ (k * m)) (value k 0 ds)) in
    rw (w, high (h * 2 ^ k + d) (k * m) v, low h k p.0, digits_value k (h * 2 ^ k + d) ds p.1)

-- the number that a number's digits write
pub value-digits : (k n p : ℕ) → value k 0 (digits k n p) ≡ p % 2 ^ (k * n)
unfolding digits value
value-digits k zero p = rw (mul-zero k) (omega arith)
value-digits k (suc n) p =
    let e : k * suc n ≡ k + k * n = mul-suc k n ∙ omega arith in
    rw (value_after k (0 * 2 ^ k + p / 2 ^ (k * n) % 2 ^ k) (digits k n p), length_digits, value-digits k n p, e, mod-pow-add p k (k * n), zero-mul, zero-add)

-- ---- parts of the digits

-- the higher digits, then the lower ones
pub digits_split : (k m n p : ℕ) → digits k (m + n) p ≡ digits k m (p / 2 ^ (k * n)) ++ digits k n p
unfolding digits
digits_split k zero n p = ap (λ (j : ℕ). digits k j p) (zero-add n)
digits_split k (suc m) n p =
    let s : suc m + n ≡ suc (m + n) = omega arith in
    let e : k * (m + n) ≡ k * n + k * m = mul-add k m n ∙ omega arith in
    let q : p / 2 ^ (k * (m + n)) ≡ p / 2 ^ (k * n) / 2 ^ (k * m) = ap (λ (j : ℕ). p / 2 ^ j) e ∙ sym (shr-shr p (k * n) (k * m)) in
    ap (λ (j : ℕ). digits k j p) s ∙ rw (q, digits_split k m n p)

-- the first digits
pub take-digits : (k i j p : ℕ) → take i (digits k (i + j) p) ≡ digits k i (p / 2 ^ (k * j))
take-digits k i j p =
    ap (λ (l : List ℕ). take i l) (digits_split k i j p) ∙ take_at (digits k i (p / 2 ^ (k * j))) (digits k j p) i (length_digits k i (p / 2 ^ (k * j)))
