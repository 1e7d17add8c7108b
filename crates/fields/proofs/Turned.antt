-- Fields that are the same byte by byte, numbers put beside others, and files with their integers turned; over the width and the byte order.
-- Assumes nothing.
use mathlib.Core.Path.{◌≡◌, refl, sym, ap, ◌∙◌}
use mathlib.Core.Bool.{Bool, true}
use mathlib.Core.Logic.{⊎_elim, ◌⊎◌, inl, inr}
use mathlib.Core.List.{List, [], ◌∷◌, ◌++◌, append_assoc}
use Prim.Native.Nat.{ℕ, zero, suc, ◌+◌, ◌*◌, ◌/◌, ◌%◌, ◌^◌, ◌≤◌, ◌<◌}
use native.Mathlib.Omega.{arith}
use native.Mathlib.Nat.{zero-mul, eq-or-lt_of_le, le_of_suc-le-suc}
use lib.Dec.{leb}
use lib.ListN.{length, get_or, take, drop}
use lib.Seq.{take_at, drop_at, length-take-le}
use borrow.Author.Tests.{leb-true, leb-false}
use Rattle.laws.specs.Digits.{value, digits, all_below}
use Rattle.laws.specs.Writing.{written_at}
use Rattle.laws.proofs.Digits.{below_parts, below_at, below-cons, below_none, below-take, below-drop, below-append, value-below, digits_value, more-digits}
use Rattle.laws.proofs.Storing.{written_before, written_after}
use Rattle.laws.proofs.Tests.{bool_cases}
use Rattle.laws.proofs.Writing.{length_written}
use Rattle.fields.specs.declared.Order.{Order}
use Rattle.fields.specs.declared.Order.TheVariants.{Big, Little}
use Rattle.fields.specs.Number.{big, little, number, bytes_at, unsigned_at}
use Rattle.fields.specs.Written.{little_bytes, number_bytes, number_put}
use Rattle.fields.specs.Turned.{other, turned_to}
use Rattle.fields.proofs.Laws.{unsigned_bytes, big_word, length-number, put_fits, put_not, length_put, number_back}

-- ---- fields by their bytes

bytes_same : (w : ℕ) (xs ys : List ℕ) (i j n : ℕ) → ((k : ℕ) → n ≤ k → k < n + w → get_or xs (i + k) 0 ≡ get_or ys (j + k) 0)
    → bytes_at w xs i n ≡ bytes_at w ys j n
bytes_same zero xs ys i j n f = refl
bytes_same (suc w) xs ys i j n f = rw (f n (omega arith) (omega arith), bytes_same w xs ys i j (suc n) (λ k a b. f k (omega arith) (omega arith)))

-- fields of the same bytes are the same
pub unsigned_same : (order : Order) (w : ℕ) (xs ys : List ℕ) (i j : ℕ) → ((k : ℕ) → k < w → get_or xs (i + k) 0 ≡ get_or ys (j + k) 0)
    → unsigned_at order w xs i ≡ unsigned_at order w ys j
unsigned_same order w xs ys i j f =
    unsigned_bytes order w xs i
    ∙ (ap (number order) (bytes_same w xs ys i j 0 (λ k a b. f k (omega arith))) ∙ sym (unsigned_bytes order w ys j))

-- a field of bytes is below what its width can hold
length-bytes_at : (w : ℕ) (file : List ℕ) (at k : ℕ) → length (bytes_at w file at k) ≡ w
length-bytes_at zero file at k = refl
length-bytes_at (suc w) file at k = ap suc (length-bytes_at w file at (suc k))

bytes_at-below : (w : ℕ) (file : List ℕ) (at k : ℕ) → all_below 256 file ≡ true → all_below 256 (bytes_at w file at k) ≡ true
bytes_at-below zero file at k e = below_none 256
bytes_at-below (suc w) file at k e =
    below-cons 256 (get_or file (at + k) 0) (bytes_at w file at (suc k)) (below_at 256 (at + k) file (omega arith) e) (bytes_at-below w file at (suc k) e)

little-below : (bytes : List ℕ) → all_below 256 bytes ≡ true → number little bytes < 2 ^ (8 * length bytes)
little-below [] e = omega arith
little-below (b ∷ bytes) e =
    let p = below_parts 256 b bytes e in
    let l = more-digits 8 (length bytes) (little-below bytes p.1) p.0 in
    let q : 8 * (length bytes + 1) ≡ 8 * length (b ∷ bytes) = omega arith in
    let r : number little bytes * 2 ^ 8 + b ≡ number little (b ∷ bytes) = omega arith in
    rw (q, r) at l

number-below : (order : Order) (bytes : List ℕ) → all_below 256 bytes ≡ true → number order bytes < 2 ^ (8 * length bytes)
number-below Big bytes e = value-below 8 bytes e
number-below Little bytes e = little-below bytes e

pub unsigned_below : (order : Order) (w : ℕ) (file : List ℕ) (at : ℕ) → all_below 256 file ≡ true → unsigned_at order w file at < 2 ^ (8 * w)
unsigned_below order w file at e =
    rw (unsigned_bytes order w file at) (rw (length-bytes_at w file at 0) at (number-below order (bytes_at w file at 0) (bytes_at-below w file at 0 e)))

-- the bytes of a number are bytes
little-bytes-below : (w n : ℕ) → all_below 256 (little_bytes w n) ≡ true
little-bytes-below zero n = below_none 256
little-bytes-below (suc w) n = below-cons 256 (n % 256) (little_bytes w (n / 256)) (omega arith) (little-bytes-below w (n / 256))

digits-below : (w n : ℕ) → all_below 256 (digits 8 w n) ≡ true
unfolding digits
digits-below zero n = below_none 256
digits-below (suc w) n = below-cons 256 (n / 2 ^ (8 * w) % 2 ^ 8) (digits 8 w n) (omega arith) (digits-below w n)

number-bytes-below : (order : Order) (w n : ℕ) → all_below 256 (number_bytes order w n) ≡ true
number-bytes-below Big w n = digits-below w n
number-bytes-below Little w n = little-bytes-below w n

-- bytes are those of the number that they write
pub little_back : (bytes : List ℕ) → all_below 256 bytes ≡ true → little_bytes (length bytes) (number little bytes) ≡ bytes
little_back [] v = refl
little_back (x ∷ bytes) v =
    let p = below_parts 256 x bytes v in
    let here : (x + 256 * number little bytes) % 256 ≡ x = omega (arith, p.0) in
    let behind : (x + 256 * number little bytes) / 256 ≡ number little bytes = omega (arith, p.0) in
    rw (here, behind, little_back bytes p.1)

number-bytes_back : (order : Order) (bytes : List ℕ) → all_below 256 bytes ≡ true → number_bytes order (length bytes) (number order bytes) ≡ bytes
number-bytes_back Big bytes v =
    let z : 0 * 2 ^ (8 * length bytes) + value 8 0 bytes ≡ value 8 0 bytes = rw zero-mul (omega arith) in
    rw z at (digits_value 8 0 bytes v)
number-bytes_back Little bytes v = little_back bytes v

-- so the bytes of a field are those of its number
pub field_bytes_lem : (order : Order) (w : ℕ) (file : List ℕ) (at : ℕ) → all_below 256 file ≡ true → bytes_at w file at 0 ≡ number_bytes order w (unsigned_at order w file at)
unfolding unsigned_at
field_bytes_lem order w file at e =
    sym (rw (length-bytes_at w file at 0) at (number-bytes_back order (bytes_at w file at 0) (bytes_at-below w file at 0 e)))

swapped : (n : ℕ) → number big (little_bytes 4 n) ≡ number little (digits 8 4 n)
unfolding digits
swapped n =
    let e : n / 256 / 256 % 256 ≡ n / 65536 % 256 = omega arith in
    let f : n / 256 / 256 / 256 % 256 ≡ n / 16777216 % 256 = omega arith in
    let g : n / 1 % 256 ≡ n % 256 = omega arith in
    sym (big_word (n % 256) (n / 256 % 256) (n / 256 / 256 % 256) (n / 256 / 256 / 256 % 256)) ∙ rw (e, f, g) (omega arith)

-- four bytes of a number in one order, read in the other
pub bytes_swapped : (order : Order) (n : ℕ) → number (other order) (number_bytes order 4 n) ≡ number order (number_bytes (other order) 4 n)
bytes_swapped Big n = sym (swapped n)
bytes_swapped Little n = swapped n

-- ---- a number put at a place

module _ (order : Order) (w at n : ℕ) (range : List ℕ) where
  -- reads back there ..
  pub put_read : at + w ≤ length range → n < 2 ^ (8 * w) → unsigned_at order w (number_put order w at n range) at ≡ n
  put_read h l =
      let bytes = number_bytes order w n in
      let m = length-number order w n in
      let behind = bytes ++ drop (at + length bytes) range in
      let d : drop at (written_at at bytes range) ≡ behind = ap (drop at) (append_assoc (take at range) bytes (drop (at + length bytes) range))
      ∙ drop_at (take at range) behind at (length-take-le at range (omega arith)) in
      let t : take w (drop at (written_at at bytes range)) ≡ bytes = ap (take w) d ∙ take_at bytes (drop (at + length bytes) range) w m in
      rw (put_fits order w at n range h) (number_back order w n (written_at at bytes range) at
      (rw (length_written at bytes range (omega arith)) h) l t)

  -- .. and leaves every byte beside it
  pub put_beside : (k : ℕ) → (k < at) ⊎ (at + w ≤ k) → get_or (number_put order w at n range) k 0 ≡ get_or range k 0
  put_beside k h =
      bool_cases (leb (at + w) (length range))
      (λ e. rw (put_fits order w at n range (leb-true _ _ e)) (fits (leb-true _ _ e)))
      (λ e. rw (put_not order w at n range (leb-false _ _ e)))
    where
      fits : at + w ≤ length range → get_or (written_at at (number_bytes order w n) range) k 0 ≡ get_or range k 0
      fits l =
          let m = length-number order w n in
          ⊎_elim (λ b. written_before at (number_bytes order w n) range (omega arith) k 0 b)
          (λ b. written_after at (number_bytes order w n) range (omega arith) k 0 (omega arith)) h

  pub put_below : all_below 256 range ≡ true → all_below 256 (number_put order w at n range) ≡ true
  put_below e =
      bool_cases (leb (at + w) (length range))
      (λ t. rw (put_fits order w at n range (leb-true _ _ t))
      (below-append 256 (take at range ++ number_bytes order w n) (drop (at + length (number_bytes order w n)) range)
      (below-append 256 (take at range) (number_bytes order w n) (below-take 256 at range e) (number-bytes-below order w n))
      (below-drop 256 (at + length (number_bytes order w n)) range e)))
      (λ t. rw (put_not order w at n range (leb-false _ _ t)) e)

-- ---- a file with its integers turned

module _ (order : Order) (w : ℕ) (there : ℕ → Bool) (place : ℕ → ℕ) (file : List ℕ) where
  pub length_turned : (n : ℕ) → length (turned_to order w there place n file) ≡ length file
  length_turned zero = refl
  length_turned (suc n) =
      bool_cases (there n)
      (λ e. rw e (length_put (other order) w (place n) (unsigned_at order w file (place n)) (turned_to order w there place n file) ∙ length_turned n))
      (λ e. rw e (length_turned n))

  -- a byte beside all of them stays
  pub turned_beside : (n k : ℕ) → ((j : ℕ) → j < n → there j ≡ true → (k < place j) ⊎ (place j + w ≤ k))
      → get_or (turned_to order w there place n file) k 0 ≡ get_or file k 0
  turned_beside zero k f = refl
  turned_beside (suc n) k f =
      let rest = turned_beside n k (λ j l. f j (omega arith)) in
      bool_cases (there n)
      (λ e. rw e (put_beside (other order) w (place n) (unsigned_at order w file (place n)) (turned_to order w there place n file) k (f n (omega arith) e) ∙ rest))
      (λ e. rw e rest)

  -- an integer apart from all others is read in the other order
  pub turned_read : (n j : ℕ) → j < n → there j ≡ true → place j + w ≤ length file → unsigned_at order w file (place j) < 2 ^ (8 * w)
      → ((i : ℕ) → i < n → there i ≡ true → (i ≡ j → ⊥) → (place j + w ≤ place i) ⊎ (place i + w ≤ place j))
      → unsigned_at (other order) w (turned_to order w there place n file) (place j) ≡ unsigned_at order w file (place j)
  turned_read zero j l t h b f = absurd (let z : ⊥ = omega arith in z)
  turned_read (suc n) j l t h b f =
      ⊎_elim
      (λ e.
      rw (← e, t) (put_read (other order) w (place j) (unsigned_at order w file (place j)) (turned_to order w there place j file) (rw (length_turned j) h) b))
      (λ m.
      let rest = turned_read n j m t h b (λ i k. f i (omega arith)) in
      bool_cases (there n)
      (λ e. rw e (unsigned_same (other order) w _ _ (place j) (place j)
      (λ k c. put_beside (other order) w (place n) (unsigned_at order w file (place n)) (turned_to order w there place n file) (place j + k)
      (⊎_elim (λ x. inl (omega arith)) (λ x. inr (omega arith)) (f n (omega arith) e (λ z. omega arith))))
      ∙ rest))
      (λ e. rw e rest))
      (eq-or-lt_of_le (le_of_suc-le-suc l))

  -- bytes stay bytes
  pub turned_below : (n : ℕ) → all_below 256 file ≡ true → all_below 256 (turned_to order w there place n file) ≡ true
  turned_below zero e = e
  turned_below (suc n) e =
      let rest = turned_below n e in
      bool_cases (there n)
      (λ t. rw t (put_below (other order) w (place n) (unsigned_at order w file (place n)) (turned_to order w there place n file) rest))
      (λ t. rw t rest)
