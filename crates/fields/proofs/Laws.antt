-- Laws of fields, over the width and the byte order. Assumes nothing.
use mathlib.Core.Path.{◌≡◌, refl, sym, ap, ◌∙◌}
use mathlib.Core.Bool.{Bool, true, false, cond}
use mathlib.Core.List.{List, [], ◌∷◌}
use Prim.Native.Nat.{ℕ, zero, suc, ◌+◌, ◌*◌, ◌-◌, ◌/◌, ◌%◌, ◌^◌, ◌≤◌, ◌<◌}
use native.Mathlib.Omega.{arith}
use native.Mathlib.Nat.{add-zero, mod-eq_of_lt}
use native.Mathlib.Numerals.{add-one, add-two, add-three}
use lib.ListN.{length, get_or, take, drop, get_or-eq_default}
use lib.Pow.{mod-pow-add, pow-add}
use lib.Seq.{drop-cons}
use lib.Dec.{ltb, leb}
use borrow.Author.Tests.{le-leb, lt-leb, leb-true, leb-false}
use lib.IntN.{ℤ}
use lib.Signed.{mag}
use mir.Syntax.{Width, w8, w16, w32, w64, w128}
use mir.Val.{to_z, of_z, sel, bytes, hbits}
use mir.ValLaws.{to_z-of_z}
use Rattle.laws.specs.Digits.{value, digits}
use Rattle.std.specs.Int.{byte_at, bytes_low_first, bytes_high_first}
use Rattle.std.proofs.Math.Nat.{div-div-eq-div-mul}
use Rattle.laws.specs.Writing.{written_at}
use Rattle.laws.proofs.Digits.{length_digits, value-digits}
use Rattle.laws.proofs.Tests.{bool_cases}
use Rattle.laws.proofs.Writing.{length_written}
use Rattle.fields.specs.declared.Order.{Order}
use Rattle.fields.specs.declared.Order.TheVariants.{Big, Little}
use Rattle.fields.specs.Number.{big, little, number, bytes_at, unsigned_at, signed, signed_at}
use Rattle.fields.specs.Written.{little_bytes, number_bytes, bytes_put, number_put}

pub unsigned_bytes : (order : Order) (w : ℕ) (file : List ℕ) (at : ℕ) → unsigned_at order w file at ≡ number order (bytes_at w file at 0)
unfolding unsigned_at
unsigned_bytes order w file at = refl

sel_cond : (b : Bool) (x y : ℤ) → sel b x y ≡ cond b x y
sel_cond true x y = refl
sel_cond false x y = refl

-- the machine's signed reading is two's complement, at every width
pub machine_signed : (w : Width) (n : ℕ) → to_z w n ≡ signed (bytes w) n
machine_signed w8 n = sel_cond (ltb n 128) _ _
machine_signed w16 n = sel_cond (ltb n 32768) _ _
machine_signed w32 n = sel_cond (ltb n 2147483648) _ _
machine_signed w64 n = sel_cond (ltb n 9223372036854775808) _ _
machine_signed w128 n = sel_cond (ltb n (2 ^ 127)) _ _

-- a signed field is its unsigned one in two's complement, read again from the machine's bits, in every order and at every width
pub signed_field : (order : Order) (w : Width) (file : List ℕ) (at : ℕ) {r : ℤ} {u : ℕ} → mag r < 2 ^ hbits w → r ≡ signed (bytes w) u
    → u ≡ unsigned_at order (bytes w) file at → to_z w (of_z w r) ≡ signed_at order (bytes w) file at
unfolding signed_at
signed_field order w file at h e f = to_z-of_z w _ (record { sfits = h }) ∙ (e ∙ ap (signed (bytes w)) f)

pub past_end : (file : List ℕ) (at : ℕ) → length file ≤ at → 0 ≡ get_or file at 0
past_end file at h = sym (get_or-eq_default file 0 h)

-- the room that the code tests, without a sum that could overflow
pub room : (at w n : ℕ) → w ≤ n → leb at (n - w) ≡ leb (at + w) n
room at w n h =
    bool_cases (leb at (n - w))
    (λ e. e ∙ sym (le-leb (at + w) n (omega (arith, leb-true at (n - w) e))))
    (λ e. e ∙ sym (lt-leb (at + w) n (omega (arith, leb-false at (n - w) e))))

-- ---- a field by its bytes

-- four bytes one by one
pub four_bytes : (file : List ℕ) (at k : ℕ)
    → bytes_at 4 file at k ≡ get_or file (at + k) 0 ∷ get_or file (at + (k + 1)) 0 ∷ get_or file (at + (k + 2)) 0 ∷ get_or file (at + (k + 3)) 0 ∷ []
four_bytes file at k = rw (add-one k, add-two k, add-three k)

-- the same as the code reads them
pub four_read : (file : List ℕ) (at k : ℕ) {a b c d : ℕ} → a ≡ get_or file (at + k) 0 → b ≡ get_or file (at + (k + 1)) 0
    → c ≡ get_or file (at + (k + 2)) 0 → d ≡ get_or file (at + (k + 3)) 0 → ◌≡◌ {A = List ℕ} (a ∷ b ∷ c ∷ d ∷ []) (bytes_at 4 file at k)
four_read file at k e f g h = rw (four_bytes file at k, e, f, g, h)

-- a lowest byte put before the others, at every width
low_byte : (w b n : ℕ) → b < 256 → little_bytes (suc w) (b + 256 * n) ≡ b ∷ little_bytes w n
low_byte w b n h =
    let m : (b + 256 * n) % 256 ≡ b = omega arith in
    let d : (b + 256 * n) / 256 ≡ n = omega arith in
    rw (m, d)

pub word_bytes : (a b c d : ℕ) → a < 256 → b < 256 → c < 256 → d < 256
    → little_bytes 4 (a + b * 256 + c * 65536 + d * 16777216) ≡ a ∷ b ∷ c ∷ d ∷ []
word_bytes a b c d e f g h =
    let n : a + b * 256 + c * 65536 + d * 16777216 ≡ a + 256 * (b + 256 * (c + 256 * (d + 256 * 0))) = omega arith in
    rw (n, low_byte 3 a (b + 256 * (c + 256 * (d + 256 * 0))) e, low_byte 2 b (c + 256 * (d + 256 * 0)) f, low_byte 1 c (d + 256 * 0) g, low_byte 0 d 0 h)

pub big_word : (a b c d : ℕ) → d + c * 256 + b * 65536 + a * 16777216 ≡ number big (a ∷ b ∷ c ∷ d ∷ [])
unfolding value
big_word a b c d = omega arith

-- a field is the number of its bytes, in every order and at every width
pub field_number : (order : Order) (w n : ℕ) (file : List ℕ) (at : ℕ) {r : ℕ} → r ≡ number order (little_bytes w n)
    → little_bytes w n ≡ bytes_at w file at 0 → r ≡ unsigned_at order w file at
unfolding unsigned_at
field_number order w n file at e f = e ∙ ap (number order) f

-- a field of eight bytes by the numbers of its halves
module _ (file : List ℕ) (at m n : ℕ) (f : little_bytes 4 m ≡ bytes_at 4 file at 0) (g : little_bytes 4 n ≡ bytes_at 4 file at 4) where
  halves : (order : Order) {a b : ℕ} → a ≡ number order (little_bytes 4 m) → b ≡ number order (little_bytes 4 n)
      → (a ≡ number order (bytes_at 4 file at 0)) × (b ≡ number order (bytes_at 4 file at 4))
  halves order d e = (d ∙ ap (number order) f, e ∙ ap (number order) g)

  pub big_halves : {a b : ℕ} → a ≡ number big (little_bytes 4 m) → b ≡ number big (little_bytes 4 n)
      → a * 4294967296 + b ≡ unsigned_at big 8 file at
  unfolding unsigned_at value
  big_halves d e = let h = halves big d e in omega (arith, h.0, h.1)

  pub little_halves : {a b : ℕ} → a ≡ number little (little_bytes 4 m) → b ≡ number little (little_bytes 4 n)
      → b * 4294967296 + a ≡ unsigned_at little 8 file at
  unfolding unsigned_at
  little_halves d e = let h = halves little d e in omega (arith, h.0, h.1)

-- ---- numbers written

pub length-little : (w n : ℕ) → length (little_bytes w n) ≡ w
length-little zero n = refl
length-little (suc w) n = ap suc (length-little w (n / 256))

module _ (order : Order) (w : ℕ) where
  pub length-number : (n : ℕ) → length (number_bytes order w n) ≡ w
  length-number = by order
    where
      by : (o : Order) (n : ℕ) → length (number_bytes o w n) ≡ w
      by Big n = length_digits 8 w n
      by Little n = length-little w n

  pub put_fits : (at n : ℕ) (range : List ℕ) → at + w ≤ length range → number_put order w at n range ≡ written_at at (number_bytes order w n) range
  unfolding number_put
  put_fits at n range h = rw (le-leb (at + w) (length range) h)

  pub put_not : (at n : ℕ) (range : List ℕ) → length range < at + w → number_put order w at n range ≡ range
  unfolding number_put
  put_not at n range h = rw (lt-leb (at + w) (length range) h)

  pub length_put : (at n : ℕ) (range : List ℕ) → length (number_put order w at n range) ≡ length range
  length_put at n range =
      bool_cases (leb (at + w) (length range))
      (λ e. let h : at + w ≤ length range = leb-true _ _ e in
      rw (put_fits at n range h) (length_written at (number_bytes order w n) range (rw (length-number n) h)))
      (λ e. rw (put_not at n range (leb-false _ _ e)))

pub little-cons : (w m n : ℕ) → w ≡ suc m → little_bytes w n ≡ n % 256 ∷ little_bytes m (n / 256)
little-cons w m n e = rw e

-- ---- a number read where its bytes stand

little-value : (w n : ℕ) → number little (little_bytes w n) ≡ n % 2 ^ (8 * w)
little-value zero n = omega arith
little-value (suc w) n =
    let e : 8 * suc w ≡ 8 * w + 8 = omega arith in
    let r = little-value w (n / 256) in
    rw (e, mod-pow-add n (8 * w) 8) (omega arith)

-- the bytes of a number write its lowest w bytes, in every order
pub bytes-number : (order : Order) (w n : ℕ) → number order (number_bytes order w n) ≡ n % 2 ^ (8 * w)
bytes-number Big w n = value-digits 8 w n
bytes-number Little w n = little-value w n

-- the bytes of a field that lies inside the file
pub bytes_inside : (w : ℕ) (file : List ℕ) (at k : ℕ) → at + k + w ≤ length file → bytes_at w file at k ≡ take w (drop (at + k) file)
bytes_inside zero file at k h = refl
bytes_inside (suc w) file at k h =
    let e : at + suc k ≡ suc (at + k) = omega arith in
    rw (drop-cons file (at + k) 0 (omega arith), bytes_inside w file at (suc k) (omega arith), e)

-- a number reads back from the place where its bytes stand
pub number_back : (order : Order) (w n : ℕ) (file : List ℕ) (at : ℕ) → at + w ≤ length file → n < 2 ^ (8 * w)
    → take w (drop at file) ≡ number_bytes order w n → unsigned_at order w file at ≡ n
unfolding unsigned_at
number_back order w n file at h l e =
    let k : at + 0 ≡ at = add-zero at in
    ap (number order) (bytes_inside w file at 0 (omega arith) ∙ ap (λ (x : ℕ). take w (drop x file)) k ∙ e)
    ∙ bytes-number order w n
    ∙ mod-eq_of_lt l

-- ---- std's bytes of a number

byte_there : (i n : ℕ) → byte_at i n ≡ n / 256 ^ i % 256
byte_there zero n = let e : n / 1 ≡ n = omega arith in rw e
byte_there (suc i) n = refl

low-first : (i w n : ℕ) → bytes_low_first i w n ≡ little_bytes w (n / 256 ^ i)
low-first i zero n = refl
low-first i (suc w) n =
    let e : n / 256 ^ i / 256 ≡ n / 256 ^ suc i = div-div-eq-div-mul n (256 ^ i) 256 ∙ ap (λ (x : ℕ). n / x) (omega arith) in
    rw (byte_there i n, e, low-first (suc i) w n)

byte_power : (w : ℕ) → 256 ^ w ≡ 2 ^ (8 * w)
byte_power zero = refl
byte_power (suc w) = let e : 8 * suc w ≡ 8 * w + 8 = omega arith in rw (e, pow-add 2 (8 * w) 8) (omega (arith, byte_power w))

high-first : (w n : ℕ) → bytes_high_first w n ≡ digits 8 w n
unfolding digits
high-first zero n = refl
high-first (suc w) n = rw (byte_there w n, high-first w n, byte_power w)

-- the lowest first, and the highest first
pub bytes-little : (w n : ℕ) → bytes_low_first 0 w n ≡ number_bytes little w n
bytes-little w n = let e : n / 256 ^ 0 ≡ n = omega arith in low-first 0 w n ∙ rw e

pub bytes-big : (w n : ℕ) → bytes_high_first w n ≡ number_bytes big w n
bytes-big w n = high-first w n

-- the bytes of a number put, where the code has made them
pub put_by : (order : Order) (w at n : ℕ) (bytes range : List ℕ) → bytes ≡ number_bytes order w n → bytes_put at bytes range ≡ number_put order w at n range
unfolding number_put
put_by order w at n bytes range e = rw (e, length-number order w n)
