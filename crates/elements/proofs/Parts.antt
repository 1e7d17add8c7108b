-- Integers, texts and their bytes: where they lie, and what number they are. Assumes nothing.
use mathlib.Core.Path.{◌≡◌, refl, sym, subst, ap, ◌∙◌}
use mathlib.Core.List.{List}
use mathlib.Core.Bool.{Bool, true, false, cond, not, ◌&&◌}
use Prim.Native.Nat.{ℕ, zero, suc, ◌+◌, ◌-◌, ◌*◌, ◌/◌, ◌^◌, ◌≤◌, ◌<◌}
use lib.Pow.{pow-add}
use native.Mathlib.Nat.{mul-suc, pow-suc, pow-le-pow_right, lt_of_lt_of_le}
use native.Mathlib.Omega.{arith}
use borrow.Author.Tests.{lt-ltb, le-ltb, le-leb, eq-eqb, ltb-true, leb-true, eqb-true, not-true}
use lib.ListN.{length, get_or, take, drop, drop_of_length-le, length-drop}
use lib.Seq.{drop-cons, length-take-le}
use lib.Dec.{ltb, leb, eqb}
use lib.IntN.{pos, negsuc}
use mir.Syntax.{w64}
use mir.Val.{to_z}
use mir.ValLaws.{to_z_pos, to_z-neg}
use Rattle.laws.specs.Digits.{value, all_below}
use Rattle.laws.proofs.Tests.{both_pass}
use Rattle.laws.proofs.Digits.{value-below}
use Rattle.laws.proofs.Choices.{cond_elim}
use Rattle.laws.proofs.Places.{every_at}
use Rattle.fields.specs.Number.{signed}
use Rattle.answers.specs.declared.Refusal.TheVariants.{BadHeader}
use Rattle.elements.specs.declared.Span.{Span}
use Rattle.std.specs.Prelude.{Result, Ok, Err}
use Rattle.answers.specs.declared.Refusal.{Refusal}
use Rattle.elements.specs.Grammar.{in_range}
use Rattle.elements.specs.Parts.{span, bytes_of, part_at, is_padded, integer_allowed, integer_part, long_part, text_part, Within, integer_of, integer_in, integer_at}
use Rattle.elements.specs.Shortest.{twos_complement}
use Rattle.elements.specs.Statement.{IntegerBytes}
use Rattle.elements.proofs.Padded.{false_unpadded, unpadded_false}

pub bytes-length : (s : List ℕ) (at n : ℕ) → at + n ≤ length s → length (bytes_of s at n) ≡ n
bytes-length s at n h = length-take-le n (drop at s) (rw length-drop (omega arith))

-- ---- allowed integers

module _ (bytes : List ℕ) where
  pub allowed-some : (padded : Bool) → 1 ≤ length bytes → length bytes ≤ 8 → padded ≡ is_padded bytes → not padded ≡ integer_allowed bytes
  unfolding integer_allowed
  allowed-some padded h l p = rw (le-leb _ _ h, le-leb _ _ l) (ap not p)

pub allowed-bytes : (bytes : List ℕ) → integer_allowed bytes ≡ true → IntegerBytes bytes
unfolding integer_allowed
allowed-bytes bytes e =
    let p = both_pass (leb 1 (length bytes) && leb (length bytes) 8) (not (is_padded bytes)) e in
    let q = both_pass (leb 1 (length bytes)) (leb (length bytes) 8) p.0 in
    record {
      some = leb-true 1 (length bytes) q.0;
      few = leb-true (length bytes) 8 q.1;
      unpadded = false_unpadded bytes (not-true _ p.1);
    }

pub bytes-allowed : (bytes : List ℕ) → IntegerBytes bytes → integer_allowed bytes ≡ true
bytes-allowed bytes b = sym (allowed-some bytes false b.some b.few (sym (unpadded_false bytes b.unpadded)))

-- ---- where the bytes lie: past `lo`, and within s

abbrev pub Past : List ℕ → ℕ → Result Span Refusal → Type 0
Past s lo (Ok t) = (lo < t.start) × (t.start + t.len ≤ length s)
Past s lo (Err r) = Unit {0}

part_past : (s : List ℕ) (lo at n : ℕ) → lo < at → Past s lo (part_at s at n)
unfolding part_at
part_past s lo at n h = cond_elim (Past s lo) (leb (at + n) (length s)) (λ e. (h, leb-true _ _ e)) (λ e. tt)

-- an integer that was read: its length byte, its start, its size
pub record IntegerRead (s : List ℕ) (at : ℕ) (t : Span) : Type 0 where
  pub there : at < length s
  pub starts : t.start ≡ at + 1
  pub sized : t.len ≡ get_or s at 0
  pub some : 1 ≤ t.len
  pub few : t.len ≤ 8
  pub fits : t.start + t.len ≤ length s
  pub allowed : integer_allowed (bytes_of s (at + 1) (get_or s at 0)) ≡ true

abbrev Reads : List ℕ → ℕ → Result Span Refusal → Type 0
Reads s at (Ok t) = IntegerRead s at t
Reads s at (Err r) = Unit {0}

integer-reads : (s : List ℕ) (at : ℕ) → Reads s at (integer_part s at)
unfolding integer_part
integer-reads s at =
    let n = get_or s at 0 in
    cond_elim (Reads s at) (ltb at (length s) && leb (at + 1 + n) (length s) && integer_allowed (bytes_of s (at + 1) n))
    (λ e.
    let p = both_pass (ltb at (length s) && leb (at + 1 + n) (length s)) (integer_allowed (bytes_of s (at + 1) n)) e in
    let q = both_pass (ltb at (length s)) (leb (at + 1 + n) (length s)) p.0 in
    let f : at + 1 + n ≤ length s = leb-true _ _ q.1 in
    let l : length (bytes_of s (at + 1) n) ≡ n = bytes-length s (at + 1) n f in
    let a = allowed-bytes (bytes_of s (at + 1) n) p.1 in
    record { there = ltb-true _ _ q.0; starts = refl; sized = refl; some = rw l at a.some; few = rw l at a.few; fits = f; allowed = p.1 })
    (λ e. tt)

pub integer-read : (s : List ℕ) (at : ℕ) (t : Span) → integer_part s at ≡ Ok t → IntegerRead s at t
integer-read s at t e = subst (λ (x : Result Span Refusal). Reads s at x) e (integer-reads s at)

read_past : (s : List ℕ) (at : ℕ) (x : Result Span Refusal) → Reads s at x → Past s at x
read_past s at (Ok t) r = let e = r.starts in (omega arith, r.fits)
read_past s at (Err e) r = tt

pub integer-past : (s : List ℕ) (at : ℕ) → Past s at (integer_part s at)
integer-past s at = read_past s at (integer_part s at) (integer-reads s at)

long-past : (s : List ℕ) (lo at k : ℕ) → lo < at → Past s lo (long_part s at k)
unfolding long_part
long-past s lo at k h =
    cond_elim (Past s lo) (leb (at + k) (length s)) (λ e. part_past s lo (at + k) (value 8 0 (bytes_of s at k)) (omega arith)) (λ e. tt)

pub text-past : (s : List ℕ) (at : ℕ) → Past s at (text_part s at)
unfolding text_part
text-past s at =
    cond_elim (Past s at) (ltb at (length s))
    (λ e. cond_elim (Past s at) (ltb (get_or s at 0) 128) (λ e. part_past s at (at + 1) (get_or s at 0) (omega arith))
    (λ e. cond_elim (Past s at) (in_range 129 132 (get_or s at 0)) (λ e. long-past s at (at + 1) (get_or s at 0 - 128) (omega arith)) (λ e. tt)))
    (λ e. tt)

past-within : (s : List ℕ) (lo : ℕ) (x : Result Span Refusal) → Past s lo x → Within s x
past-within s lo (Ok t) p = p.1
past-within s lo (Err r) p = tt

pub text-within : (s : List ℕ) (at : ℕ) (x : Result Span Refusal) → x ≡ text_part s at → Within s x
text-within s at x e = rw e (past-within s at (text_part s at) (text-past s at))

pub range_parts : (low high b : ℕ) → in_range low high b ≡ true → (low ≤ b) × (b ≤ high)
range_parts low high b e = let p = both_pass (leb low b) (leb b high) e in (leb-true low b p.0, leb-true b high p.1)

-- ---- numbers of at most 8 bytes

-- i digits, i below 8, leave room for one more
pub room : (i x : ℕ) → i < 8 → x < 2 ^ (8 * i) → x < 72057594037927936
room i x h l = lt_of_lt_of_le l (pow-le-pow_right {n = 2} (omega arith) {j = 56} (omega arith))

-- one byte more, and none left
pub value-next : (s : List ℕ) (i x b : ℕ) → i < length s → b ≡ get_or s i 0 → value 8 (x * 256 + b) (drop (i + 1) s) ≡ value 8 x (drop i s)
unfolding value
value-next s i x b l e = let g : i + 1 ≡ suc i = omega arith in rw (g, e, drop-cons s i 0)

pub value-last : (s : List ℕ) (i x : ℕ) → length s ≤ i → value 8 x (drop i s) ≡ x
unfolding value
value-last s i x l = rw (drop_of_length-le s l)

-- the largest number of n bytes
pub largest : (n : ℕ) → n ≤ 8 → 18446744073709551615 / 2 ^ (64 - 8 * n) + 1 ≡ 256 ^ n
largest n h = eqb-true _ _ (every_at (λ i. eqb (18446744073709551615 / 2 ^ (64 - 8 * i) + 1) (256 ^ i)) 9 n (omega arith) refl)

even : (n : ℕ) → 1 ≤ n → (k : ℕ) × (256 ^ n ≡ k * 256)
even n h = let e : n ≡ suc (n - 1) = omega arith in (256 ^ (n - 1), ap (λ (x : ℕ). 256 ^ x) e ∙ pow-suc 256 (n - 1))

-- x is the number of some bytes, and most the largest of as many bytes
pub record Counted (bytes : List ℕ) (x most : ℕ) : Type 0 where
  pub some : 1 ≤ length bytes
  pub few : length bytes ≤ 8
  pub small : all_below 256 bytes ≡ true
  pub is : x ≡ value 8 0 bytes
  pub top : most + 1 ≡ 256 ^ length bytes

pub byte_power : (n : ℕ) → 2 ^ (8 * n) ≡ 256 ^ n
byte_power zero = refl
byte_power (suc n) =
    let e : 8 * suc n ≡ 8 * n + 8 = mul-suc 8 n in
    ap (λ (k : ℕ). 2 ^ k) e ∙ pow-add 2 (8 * n) 8 ∙ ap (λ (k : ℕ). k * 256) (byte_power n) ∙ sym (pow-suc 256 n)

-- what so many bytes write is below so many powers of 256
pub value-bytes : (bytes : List ℕ) → all_below 256 bytes ≡ true → value 8 0 bytes < 256 ^ length bytes
value-bytes bytes e = let v = value-below 8 bytes e in rw (byte_power (length bytes)) at v

-- two's complement of w bytes: the upper half of the numbers are the negative ones
module _ (w x : ℕ) where
  pub signed_pos : x < 256 ^ w / 2 → signed w x ≡ pos x
  signed_pos h = rw (lt-ltb _ _ h)

  pub signed_neg : 256 ^ w / 2 ≤ x → signed w x ≡ negsuc (256 ^ w - suc x)
  signed_neg h = rw (le-ltb _ _ h)

module _ {bytes : List ℕ} {x most : ℕ} (c : Counted bytes x most) where
  -- a number is at most the largest of as many bytes
  pub value-small : x ≤ most
  value-small = let u : value 8 0 bytes < 256 ^ length bytes = value-bytes bytes c.small in omega (arith, c.is, c.top)

  pub most-fits : most ≤ 18446744073709551615
  most-fits = let p : 256 ^ length bytes ≤ 256 ^ 8 = pow-le-pow_right {n = 256} (omega arith) {i = length bytes} {j = 8} c.few in omega (arith, c.top)

  half : 256 ^ length bytes / 2 ≡ most / 2 + 1
  half = let k = even (length bytes) c.some in omega (arith, c.top)

  -- the machine's number of each half
  pub signed_low : x ≤ most / 2 → to_z w64 x ≡ twos_complement bytes
  signed_low h =
      let l : x < 256 ^ length bytes / 2 = omega (arith, half) in
      let e : to_z w64 x ≡ signed (length bytes) x = to_z_pos w64 x (omega (arith, most-fits)) ∙ sym (signed_pos (length bytes) x l) in
      e ∙ ap (signed (length bytes)) c.is

  pub signed_high : most / 2 < x → to_z w64 (18446744073709551615 - (most - x)) ≡ twos_complement bytes
  signed_high h =
      let u = value-small in
      let t = most-fits in
      let g : 256 ^ length bytes / 2 ≤ x = omega (arith, half) in
      let y : 256 ^ length bytes - suc x ≡ most - x = omega (arith, c.top) in
      let k : most - x < 9223372036854775808 = omega arith in
      let z : 18446744073709551615 - (most - x) ≡ 18446744073709551616 - suc (most - x) = omega arith in
      let e : to_z w64 (18446744073709551616 - suc (most - x)) ≡ signed (length bytes) x =
      to_z-neg w64 (most - x) k ∙ ap negsuc (sym y) ∙ sym (signed_neg (length bytes) x g) in
      ap (to_z w64) z ∙ e ∙ ap (signed (length bytes)) c.is

-- ---- what the code's tests show

-- a part that is read: it starts at its place, has its size, and ends within the file
pub part_is : (s : List ℕ) (at n : ℕ) (t : Span) → Ok t ≡ part_at s at n → (t ≡ span at n) × (at + n ≤ length s)
unfolding part_at
part_is s at n t =
    cond_elim (λ (x : Result Span Refusal). Ok t ≡ x → (t ≡ span at n) × (at + n ≤ length s)) (leb (at + n) (length s))
    (λ q e. let w : t ≡ span at n = cc in (w, leb-true _ _ q)) (λ _ e. absurd (let z : ◌≡◌ {A = ℕ} 0 1 = cc in omega arith))

pub part_ends : (s : List ℕ) (at n : ℕ) (t : Span) → Ok t ≡ part_at s at n → t.start + t.len ≤ length s
part_ends s at n t e = let p = part_is s at n t e in rw p.0 p.1

-- the bytes of a part, as the code takes them, and their number
pub part_bytes : (s : List ℕ) (at n : ℕ) → take (at + n - at) (drop at s) ≡ bytes_of s at n
part_bytes s at n = let e : at + n - at ≡ n = omega arith in rw e

pub part_length : (s : List ℕ) (at n : ℕ) → at + n ≤ length s → length (take (at + n - at) (drop at s)) ≡ n
part_length s at n h = rw (part_bytes s at n) (bytes-length s at n h)

pub part_number : (s : List ℕ) (at n : ℕ) → at + n ≤ length s → twos_complement (take (at + n - at) (drop at s)) ≡ integer_of s at n
part_number s at n h = rw (part_bytes s at n, bytes-length s at n h)

module _ (s : List ℕ) (at n : ℕ) (h : at < length s) (e : n ≡ get_or s at 0) where
  pub integer-cut : (r : Refusal) → Err r ≡ part_at s (at + 1) n → Err r ≡ integer_part s at
  unfolding part_at integer_part
  integer-cut r =
      cond_elim (λ (x : Result Span Refusal). Err r ≡ x → Err r ≡ integer_part s at) (leb (at + 1 + n) (length s))
      (λ _ q. absurd (let z : ◌≡◌ {A = ℕ} 0 1 = cc in omega arith)) (λ f q. q ∙ (let w : ◌≡◌ {A = Result Span Refusal} (Err BadHeader) (integer_part s at) = rw (lt-ltb _ _ h, ← e, f) in w))

  pub integer_tested : (b : Bool) (t : Span) → Ok t ≡ part_at s (at + 1) n → b ≡ integer_allowed (take (t.start + t.len - t.start) (drop t.start s))
      → cond b (Ok t) (Err BadHeader) ≡ integer_part s at
  unfolding integer_part
  integer_tested b t q a =
      let p = part_is s (at + 1) n t q in
      let d : b ≡ integer_allowed (bytes_of s (at + 1) n) = a ∙ ap integer_allowed (rw p.0 (part_bytes s (at + 1) n)) in
      rw (lt-ltb _ _ h, ← e, le-leb _ _ p.1, p.0, d)

pub within_part : (s : List ℕ) (x : Result Span Refusal) (t : Span) → Within s x → x ≡ Ok t → t.start + t.len ≤ length s
within_part s x t w e = subst (λ (y : Result Span Refusal). Within s y) e w

-- ---- the integer element

pub integer-is : (s : List ℕ) (at b : ℕ) {x z : Result Span Refusal} → b ≡ get_or s at 0 → b ≡ 2 → x ≡ integer_part s (at + 1) → x ≡ z
    → integer_in s z ≡ integer_at s at
unfolding integer_at
integer-is s at b e q p u = rw (← e, eq-eqb _ _ q, ← p, u)
