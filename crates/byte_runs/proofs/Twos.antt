-- 2-bit packets of codes that are read four at once, and codes that are all below 4. Assumes nothing.
use mathlib.Core.Path.{◌≡◌, refl, sym, ap, ◌∙◌}
use mathlib.Core.Bool.{Bool, true, ◌&&◌, and-true, and_assoc}
use mathlib.Core.List.{List, [], ◌∷◌}
use Prim.Native.Nat.{ℕ, zero, suc, ◌+◌, ◌*◌, ◌-◌, ◌/◌, ◌%◌, ◌^◌, ◌≤◌, ◌<◌}
use native.Mathlib.Numerals.{add-one}
use native.Mathlib.Omega.{arith}
use borrow.Author.Tests.{eq-eqb, eqb-true, ltb-true, ltb-false}
use lib.Dec.{eqb, ltb}
use lib.Bits.{bit_and, bit_or, and_mod, and_le_r, or_shr}
use lib.ListN.{length, take, drop, get_or, length-drop}
use lib.Seq.{get_or-take, get_or-drop, length-take-le, drop-drop}
use Rattle.laws.specs.Places.{every}
use Rattle.laws.proofs.Digits.{below_at, below_all}
use Rattle.laws.proofs.Numbers.{bytes_of}
use borrow.Rule.Slice.PartMut.{mid_of}
use Rattle.laws.proofs.Parts.{part_rest}
use Rattle.laws.proofs.Places.{every_at, every-all}
use Rattle.laws.proofs.Tests.{bool_cases, both_pass}
use Rattle.packets.specs.Packing.{four_from, plain, two_bit_part}
use Rattle.packets.proofs.Bases.{quarters, bases-sum}
use Rattle.packets.proofs.Faults.{or_none}
use Rattle.packets.proofs.Packing.{plain-long, plain-below, below_plain}
use Rattle.byte_runs.specs.Packed.{FourBases, moved, plain_parts}

-- ---- four codes as one number

-- pairs of codes, and the two pairs, as the code shifts them
abbrev pub Pairs : ℕ → ℕ
Pairs codes = bit_and (bit_or (codes * 4) (codes / 256)) 0x000f000f

pub pairs_low : (codes : ℕ) → Pairs codes % 65536 ≤ 15
pairs_low codes = rw (and_mod (bit_or (codes * 4) (codes / 256)) 0x000f000f 16) (and_le_r (bit_or (codes * 4) (codes / 256) % 65536) 15)

pub pairs_high : (codes : ℕ) → Pairs codes / 65536 ≤ 15
pairs_high codes = omega (arith, and_le_r (bit_or (codes * 4) (codes / 256)) 0x000f000f)

bytes-sum : (n : ℕ) → n ≡ n % 256 + n / 256 % 256 * 256 + n / 65536 % 256 * 65536 + n / 16777216 * 16777216
bytes-sum n =
    let q : n / 256 / 256 ≡ n / 65536 = omega arith in
    let r : n / 65536 / 256 ≡ n / 16777216 = omega arith in
    omega arith

pub bases-below : (n : ℕ) → FourBases n → n < 2 ^ 30
bases-below n h = omega (arith, h.3)

-- all are tried
spread : ℕ → ℕ
spread v = v / 64 + v / 16 % 4 * 256 + v / 4 % 4 * 65536 + v % 4 * 16777216

alike : ℕ → Bool
unfolding spread
alike v = eqb (Pairs (spread v) % 65536 * 16 + Pairs (spread v) / 65536) (moved (spread v))

all_alike : every alike 256 ≡ true
unfolding alike spread
all_alike = refl

spread_back : (a b c d : ℕ) → a < 4 → b < 4 → c < 4 → d < 4 → spread (a * 64 + b * 16 + c * 4 + d) ≡ a + b * 256 + c * 65536 + d * 16777216
unfolding spread
spread_back a b c d ha hb hc hd =
    let q = quarters a b c d (a * 64 + b * 16 + c * 4 + d) refl ha hb hc hd in
    rw (q.0, q.1, q.2, q.3)

pub shifted_moved : (n : ℕ) → FourBases n → Pairs n % 65536 * 16 + Pairs n / 65536 ≡ moved n
unfolding alike
shifted_moved n h =
    let a = n % 256 in
    let b = n / 256 % 256 in
    let c = n / 65536 % 256 in
    let d = n / 16777216 in
    let v = a * 64 + b * 16 + c * 4 + d in
    let k : v < 256 = omega (arith, h.0, h.1, h.2, h.3) in
    let e : spread v ≡ n = spread_back a b c d h.0 h.1 h.2 h.3 ∙ sym (bytes-sum n) in
    rw e at (eqb-true (Pairs (spread v) % 65536 * 16 + Pairs (spread v) / 65536) (moved (spread v)) (every_at alike 256 v k all_alike))

-- ---- fifteen codes

module _ (cs : List ℕ) (e : plain 15 cs ≡ true) where
  code : (k : ℕ) → k < 15 → get_or cs k 0 < 4
  code k h = rw (get_or-take 15 cs k 0 h) at (below_at 4 k (take 15 cs) (omega arith) (plain-below 15 cs e))

  pub four_bases : (i n : ℕ) → i ≤ 11 → n ≡ four_from cs i → FourBases n
  four_bases i n h f =
      let c₀ = code i (omega arith) in
      let c₁ = code (i + 1) (omega arith) in
      let c₂ = code (i + 2) (omega arith) in
      let c₃ = code (i + 3) (omega arith) in
      let b = bytes_of n (get_or cs i 0) (get_or cs (i + 1) 0) (get_or cs (i + 2) 0) (get_or cs (i + 3) 0) f (omega arith) (omega arith) (omega arith)
      (omega arith) in
      (omega (arith, b.0), omega (arith, b.1), omega (arith, b.2), omega (arith, b.3))

  pub two_sum : (x y z w a b c d : ℕ) → x ≡ moved a → a ≡ four_from cs 0 → y ≡ moved b → b ≡ four_from cs 4 → z ≡ moved c → c ≡ four_from cs 8
      → w ≡ moved d → d ≡ four_from cs 11 → x * 4194304 + y * 16384 + z * 64 + w % 64 ≡ two_bit_part cs
  two_sum x y z w a b c d ex ea ey eb ez ec ew ed =
      bases-sum cs e x y z w (ex ∙ ap moved ea) (ey ∙ ap moved eb) (ez ∙ ap moved ec) (ew ∙ ap moved ed)

-- ---- many codes

-- a code below 4 has no bit above the lowest two, and neither have two such put together
quarter : (x : ℕ) → ltb x 4 ≡ eqb (x / 4) 0
quarter x =
    bool_cases (ltb x 4)
    (λ t. t ∙ sym (eq-eqb (x / 4) 0 (omega (arith, ltb-true x 4 t))))
    (λ f. bool_cases (eqb (x / 4) 0) (λ t. let z : ⊥ = omega (arith, ltb-false x 4 f, eqb-true (x / 4) 0 t) in absurd z) (λ g. f ∙ sym g))

pub or_small : (a b : ℕ) → ltb (bit_or a b) 4 ≡ (ltb a 4 && ltb b 4)
or_small a b = quarter (bit_or a b) ∙ (ap (λ (n : ℕ). eqb n 0) (or_shr a b 2) ∙ (or_none (a / 4) (b / 4) ∙ rw (quarter a, quarter b)))

-- one code more
plain-suc : (n : ℕ) (cs : List ℕ) → n < length cs → plain (suc n) cs ≡ (plain n cs && ltb (get_or cs n 0) 4)
unfolding plain
plain-suc zero [] h = let z : ⊥ = omega arith in absurd z
plain-suc zero (c ∷ cs) h = and-true (ltb c 4)
plain-suc (suc n) [] h = let z : ⊥ = omega arith in absurd z
plain-suc (suc n) (c ∷ cs) h = ap (λ (b : Bool). ltb c 4 && b) (plain-suc n cs (omega arith)) ∙ sym (and_assoc (ltb c 4) (plain n cs) (ltb (get_or cs n 0) 4))

pub plain-none : (cs : List ℕ) → true ≡ plain 0 cs
unfolding plain
plain-none cs = refl

pub plain_step : (i any x : ℕ) (cs : List ℕ) → ltb any 4 ≡ plain i cs → i < length cs → x ≡ get_or cs i 0 → ltb (bit_or any x) 4 ≡ plain (i + 1) cs
plain_step i any x cs so_far h e = or_small any x ∙ (rw (so_far, e, add-one i) (sym (plain-suc i cs h)))

-- a part of plain codes is plain
pub plain-inside : (n i m : ℕ) (cs : List ℕ) → plain n cs ≡ true → i + m ≤ n → plain m (drop i cs) ≡ true
plain-inside n i m cs e h =
    let l = plain-long n cs e in
    let d = length-drop i cs in
    let t : length (take m (drop i cs)) ≡ m = length-take-le m (drop i cs) (omega arith) in
    below_plain m (drop i cs) (omega arith)
    (below_all 4 (take m (drop i cs))
    (λ k g.
    let b : i + k < n = omega arith in
    rw (get_or-take m (drop i cs) k 0 (omega arith), get_or-drop i cs k 0) (rw (get_or-take n cs (i + k) 0 b) at (below_at 4 (i + k) (take n cs) (omega arith)
    (plain-below n cs e)))))

-- sixteen parts more
pub parts_plain : (cs : List ℕ) (n : ℕ) → plain_parts cs n ≡ true → plain 240 (drop (15 * n) cs) ≡ true → plain_parts cs (n + 16) ≡ true
parts_plain cs n so_far e =
    every-all (λ k. plain 15 (drop (15 * k) cs)) (n + 16)
    (λ k h.
    bool_cases (ltb k n)
    (λ t. every_at (λ k. plain 15 (drop (15 * k) cs)) n k (ltb-true k n t) so_far)
    (λ f.
    let g : n ≤ k = ltb-false k n f in
    let j : 15 * n + 15 * (k - n) ≡ 15 * k = omega arith in
    ap (λ (l : List ℕ). plain 15 l) (ap (λ (i : ℕ). drop i cs) (sym j) ∙ sym (drop-drop (15 * (k - n)) (15 * n) cs)) ∙ plain-inside 240 (15 * (k - n)) 15
    (drop (15 * n) cs) e (omega arith)))

-- what the test of a block tells
pub block_told : (cs : List ℕ) (n : ℕ) (r : Bool) → r ≡ (ltb 240 (length (mid_of (15 * n) (length cs - 15 * n) cs)) && plain 240 (mid_of (15 * n)
    (length cs - 15 * n) cs))
    → r ≡ true → (240 < length cs - 15 * n) × (plain 240 (drop (15 * n) cs) ≡ true)
block_told cs n r e t =
    let ds = drop (15 * n) cs in
    let f : (ltb 240 (length ds) && plain 240 ds) ≡ true = ap (λ (l : List ℕ). ltb 240 (length l) && plain 240 l) (sym (part_rest cs (15 * n))) ∙ (sym e ∙ t) in
    let b = both_pass (ltb 240 (length ds)) (plain 240 ds) f in
    (omega (arith, ltb-true 240 (length ds) b.0, length-drop (15 * n) cs), b.1)
