-- Two-bit residues as the loops read and store them. Assumes nothing.
use mathlib.Core.Path.{◌≡◌, refl, ap, ◌∙◌}
use mathlib.Core.List.{List, [], ◌∷◌}
use Prim.Native.Nat.{ℕ, ◌+◌, ◌*◌, ◌/◌, ◌%◌, ◌≤◌, ◌<◌}
use native.Mathlib.Omega.{arith}
use lib.Arith.{digits_mod}
use lib.ListN.{length, get_or, set}
use Rattle.laws.specs.Digits.{digits}
use Rattle.laws.specs.Writing.{written_at}
use Rattle.laws.proofs.Storing.{store_front}
use Rattle.sequence.specs.Bases.{bases_of, base_at, two_bit_residues}

pub list₄ : {a b c d x y z w : ℕ} → a ≡ x → b ≡ y → c ≡ z → d ≡ w → ◌≡◌ {A = List ℕ} (a ∷ b ∷ c ∷ d ∷ []) (x ∷ y ∷ z ∷ w ∷ [])
list₄ e f g h = rw (e, f, g, h)

-- the product has the half byte twice
two_bases : (half : ℕ) → half < 16 → (half * 1025 / 4 % 4 ≡ half / 4) × (half * 1025 / 1024 % 4 ≡ half % 4)
two_bases half h =
    let a : half * 1025 / 4 ≡ half * 64 * 4 + half / 4 = omega arith in
    let b : half * 1025 / 1024 ≡ half = omega arith in
    (ap (λ (x : ℕ). x % 4) a ∙ digits_mod (half * 64) (omega arith), ap (λ (x : ℕ). x % 4) b)

-- the two-bit digits of a byte are those of its halves
half_digits : (byte : ℕ) → byte < 256 → (byte / 16 / 4 ≡ byte / 64 % 4) × (byte % 16 / 4 ≡ byte / 4 % 4) × (byte % 16 % 4 ≡ byte / 1 % 4)
half_digits byte h =
    let u : byte / 64 ≡ byte / 64 % 4 = omega arith in
    let v : byte / 16 / 4 ≡ byte / 64 = omega arith in
    (v ∙ u, omega arith, omega arith)

-- the four bases of a byte
pub four_bases : (byte : ℕ) → byte < 256 →
    let high = byte / 16 * 1025 in
    let low = byte % 16 * 1025 in
    high / 4 % 4 ∷ high / 1024 % 4 ∷ low / 4 % 4 ∷ low / 1024 % 4 ∷ [] ≡ bases_of byte
unfolding digits
four_bases byte h =
    let (a, b) = two_bases (byte / 16) (omega arith) in
    let (c, d) = two_bases (byte % 16) (omega arith) in
    let (x, y, z) = half_digits byte h in
    list₄ (a ∙ x) b (c ∙ y) (d ∙ z)

-- residue k, by its byte m and its place j in that byte
pub base_is : (sequence : List ℕ) (start k m j : ℕ) → k ≡ 4 * m + j → j < 4
    → get_or (bases_of (get_or sequence (start + m) 0)) j 0 ≡ base_at sequence start k
unfolding base_at
base_is sequence start k m j e h =
    let a : k / 4 ≡ m = omega arith in
    let b : k % 4 ≡ j = omega arith in
    rw (a, b)

-- the four bases of byte m stored behind those of the bytes before
pub four_stored : (sequence : List ℕ) (start m : ℕ) (four d : List ℕ) → 4 * m + 4 ≤ length d → four ≡ bases_of (get_or sequence (start + m) 0)
    → set
    (set (set (set (written_at 0 (two_bit_residues sequence start (4 * m)) d) (4 * m) (get_or four 0 0)) (4 * m + 1) (get_or four 1 0)) (4 * m + 2) (get_or four 2 0))
    (4 * m + 3)
    (get_or four 3 0)
    ≡ written_at 0 (two_bit_residues sequence start (4 * (m + 1))) d
four_stored sequence start m four d h e =
    let f = base_at sequence start in
    let n = 4 * m in
    let base : (k j : ℕ) → k ≡ 4 * m + j → j < 4 → get_or four j 0 ≡ f k =
    λ k j i l. ap (λ (b : List ℕ). get_or b j 0) e ∙ base_is sequence start k m j i l in
    let a = store_front f n (get_or four 0 0) d (omega arith) (base n 0 (omega arith) (omega arith)) in
    let b = store_front f (n + 1) (get_or four 1 0) d (omega arith) (base (n + 1) 1 refl (omega arith)) in
    let g : n + 2 ≡ n + 1 + 1 = omega arith in
    let c = store_front f (n + 2) (get_or four 2 0) d (omega arith) (base (n + 2) 2 refl (omega arith)) in
    let i : n + 3 ≡ n + 2 + 1 = omega arith in
    let x = store_front f (n + 3) (get_or four 3 0) d (omega arith) (base (n + 3) 3 refl (omega arith)) in
    let y : 4 * (m + 1) ≡ n + 3 + 1 = omega arith in
    rw (a, b, ← g, c, ← i, x, y)
