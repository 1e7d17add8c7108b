-- Packets as bytes. Assumes nothing.
use mathlib.Core.Path.{◌≡◌, refl, sym, ap, ◌∙◌}
use mathlib.Core.Bool.{true}
use mathlib.Core.List.{List, [], ◌∷◌, ◌++◌}
use Prim.Native.Nat.{ℕ, zero, suc, ◌+◌, ◌*◌, ◌/◌, ◌-◌, ◌^◌, ◌≤◌, ◌<◌}
use native.Mathlib.Nat.{add-zero}
use native.Mathlib.Omega.{arith}
use lib.ListN.{length, drop, get_or, length-drop}
use lib.Seq.{slice, ext_get_or, get_or-drop, length-slice}
use Rattle.laws.specs.Digits.{all_below}
use Rattle.laws.proofs.Places.{length-list_to, list_to_at}
use Rattle.laws.proofs.Digits.{below_parts, below_at, below_all}
use Rattle.laws.proofs.Parts.{slice_at}
use Rattle.fields.specs.declared.Order.{Order}
use Rattle.fields.specs.Number.{little, number, unsigned_at}
use Rattle.fields.specs.Written.{little_bytes}
use Rattle.fields.proofs.Laws.{unsigned_bytes, four_bytes}
use Rattle.fields.proofs.Turned.{unsigned_same}
use Rattle.packets.specs.Bytes.{packets_by, packets_of, bytes_of}

-- ---- the packets that bytes stand for, in either byte order

module _ (order : Order) where
  pub length-packets : (bytes : List ℕ) → length (packets_by order bytes) ≡ length bytes / 4
  unfolding packets_by
  length-packets bytes = length-list_to (λ k. unsigned_at order 4 bytes (4 * k)) (length bytes / 4)

  pub packets_at : (bytes : List ℕ) (k : ℕ) → k < length bytes / 4 → get_or (packets_by order bytes) k 0 ≡ unsigned_at order 4 bytes (4 * k)
  unfolding packets_by
  packets_at bytes k h = list_to_at (λ i. unsigned_at order 4 bytes (4 * i)) (length bytes / 4) k 0 h

  -- the packets of a part, from one packet up to another, of the bytes behind a header of h bytes
  module _ (h : ℕ) (bytes : List ℕ) (from to : ℕ) (low : from ≤ to) (high : 4 * to + h ≤ length bytes) where
    part : List ℕ
    part = slice (4 * from + h) (4 * to + h) bytes

    part_byte : (k j : ℕ) → k < to - from → j < 4 → get_or part (4 * k + j) 0 ≡ get_or (drop h bytes) (4 * (from + k) + j) 0
    unfolding part
    part_byte k j l m =
        let e : 4 * from + h + (4 * k + j) ≡ h + (4 * (from + k) + j) = omega arith in
        slice_at (4 * from + h) (4 * to + h) bytes (4 * k + j) 0 (omega arith)
        ∙ (ap (λ (i : ℕ). get_or bytes i 0) e ∙ sym (get_or-drop h bytes (4 * (from + k) + j) 0))

    pub packets_part : packets_by order (slice (4 * from + h) (4 * to + h) bytes) ≡ slice from to (packets_by order (drop h bytes))
    unfolding part
    packets_part =
        let n : length part ≡ 4 * to + h - (4 * from + h) = length-slice (4 * from + h) (4 * to + h) bytes high in
        let b : length (drop h bytes) ≡ length bytes - h = length-drop h bytes in
        let a : length (packets_by order part) ≡ to - from = length-packets part ∙ omega arith in
        let c : length (slice from to (packets_by order (drop h bytes))) ≡ to - from = length-slice from to (packets_by order (drop h bytes))
        (omega (arith, length-packets (drop h bytes))) in
        ext_get_or 0 (packets_by order part) (slice from to (packets_by order (drop h bytes))) (a ∙ sym c)
        (λ k l.
        let g : k < to - from = omega arith in
        packets_at part k (omega arith)
        ∙ (unsigned_same order 4 part (drop h bytes) (4 * k) (4 * (from + k)) (λ j m. part_byte k j g m)
        ∙ (sym (packets_at (drop h bytes) (from + k) (omega arith)) ∙ sym (slice_at from to (packets_by order (drop h bytes)) k 0 (omega arith)))))

  -- the packets of the bytes from a packet on
  pub packets-from : (bytes : List ℕ) (i k : ℕ) → i + k < length bytes / 4
      → get_or (packets_by order (drop (4 * i) bytes)) k 0 ≡ get_or (packets_by order bytes) (i + k) 0
  packets-from bytes i k h =
      packets_at (drop (4 * i) bytes) k (omega (arith, length-drop (4 * i) bytes))
      ∙ unsigned_same order 4 (drop (4 * i) bytes) bytes (4 * k) (4 * (i + k))
      (λ j l. get_or-drop (4 * i) bytes (4 * k + j) 0 ∙ ap (λ (n : ℕ). get_or bytes n 0) (let e : 4 * i + (4 * k + j) ≡ 4 * (i + k) + j = omega arith in e))
      ∙ sym (packets_at bytes (i + k) h)

-- four bytes, one by one, the lowest first
four_at : (file : List ℕ) (at : ℕ)
    → unsigned_at little 4 file at ≡ get_or file at 0 + 256 * (get_or file (at + 1) 0 + 256 * (get_or file (at + 2) 0 + 256 * (get_or file (at + 3) 0 + 256 * 0)))
four_at file at = unsigned_bytes little 4 file at ∙ (ap (number little) (four_bytes file at 0) ∙ rw add-zero)

-- a packet is below 2^32
pub packets-below : (bytes : List ℕ) → all_below 256 bytes ≡ true → all_below (2 ^ 32) (packets_of bytes) ≡ true
packets-below bytes e =
    below_all (2 ^ 32) (packets_of bytes)
    (λ k h.
    let l : k < length bytes / 4 = rw (length-packets little bytes) at h in
    let b : (i : ℕ) → get_or bytes i 0 < 256 = λ i. below_at 256 i bytes (omega arith) e in
    rw (packets_at little bytes k l, four_at bytes (4 * k)) (omega (arith, b (4 * k), b (4 * k + 1), b (4 * k + 2), b (4 * k + 3))))

-- ---- the bytes of packets

pub length-bytes : (ps : List ℕ) → length (bytes_of ps) ≡ 4 * length ps
unfolding bytes_of
length-bytes [] = refl
length-bytes (p ∷ ps) = omega (arith, length-bytes ps)

pub bytes-cons : (p : ℕ) (ps : List ℕ) → bytes_of (p ∷ ps) ≡ little_bytes 4 p ++ bytes_of ps
unfolding bytes_of
bytes-cons p ps = refl

pub bytes-none : bytes_of [] ≡ []
unfolding bytes_of
bytes-none = refl

pub bytes-append : (xs ys : List ℕ) → bytes_of (xs ++ ys) ≡ bytes_of xs ++ bytes_of ys
unfolding bytes_of
bytes-append [] ys = refl
bytes-append (x ∷ xs) ys = ap (λ (l : List ℕ). little_bytes 4 x ++ l) (bytes-append xs ys)

bytes_at_lem : (ps : List ℕ) (k : ℕ) → all_below (2 ^ 32) ps ≡ true → k < length ps → unsigned_at little 4 (bytes_of ps) (4 * k) ≡ get_or ps k 0
unfolding bytes_of
bytes_at_lem [] k b h = let z : ⊥ = omega arith in absurd z
bytes_at_lem (p ∷ ps) zero b h =
    let l = (below_parts (2 ^ 32) p ps b).0 in
    four_at (little_bytes 4 p ++ bytes_of ps) 0 ∙ omega arith
bytes_at_lem (p ∷ ps) (suc k) b h =
    let e₀ : 4 * suc k ≡ suc (suc (suc (suc (4 * k)))) = omega arith in
    let e₁ : 4 * suc k + 1 ≡ suc (suc (suc (suc (4 * k + 1)))) = omega arith in
    let e₂ : 4 * suc k + 2 ≡ suc (suc (suc (suc (4 * k + 2)))) = omega arith in
    let e₃ : 4 * suc k + 3 ≡ suc (suc (suc (suc (4 * k + 3)))) = omega arith in
    four_at (little_bytes 4 p ++ bytes_of ps) (4 * suc k)
    ∙ (rw (e₁, e₂, e₃, e₀) (sym (four_at (bytes_of ps) (4 * k))) ∙ bytes_at_lem ps k (below_parts (2 ^ 32) p ps b).1 (omega arith))

-- The bytes of packets stand for those packets.
pub packets-bytes : (ps : List ℕ) → all_below (2 ^ 32) ps ≡ true → packets_of (bytes_of ps) ≡ ps
packets-bytes ps b =
    let l : length (packets_of (bytes_of ps)) ≡ length ps = length-packets little (bytes_of ps) ∙ omega (arith, length-bytes ps) in
    ext_get_or 0 (packets_of (bytes_of ps)) ps l
    (λ k h.
    let g : k < length (bytes_of ps) / 4 = omega (arith, length-bytes ps) in
    packets_at little (bytes_of ps) k g ∙ bytes_at_lem ps k b (omega arith))
