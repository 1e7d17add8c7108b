-- Packets as bytes at their places: read, and written one behind another. Assumes nothing.
use mathlib.Core.Path.{◌≡◌, sym, ap, ◌∙◌}
use mathlib.Core.Bool.{true}
use mathlib.Core.List.{List, [], ◌∷◌, ◌++◌}
use Prim.Native.Nat.{ℕ, zero, suc, ◌*◌, ◌/◌, ◌%◌, ◌^◌, ◌<◌}
use native.Mathlib.Omega.{arith}
use lib.ListN.{length, get_or}
use Rattle.laws.specs.Digits.{all_below}
use Rattle.laws.specs.Writing.{written_at}
use Rattle.laws.proofs.Digits.{below_none, below-cons, below_parts}
use Rattle.fields.specs.declared.Order.{Order}
use Rattle.fields.specs.Number.{little, number, bytes_at}
use Rattle.fields.specs.Written.{little_bytes}
use Rattle.fields.proofs.Laws.{unsigned_bytes}
use Rattle.fields.proofs.Turned.{little_back}
use Rattle.packets.specs.Bytes.{packets_by, packets_of, bytes_of}
use Rattle.packets.proofs.Bytes.{packets_at, bytes-cons, bytes-none, packets-bytes}

-- the packet at a place by the word of its bytes, in either byte order
pub word_packet : (order : Order) (bytes : List ℕ) (place w : ℕ) → place < length bytes / 4 → little_bytes 4 w ≡ bytes_at 4 bytes (4 * place) 0
    → number order (little_bytes 4 w) ≡ get_or (packets_by order bytes) place 0
word_packet order bytes place w h e =
    ap (number order) e ∙ (sym (unsigned_bytes order 4 bytes (4 * place)) ∙ sym (packets_at order bytes place h))

-- a packet's bytes, written at its place
pub packet_put : (p place at : ℕ) (out : List ℕ) → at ≡ 4 * place → written_at at (little_bytes 4 p) out ≡ written_at (4 * place) (bytes_of (p ∷ [])) out
packet_put p place at out q =
    rw q (ap (λ (l : List ℕ). written_at (4 * place) l out) (sym (bytes-cons p [] ∙ ap (λ (l : List ℕ). little_bytes 4 p ++ l) bytes-none)))

-- ---- whole bytes are those of the packets that they stand for

-- the packets of so many fours of bytes
fours : (n : ℕ) (bytes : List ℕ) → length bytes ≡ 4 * n → all_below 256 bytes ≡ true → (ps : List ℕ) × (all_below (2 ^ 32) ps ≡ true) × (bytes_of ps ≡ bytes)
fours zero [] e v = ([], below_none (2 ^ 32), bytes-none)
fours zero (a ∷ rest) e v = absurd (let z : ⊥ = omega arith in z)
fours (suc n) [] e v = absurd (let z : ⊥ = omega arith in z)
fours (suc n) (a ∷ []) e v = absurd (let z : ⊥ = omega arith in z)
fours (suc n) (a ∷ b ∷ []) e v = absurd (let z : ⊥ = omega arith in z)
fours (suc n) (a ∷ b ∷ c ∷ []) e v = absurd (let z : ⊥ = omega arith in z)
fours (suc n) (a ∷ b ∷ c ∷ d ∷ rest) e v =
    let p = below_parts 256 a (b ∷ c ∷ d ∷ rest) v in
    let q = below_parts 256 b (c ∷ d ∷ rest) p.1 in
    let r = below_parts 256 c (d ∷ rest) q.1 in
    let s = below_parts 256 d rest r.1 in
    let four = a ∷ b ∷ c ∷ d ∷ [] in
    let w : all_below 256 four ≡ true =
    below-cons 256 a _ p.0 (below-cons 256 b _ q.0 (below-cons 256 c _ r.0 (below-cons 256 d _ s.0 (below_none 256)))) in
    let t = fours n rest (omega arith) s.1 in (
      number little four ∷ t.0,
      below-cons (2 ^ 32) (number little four) t.0 (omega (arith, p.0, q.0, r.0, s.0)) t.1,
      bytes-cons (number little four) t.0 ∙ rw t.2 (ap (λ (l : List ℕ). l ++ rest) (little_back four w)),
    )

pub bytes-packets : (bytes : List ℕ) → length bytes % 4 ≡ 0 → all_below 256 bytes ≡ true → bytes_of (packets_of bytes) ≡ bytes
bytes-packets bytes e v =
    let t = fours (length bytes / 4) bytes (omega arith) v in
    ap (λ (l : List ℕ). bytes_of (packets_of l)) (sym t.2) ∙ (ap bytes_of (packets-bytes t.0 t.1) ∙ t.2)
