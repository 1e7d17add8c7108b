-- A part of the codes: its bytes and its counts are those of the whole. A part of the output written. Assumes nothing.
use mathlib.Core.Path.{◌≡◌, refl, sym, ap, ap₂, ◌∙◌}
use mathlib.Core.List.{List, [], ◌∷◌, ◌++◌}
use Prim.Native.Nat.{ℕ, zero, suc, ◌+◌, ◌-◌, ◌*◌, ◌≤◌, ◌<◌}
use native.Mathlib.Omega.{arith}
use borrow.Rule.Slice.PartMut.{post_of, put_mid}
use lib.ListN.{length, take, drop, length-take, length-drop}
use lib.Seq.{get_or-take, get_or-drop}
use Rattle.laws.specs.Digits.{value}
use Rattle.laws.specs.Places.{list_to, sum_to}
use Rattle.laws.specs.Writing.{written_at}
use Rattle.laws.proofs.Places.{sum_same, length-list_to}
use Rattle.laws.proofs.Storing.{written_start, written_behind}
use Rattle.nucleotides.specs.TwoBit.{placeholder, two_bit_byte}
use Rattle.nucleotides.specs.Scan.{code_at, bytes_from, ambiguous, begun, ambiguous_in, begun_in}

list_to-same : (f g : ℕ → ℕ) (n : ℕ) → ((k : ℕ) → k < n → f k ≡ g k) → list_to f n ≡ list_to g n
list_to-same f g zero h = refl
list_to-same f g (suc n) h =
    ap₂ (λ (x : List ℕ) (y : ℕ). x ++ (y ∷ [])) (list_to-same f g n (λ k l. h k (omega arith))) (h n (omega arith))

-- a code of a part
pub part_code : (codes : List ℕ) (from size k : ℕ) → k < size → code_at (take size (drop from codes)) k ≡ code_at codes (from + k)
part_code codes from size k h = get_or-take size (drop from codes) k 0 h ∙ get_or-drop from codes k 0

-- ---- bytes

-- a byte of a part that begins with a byte of its own
part_byte : (codes : List ℕ) (m size j : ℕ) → 4 * j + 4 ≤ size → two_bit_byte (take size (drop (4 * m) codes)) j ≡ two_bit_byte codes (m + j)
unfolding two_bit_byte
part_byte codes m size j h =
    ap (value 2 0)
    (list_to-same _ _ 4
    (λ i l. let e : 4 * m + (4 * j + i) ≡ 4 * (m + j) + i = omega arith in
    ap placeholder (part_code codes (4 * m) size (4 * j + i) (omega arith) ∙ ap (code_at codes) e)))

pub part_bytes : (codes : List ℕ) (m size n : ℕ) → 4 * n ≤ size → list_to (two_bit_byte (take size (drop (4 * m) codes))) n ≡ bytes_from codes m n
part_bytes codes m size n h = list_to-same _ _ n (λ j l. part_byte codes m size j (omega arith))

-- bytes that were written into a part of the output
pub bytes_written : (codes : List ℕ) (m size n k : ℕ) (out part : List ℕ) → n ≡ k → 4 * n ≤ size
    → part ≡ list_to (two_bit_byte (take size (drop (4 * m) codes))) n → put_mid m k out part ≡ written_at m (bytes_from codes m k) out
bytes_written codes m size n k out part e h p =
    let new = bytes_from codes m k in
    let same : part ≡ new = p ∙ part_bytes codes m size n h ∙ ap (bytes_from codes m) e in
    let long : length new ≡ k = length-list_to (λ (j : ℕ). two_bit_byte codes (m + j)) k in
    let rest : part ++ post_of m k out ≡ written_at 0 new (drop m out) =
    ap (λ (l : List ℕ). l ++ post_of m k out) same
    ∙ ap (λ (i : ℕ). new ++ drop i (drop m out)) (sym long)
    ∙ sym (written_start new (drop m out)) in
    ap (λ (l : List ℕ). take m out ++ l) rest ∙ written_behind m new out

-- ---- counts

pub ambiguous_part : (codes : List ℕ) (from end : ℕ) → from < end → end ≤ length codes →
    let part = take (end - (from + 1)) (drop (from + 1) codes) in
    sum_to (λ i. ambiguous (code_at part i)) (length part) ≡ ambiguous_in codes from (end - from - 1)
ambiguous_part codes from end h l =
    let size = end - (from + 1) in
    let part = take size (drop (from + 1) codes) in
    let n : length part ≡ end - from - 1 = simp (length-take, length-drop) (omega arith) in
    ap (sum_to (λ i. ambiguous (code_at part i))) n
    ∙ sum_same (λ i. ambiguous (code_at part i)) (λ i. ambiguous (code_at codes (from + i + 1))) (end - from - 1)
    (λ i b. let f : from + 1 + i ≡ from + i + 1 = omega arith in ap ambiguous (part_code codes (from + 1) size i (omega arith) ∙ ap (code_at codes) f))

pub begun_part : (codes : List ℕ) (from end : ℕ) → from < end → end ≤ length codes →
    let part = take (end - from) (drop from codes) in
    sum_to (λ i. begun (code_at part i) (code_at part (i + 1))) (length part - 1) ≡ begun_in codes from (end - from - 1)
begun_part codes from end h l =
    let size = end - from in
    let part = take size (drop from codes) in
    let n : length part - 1 ≡ end - from - 1 = simp (length-take, length-drop) (omega arith) in
    ap (sum_to (λ i. begun (code_at part i) (code_at part (i + 1)))) n
    ∙ sum_same (λ i. begun (code_at part i) (code_at part (i + 1))) (λ i. begun (code_at codes (from + i)) (code_at codes (from + i + 1))) (end - from - 1)
    (λ i b. let f : from + (i + 1) ≡ from + i + 1 = omega arith in
    ap₂ begun (part_code codes from size i (omega arith)) (part_code codes from size (i + 1) (omega arith) ∙ ap (code_at codes) f))
