-- Packets written as bytes one behind another, from the start of an output. Assumes nothing.
use mathlib.Core.Path.{◌≡◌, sym, ap, ◌∙◌}
use mathlib.Core.List.{List, [], ◌∷◌, ◌++◌, append_assoc, append-nil}
use Prim.Native.Nat.{ℕ, zero, suc, ◌+◌, ◌*◌, ◌-◌, ◌≤◌, min}
use native.Mathlib.Nat.{zero-add, mul-add, mul-zero, add-zero}
use native.Mathlib.Omega.{arith}
use lib.ListN.{length, take, drop, length-append, length-take, length-drop, take-append-drop}
use lib.Seq.{length-take-le, take-add, take_at, take-append_seam, take-take, take_all, drop_at, drop-drop, drop-length}
use Rattle.laws.specs.Writing.{written_at}
use borrow.Rule.Slice.PartMut.{mid_of, post_of, put_mid, Post-is, mid_len}
use Rattle.laws.proofs.Parts.{part_rest}
use Rattle.laws.proofs.Places.{length-list_to}
use Rattle.laws.proofs.Storing.{store_none, written_start}
use Rattle.laws.proofs.Writing.{length_written, rest_part, written_over, written_twice}
use Rattle.packets.specs.Bytes.{bytes_of}
use Rattle.packets.proofs.Bytes.{length-bytes, bytes-append, bytes-none}
use Rattle.byte_runs.specs.Packed.{parts_by}

-- ---- packets one behind another

-- the first packets as bytes are the first bytes
bytes_take : (k : ℕ) (R : List ℕ) → k ≤ length R → take (4 * k) (bytes_of R) ≡ bytes_of (take k R)
bytes_take k R h =
    let n : length (bytes_of (take k R)) ≡ 4 * k = omega (arith, length-bytes (take k R), length-take-le k R h) in
    ap (λ (l : List ℕ). take (4 * k) (bytes_of l)) (sym (take-append-drop k R))
    ∙ (ap (λ (l : List ℕ). take (4 * k) l) (bytes-append (take k R) (drop k R)) ∙ take_at (bytes_of (take k R)) (bytes_of (drop k R)) (4 * k) n)

-- R are packets of which the first n are written; some of them are written again from packet k on, and more
module _ (R d : List ℕ) (n : ℕ) (out : List ℕ) (so_far : out ≡ written_at 0 (bytes_of (take n R)) d) (inside : n ≤ length R)
    (room : 4 * length R ≤ length d) (k : ℕ) (ps rest : List ℕ) (here : drop k R ≡ ps ++ rest) (low : k ≤ n) (high : n ≤ k + length ps) where
  pub put_inside : k + length ps ≤ length R
  put_inside = omega (arith, length-drop k R, ap length here, length-append ps rest)

  joined : bytes_of (take k R) ++ bytes_of ps ≡ bytes_of (take (k + length ps) R)
  joined =
      sym (bytes-append (take k R) ps)
      ∙ ap bytes_of (sym (take-add k (length ps) R ∙ ap (λ (l : List ℕ). take k R ++ l) (ap (λ (l : List ℕ). take
      (length ps) l) here ∙ take-append_seam ps rest)))

  pub put_more : written_at (4 * k) (bytes_of ps) out ≡ written_at 0 (bytes_of (take (k + length ps) R)) d
  put_more =
      let xs = bytes_of (take n R) in
      let ys = bytes_of ps in
      let lx : length xs ≡ 4 * n = omega (arith, length-bytes (take n R), length-take-le n R inside) in
      let ly : length ys ≡ 4 * length ps = length-bytes ps in
      let w : length (take n R) ≡ n = length-take-le n R inside in
      let t : take (4 * k) xs ≡ bytes_of (take k R) = bytes_take k (take n R) (omega arith) ∙ ap bytes_of (take-take k n R low) in
      ap (λ (l : List ℕ). written_at (4 * k) ys l) so_far
      ∙ (ap (λ (i : ℕ). written_at i ys (written_at 0 xs d)) (sym (zero-add (4 * k)))
      ∙ (written_over 0 (4 * k) xs ys d (omega arith) (omega arith) (omega (arith, put_inside))
      ∙ (ap (λ (l : List ℕ). written_at 0 (l ++ ys) d) t ∙ ap (λ (l : List ℕ). written_at 0 l d) joined)))

  pub put_rest : drop (k + length ps) R ≡ rest
  put_rest = rest_part R k ps rest here

-- written behind others
pub put_behind : (xs ys d out : List ℕ) (k : ℕ) → out ≡ written_at 0 (bytes_of xs) d → k ≡ length xs → 4 * (length xs + length ys) ≤ length d
    → written_at (4 * k) (bytes_of ys) out ≡ written_at 0 (bytes_of (xs ++ ys)) d
put_behind xs ys d out k so_far e room =
    let n : 4 * k ≡ 0 + length (bytes_of xs) = omega (arith, length-bytes xs) in
    ap (λ (l : List ℕ). written_at (4 * k) (bytes_of ys) l) so_far
    ∙ (ap (λ (i : ℕ). written_at i (bytes_of ys) (written_at 0 (bytes_of xs) d)) n
    ∙ (written_twice 0 (bytes_of xs) (bytes_of ys) d (omega (arith, length-bytes xs, length-bytes ys)) ∙ ap (λ (l : List ℕ). written_at 0 l d) (sym
    (bytes-append xs ys))))

pub part_long : (a n : ℕ) (xs : List ℕ) → a + n ≤ length xs → n ≤ length (mid_of a (length xs - a) xs)
part_long a n xs h = omega (arith, mid_len a (length xs) xs (omega arith))

-- what is written at the start of a part is written at the part's place
pub part_put : (a : ℕ) (xs ys new : List ℕ) → ys ≡ written_at 0 new (mid_of a (length xs - a) xs) → a ≤ length xs → put_mid a
    (length xs - a) xs ys ≡ written_at a new xs
part_put a xs ys new e h =
    let b : post_of a (length xs - a) xs ≡ [] = Post-is a (length xs) xs h ∙ drop-length xs in
    let c : ys ≡ new ++ drop (a + length new) xs =
    e ∙ (ap (λ (l : List ℕ). written_at 0 new l) (part_rest xs a) ∙ (written_start new (drop a xs) ∙ ap (λ (l : List ℕ). new ++ l) (drop-drop
    (length new) a xs))) in
    ap (λ (l : List ℕ). take a xs ++ (ys ++ l)) b
    ∙ (ap (λ (l : List ℕ). take a xs ++ l) (append-nil ys ∙ c) ∙ sym (append_assoc (take a xs) new (drop (a + length new) xs)))

-- writing packets keeps the length
pub put_length : (R d out : List ℕ) (n : ℕ) → out ≡ written_at 0 (bytes_of (take n R)) d → 4 * n ≤ length d → length out ≡ length d
put_length R d out n e h =
    let l : length (bytes_of (take n R)) ≡ 4 * min n (length R) = length-bytes (take n R) ∙ ap (λ (k : ℕ). 4 * k) (length-take n R) in
    ap length e ∙ length_written 0 (bytes_of (take n R)) d (omega arith)

-- nothing is written yet
pub put_none : (R d : List ℕ) → d ≡ written_at 0 (bytes_of (take 0 R)) d
put_none R d = store_none (λ (k : ℕ). k) 0 d ∙ ap (λ (l : List ℕ). written_at 0 l d) (sym bytes-none)

-- all are written
pub put_all : (R d out : List ℕ) (n : ℕ) → length R ≤ n → out ≡ written_at 0 (bytes_of (take n R)) d → out ≡ written_at 0 (bytes_of R) d
put_all R d out n h e = e ∙ ap (λ (l : List ℕ). written_at 0 (bytes_of l) d) (take_all n R h)

-- ---- packets of parts of one size

module _ (f : List ℕ → ℕ) (s : ℕ) where
  pub length_parts : (cs : List ℕ) (n : ℕ) → length (parts_by f s cs n) ≡ n
  unfolding parts_by
  length_parts cs n = length-list_to (λ k. f (drop (s * k) cs)) n

  pub bytes-start : (cs d : List ℕ) → d ≡ written_at 0 (bytes_of (parts_by f s cs 0)) d
  unfolding parts_by
  bytes-start cs d = put_none [] d

  pub parts_one : (cs : List ℕ) → parts_by f s cs 1 ≡ f cs ∷ []
  unfolding parts_by
  parts_one cs = rw (mul-zero s)

  parts_append : (cs : List ℕ) (i m : ℕ) → parts_by f s cs (i + m) ≡ parts_by f s cs i ++ parts_by f s (drop (s * i) cs) m
  unfolding parts_by
  parts_append cs i zero = rw (add-zero i) (sym (append-nil (parts_by f s cs i)))
  parts_append cs i (suc m) =
      let n : i + suc m ≡ suc (i + m) = omega arith in
      let g : drop (s * (i + m)) cs ≡ drop (s * m) (drop (s * i) cs) = ap (λ (k : ℕ). drop k cs) (mul-add s i m) ∙ sym (drop-drop (s * m) (s * i) cs) in
      ap (parts_by f s cs) n
      ∙ (ap (λ (l : List ℕ). l ++ (f (drop (s * (i + m)) cs) ∷ [])) (parts_append cs i m)
      ∙ (append_assoc (parts_by f s cs i) (parts_by f s (drop (s * i) cs) m) (f (drop (s * (i + m)) cs) ∷ [])
      ∙ ap (λ (l : List ℕ). parts_by f s cs i ++ (parts_by f s (drop (s * i) cs) m ++ (f l ∷ []))) g))

  -- m more behind n, made of a part of the codes, and written at the start of a part of the output
  pub parts_behind : (cs : List ℕ) (n m : ℕ) (d out ps ys : List ℕ) (at : ℕ) → out ≡ written_at 0 (bytes_of (parts_by f s cs n)) d → 4 * (n + m) ≤ length d
      → length out ≡ length d → ps ≡ parts_by f s (mid_of (s * n) (length cs - s * n) cs) m → at ≡ 4 * n
      → ys ≡ written_at 0 (bytes_of ps) (mid_of at (length out - at) out) → put_mid at (length out - at) out ys ≡ written_at 0 (bytes_of (parts_by f s cs (n + m))) d
  parts_behind cs n m d out ps ys at so_far room same e q w =
      let qs = parts_by f s (drop (s * n) cs) m in
      let l : length (parts_by f s cs n) ≡ n = length_parts cs n in
      let k : length qs ≡ m = length_parts (drop (s * n) cs) m in
      part_put at out ys (bytes_of ps) w (omega arith)
      ∙ (ap (λ (x : ℕ). written_at x (bytes_of ps) out) q
      ∙ (ap (λ (x : List ℕ). written_at (4 * n) (bytes_of x) out) (e ∙ ap (λ (x : List ℕ). parts_by f s x m) (part_rest cs (s * n)))
      ∙ (put_behind (parts_by f s cs n) qs d out n so_far (sym l) (omega arith) ∙ ap (λ (x : List ℕ). written_at 0 (bytes_of x) d) (sym (parts_append cs n m)))))

  -- some of them, from packet k on
  module _ (cs : List ℕ) (n k m : ℕ) (h : k + m ≤ n) where
    Behind : List ℕ
    Behind = parts_by f s (drop (s * m) (drop (s * k) cs)) (n - k - m)

    parts_here : drop k (parts_by f s cs n) ≡ parts_by f s (drop (s * k) cs) m ++ Behind
    unfolding Behind
    parts_here =
        let e : n ≡ k + (m + (n - k - m)) = omega arith in
        ap (λ (i : ℕ). drop k (parts_by f s cs i)) e
        ∙ (ap (λ (l : List ℕ). drop k l) (parts_append cs k (m + (n - k - m)))
        ∙ (drop_at (parts_by f s cs k) (parts_by f s (drop (s * k) cs) (m + (n - k - m))) k (length_parts cs k)
        ∙ parts_append (drop (s * k) cs) m (n - k - m)))

    -- the first i are written; those from k on are written behind or again
    pub parts_put : (i : ℕ) (d out ps : List ℕ) → out ≡ written_at 0 (bytes_of (take i (parts_by f s cs n))) d → 4 * n ≤ length d
        → ps ≡ parts_by f s (drop (s * k) cs) m → k ≤ i → i ≤ k + m → written_at (4 * k) (bytes_of ps) out ≡ written_at 0 (bytes_of (take (k + m)
        (parts_by f s cs n))) d
    parts_put i d out ps so_far room e low high =
        let R = parts_by f s cs n in
        let l = length_parts cs n in
        let q : length (parts_by f s (drop (s * k) cs) m) ≡ m = length_parts (drop (s * k) cs) m in
        ap (λ (x : List ℕ). written_at (4 * k) (bytes_of x) out) e
        ∙ (put_more R d i out so_far (omega arith) (omega arith) k (parts_by f s (drop (s * k) cs) m) Behind parts_here low (omega arith)
        ∙ ap (λ (x : ℕ). written_at 0 (bytes_of (take (k + x) R)) d) q)

    -- the same where they are made of a part of the codes, and written at the start of a part of the output
    pub parts_lent : (i : ℕ) (d out ps ys : List ℕ) (at : ℕ) → out ≡ written_at 0 (bytes_of (take i
        (parts_by f s cs n))) d → 4 * n ≤ length d → length out ≡ length d
        → ps ≡ parts_by f s (mid_of (s * k) (length cs - s * k) cs) m → k ≤ i → i ≤ k + m → at ≡ 4 * k → ys ≡ written_at 0 (bytes_of ps) (mid_of at
        (length out - at) out)
        → put_mid at (length out - at) out ys ≡ written_at 0 (bytes_of (take (k + m) (parts_by f s cs n))) d
    parts_lent i d out ps ys at so_far room same e low high q w =
        part_put at out ys (bytes_of ps) w (omega arith)
        ∙ (ap (λ (x : ℕ). written_at x (bytes_of ps) out) q ∙ parts_put i d out ps so_far room (e ∙ ap (λ (l : List ℕ). parts_by f s l m) (part_rest cs
        (s * k))) low high)
