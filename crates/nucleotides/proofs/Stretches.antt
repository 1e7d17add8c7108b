-- The pieces of a list of codes from a place on: where the next one begins, how long it is, and how far a scan is. Assumes nothing.
use mathlib.Core.Path.{◌≡◌, refl, sym, ap, ap₂, ◌∙◌}
use mathlib.Core.List.{List, [], ◌∷◌, ◌++◌}
use mathlib.Core.Logic.{◌⊎◌, inl, inr, ⊎_elim}
use Prim.Native.Nat.{ℕ, zero, suc, ◌+◌, ◌-◌, ◌≤◌, ◌<◌, max}
use native.Mathlib.Nat.{add-zero}
use native.Mathlib.Numerals.{add-one}
use native.Mathlib.Omega.{arith}
use lib.Dec.{leb, ltb, eqb}
use lib.ListN.{length, get_or, take, drop, length-drop, drop_of_length-le}
use lib.Seq.{drop-cons, drop-drop, get_or-take, get_or-drop, take-add, length-take-le}
use borrow.Author.Tests.{lt-leb, le-leb, eqb-true, eqb-false, ltb-true, ltb-false}
use Rattle.laws.specs.Places.{largest_to}
use Rattle.laws.proofs.Numbers.{largest_less}
use Rattle.laws.proofs.Places.{largest-same, largest_at, largest_join}
use Rattle.laws.proofs.Tests.{bool_cases}
use Rattle.sequence.specs.declared.Correction.{Correction}
use Rattle.nucleotides.specs.Pieces.{same, piece_length, piece, pieces, pieces_from}
use Rattle.nucleotides.specs.Scan.{code_at, Met}

-- ---- a stretch

same_at : (code : ℕ) (cs : List ℕ) (i : ℕ) → i < same code cs → get_or cs i 0 ≡ code
same_at code [] i h = absurd (omega arith)
same_at code (c ∷ cs) zero h =
    bool_cases (eqb c code) (eqb-true c code) (λ e. let l : 0 < 0 = rw e at h in absurd (omega arith))
same_at code (c ∷ cs) (suc i) h =
    bool_cases (eqb c code) (λ e. let l : suc i < suc (same code cs) = rw e at h in same_at code cs i (omega arith))
    (λ e. let l : suc i < 0 = rw e at h in absurd (omega arith))

same-inside : (code : ℕ) (cs : List ℕ) → same code cs ≤ length cs
same-inside code [] = omega arith
same-inside code (c ∷ cs) = bool_cases (eqb c code) (λ e. let h = same-inside code cs in rw e (omega arith)) (λ e. rw e (omega arith))

same_stops : (code : ℕ) (cs : List ℕ) → same code cs < length cs → get_or cs (same code cs) 0 ≡ code → ⊥
same_stops code [] h f = omega arith
same_stops code (c ∷ cs) h f =
    bool_cases (eqb c code)
    (λ e. let l : suc (same code cs) < suc (length cs) = rw e at h in let g : get_or cs (same code cs) 0 ≡ code = rw e at f in same_stops code cs (omega arith) g)
    (λ e. let g : c ≡ code = rw e at f in eqb-false c code e g)

-- n codes from place k on are one code
abbrev pub Alike : List ℕ → ℕ → ℕ → Type 0
Alike codes k n = (i : ℕ) → i < n → code_at codes (k + i) ≡ code_at codes k

pub alike_one : (codes : List ℕ) (k : ℕ) → Alike codes k 1
alike_one codes k i h = let e : k + i ≡ k = omega arith in ap (code_at codes) e

pub alike_more : (codes : List ℕ) (k n : ℕ) → Alike codes k n → code_at codes (k + n) ≡ code_at codes k → Alike codes k (n + 1)
alike_more codes k n a e i h =
    bool_cases (ltb i n) (λ t. a i (ltb-true i n t))
    (λ t. let l = ltb-false i n t in let f : i ≡ n = omega arith in ap (λ (j : ℕ). code_at codes (k + j)) f ∙ e)

-- the largest code of a part, by the places of the whole
pub largest_part : (codes : List ℕ) (start end : ℕ) → start ≤ end → end ≤ length codes
    → largest_to (λ k. get_or (take (end - start) (drop start codes)) k 0) (length (take (end - start) (drop start codes)))
    ≡ largest_to (λ k. code_at codes (start + k)) (end - start)
largest_part codes start end h l =
    let part = take (end - start) (drop start codes) in
    let n : length part ≡ end - start = length-take-le (end - start) (drop start codes) (omega (arith, length-drop start codes)) in
    ap (largest_to (λ k. get_or part k 0)) n
    ∙ largest-same (λ k. get_or part k 0) (λ k. code_at codes (start + k)) (end - start)
    (λ k i. get_or-take (end - start) (drop start codes) k 0 i ∙ get_or-drop start codes k 0)

-- a code of the part is at most its largest
pub at_most_largest : (codes : List ℕ) (start end k : ℕ) → start ≤ k → k < end → code_at codes k ≤ largest_to (λ i. code_at codes (start + i)) (end - start)
at_most_largest codes start end k h l =
    let e : start + (k - start) ≡ k = omega arith in
    let m = largest_at (λ i. code_at codes (start + i)) (end - start) (k - start) (omega arith) in
    rw e at m

-- the largest of a part is below what the largest of all is below
pub part_less : (codes : List ℕ) (start end m : ℕ) → end ≤ length codes → largest_to (code_at codes) (length codes) < m
    → largest_to (λ i. code_at codes (start + i)) (end - start) < m
part_less codes start end m h l =
    largest_less (λ i. code_at codes (start + i)) (end - start) m (omega arith)
    (λ i b. let k = largest_at (code_at codes) (length codes) (start + i) (omega arith) in omega arith)

-- the largest of two parts, one behind the other
pub largest_so_far : (codes : List ℕ) (start end top most : ℕ) → start ≤ end → top ≡ largest_to (code_at codes) start
    → most ≡ largest_to (λ i. code_at codes (start + i)) (end - start) → max top most ≡ largest_to (code_at codes) end
largest_so_far codes start end top most h e f =
    let g : start + (end - start) ≡ end = omega arith in
    rw (e, f) (largest_join (code_at codes) start (end - start)) ∙ ap (largest_to (code_at codes)) g

-- ---- the piece that begins at a place

-- n codes from place k on are a piece: they are one code, and the stretch or the limit ends there.
pub record PieceAt (limit : ℕ) (codes : List ℕ) (k n : ℕ) : Type 0 where
  pub some : 0 < n
  pub most : n ≤ limit
  pub inside : k + n ≤ length codes
  pub one : Alike codes k n
  pub whole : (n ≡ limit) ⊎ ((k + n ≡ length codes) ⊎ (code_at codes (k + n) ≡ code_at codes k → ⊥))

module _ (limit : ℕ) (codes : List ℕ) (k : ℕ) where
  -- one piece is not shorter than another
  not_shorter : (n m : ℕ) → PieceAt limit codes k n → PieceAt limit codes k m → n < m → ⊥
  not_shorter n m a b h =
      ⊎_elim (λ e. let x = b.most in omega arith)
      (⊎_elim (λ e. let x = b.inside in omega arith) (λ e. e (b.one n h)))
      a.whole

  -- so there is one length
  pub piece_only : (n m : ℕ) → PieceAt limit codes k n → PieceAt limit codes k m → n ≡ m
  piece_only n m a b =
      bool_cases (ltb n m) (λ e. absurd (not_shorter n m a b (ltb-true n m e)))
      (λ e. bool_cases (ltb m n) (λ f. absurd (not_shorter m n b a (ltb-true m n f)))
      (λ f. let x = ltb-false n m e in let y = ltb-false m n f in omega arith))

  -- the piece of the definition
  module _ (positive : 0 < limit) (h : k < length codes) where
    abbrev code : ℕ
    code = code_at codes k

    abbrev behind : List ℕ
    behind = drop (k + 1) codes

    behind_at : (i : ℕ) → get_or behind i 0 ≡ code_at codes (k + suc i)
    behind_at i = let e : k + 1 + i ≡ k + suc i = omega arith in get_or-drop (k + 1) codes i 0 ∙ ap (code_at codes) e

    pub piece_at : PieceAt limit codes k (piece_length limit code behind)
    piece_at =
        let n = same code behind in
        let b = same-inside code behind in
        let l = length-drop (k + 1) codes in
        record {
          some = omega arith;
          most = omega arith;
          inside = omega arith;
          one = one;
          whole = bool_cases (ltb (suc n) limit) (λ e. inr (stretch (ltb-true (suc n) limit e))) (λ e. let x = ltb-false (suc n) limit e in inl (omega arith));
        }
      where
        one : (i : ℕ) → i < piece_length limit code behind → code_at codes (k + i) ≡ code
        one zero i = ap (code_at codes) (add-zero k)
        one (suc i) l = sym (behind_at i) ∙ same_at code behind i (omega arith)

        stretch : suc (same code behind) < limit
            → (k + piece_length limit code behind ≡ length codes) ⊎ (code_at codes (k + piece_length limit code behind) ≡ code → ⊥)
        stretch l =
            let n = same code behind in
            let b = same-inside code behind in
            let d = length-drop (k + 1) codes in
            let e : piece_length limit code behind ≡ suc n = omega arith in
            bool_cases (ltb n (length behind))
            (λ t. inr (λ f. same_stops code behind (ltb-true n (length behind) t) (behind_at n ∙ ap (λ (x : ℕ). code_at codes (k + x)) (sym e) ∙ f)))
            (λ t. let x = ltb-false n (length behind) t in inl (omega arith))

-- a piece that was found is that of the definition
pub piece_told : (limit : ℕ) (codes : List ℕ) (k n : ℕ) → 0 < limit → k < length codes → PieceAt limit codes k n
    → (n ≡ piece_length limit (code_at codes k) (drop (k + 1) codes)) × ((0 < n) × (k + n ≤ length codes) × (n ≤ limit))
piece_told limit codes k n positive h p = (piece_only limit codes k n _ p (piece_at limit codes k positive h), (p.some, p.inside, p.most))

-- ---- the pieces from a place on

skipped : (limit skip k : ℕ) (cs : List ℕ) → pieces limit skip k cs ≡ pieces limit 0 (k + skip) (drop skip cs)
unfolding pieces
skipped limit zero k [] = refl
skipped limit (suc skip) k [] = refl
skipped limit zero k (c ∷ cs) = ap (λ (x : ℕ). pieces limit 0 x (c ∷ cs)) (sym (add-zero k))
skipped limit (suc skip) k (c ∷ cs) =
    let e : suc k + skip ≡ k + suc skip = omega arith in
    skipped limit skip (suc k) cs ∙ ap (λ (x : ℕ). pieces limit 0 x (drop skip cs)) e

-- there are no more pieces than codes
pub pieces-count : (limit skip k : ℕ) (cs : List ℕ) → length (pieces limit skip k cs) ≤ length cs
unfolding pieces
pieces-count limit skip k [] = omega arith
pieces-count limit (suc skip) k (c ∷ cs) = let h = pieces-count limit skip (suc k) cs in omega arith
pieces-count limit zero k (c ∷ cs) =
    bool_cases (leb 4 c)
    (λ e. let h = pieces-count limit (piece_length limit c cs - 1) (suc k) cs in rw e (omega arith))
    (λ e. let h = pieces-count limit zero (suc k) cs in rw e (omega arith))

-- a piece begins at a code of 4 or more
begins : (limit k c : ℕ) (cs : List ℕ) → 4 ≤ c
    → pieces limit 0 k (c ∷ cs) ≡ piece c k (piece_length limit c cs) ∷ pieces limit (piece_length limit c cs - 1) (suc k) cs
unfolding pieces
begins limit k c cs h = rw (le-leb 4 c h)

module _ (limit : ℕ) (codes : List ℕ) (k : ℕ) where
  -- behind the last code there is none
  pub pieces_end : length codes ≤ k → pieces_from limit codes k ≡ []
  unfolding pieces
  pieces_end h = rw (drop_of_length-le codes h)

  -- none begins at a code below 4
  pub pieces-plain : k < length codes → code_at codes k < 4 → pieces_from limit codes k ≡ pieces_from limit codes (k + 1)
  unfolding pieces
  pieces-plain h l = rw (drop-cons codes k 0 h, lt-leb 4 (code_at codes k) l, add-one k)

  -- at another code one does, and the next begins behind it
  pub pieces-next : 0 < limit → k < length codes → 4 ≤ code_at codes k →
      let n = piece_length limit (code_at codes k) (drop (k + 1) codes) in
      pieces_from limit codes k ≡ piece (code_at codes k) k n ∷ pieces_from limit codes (k + n)
  pieces-next positive h l =
      let c = code_at codes k in
      let behind = drop (k + 1) codes in
      let n = piece_length limit c behind in
      let e : suc k ≡ k + 1 = omega arith in
      let f : drop k codes ≡ c ∷ behind = drop-cons codes k 0 h ∙ ap (λ (x : ℕ). c ∷ drop x codes) e in
      let g : suc k + (n - 1) ≡ k + n = omega arith in
      let i : k + 1 + (n - 1) ≡ k + n = omega arith in
      let j : drop (n - 1) behind ≡ drop (k + n) codes = drop-drop (n - 1) (k + 1) codes ∙ ap (λ (x : ℕ). drop x codes) i in
      ap (pieces limit 0 k) f
      ∙ begins limit k c behind l
      ∙ ap (λ (xs : List Correction). piece c k n ∷ xs) (skipped limit (n - 1) (suc k) behind ∙ ap₂ (pieces limit 0) g j)

-- none begins among codes below 4
pub pieces-plain-all : (limit : ℕ) (codes : List ℕ) (d k : ℕ) → k + d ≤ length codes → ((i : ℕ) → k ≤ i → i < k + d → code_at codes i < 4)
    → pieces_from limit codes k ≡ pieces_from limit codes (k + d)
pieces-plain-all limit codes zero k h l = rw (add-zero k)
pieces-plain-all limit codes (suc d) k h l =
    let e : k + 1 + d ≡ k + suc d = omega arith in
    pieces-plain limit codes k (omega arith) (l k (omega arith) (omega arith))
    ∙ pieces-plain-all limit codes d (k + 1) (omega arith) (λ i a b. l i (omega arith) (omega arith))
    ∙ ap (pieces_from limit codes) e

-- ---- a scan

module _ (limit : ℕ) (codes : List ℕ) where
  pub met_none : (k : ℕ) → k ≤ length codes → Met limit codes k 0 k
  met_none k h = record { inside = h; some = omega arith; others = refl }

  -- one scan behind another
  pub met_join : (k n m i next : ℕ) → Met limit codes k n m → Met limit codes m i next → Met limit codes k (n + i) next
  met_join k n m i next a b =
      let l = length-drop n (pieces_from limit codes k) in
      let e = ap length a.others in
      let s = a.some in
      let t = b.some in
      record {
        inside = b.inside;
        some = omega arith;
        others = sym (drop-drop i n (pieces_from limit codes k)) ∙ ap (drop i) a.others ∙ b.others;
      }

  -- past codes below 4
  pub met_plain : (k n m e : ℕ) → Met limit codes k n m → m ≤ e → e ≤ length codes → ((i : ℕ) → m ≤ i → i < e → code_at codes i < 4) → Met limit codes k n e
  met_plain k n m e a h l f =
      let g : m + (e - m) ≡ e = omega arith in
      record {
        inside = l;
        some = a.some;
        others = a.others
            ∙ pieces-plain-all limit codes (e - m) m (omega arith) (λ i p q. f i p (omega arith))
            ∙ ap (pieces_from limit codes) g;
      }

  -- past one code below 4
  pub met_step : (k n m : ℕ) → Met limit codes k n m → m < length codes → code_at codes m < 4 → Met limit codes k n (m + 1)
  met_step k n m a h l =
      met_plain k n m (m + 1) a (omega arith) (omega arith) (λ i p q. let e : i ≡ m = omega arith in rw e l)

  -- past a block whose codes are below 4
  pub met_block : (k end : ℕ) → k ≤ length codes → end ≤ length codes → ((i : ℕ) → k ≤ i → i < end → code_at codes i < 4)
      → Met limit codes k 0 (max k end) × (end ≤ max k end)
  met_block k end h l f = (met_plain k 0 k (max k end) (met_none k h) (omega arith) (omega arith) (λ i p q. f i p (omega arith)), omega arith)

  -- past a piece
  module _ (k n m length' : ℕ) (a : Met limit codes k n m) (positive : 0 < limit) (h : m < length codes) (l : 4 ≤ code_at codes m)
      (e : length' ≡ piece_length limit (code_at codes m) (drop (m + 1) codes)) where
    next : drop n (pieces_from limit codes k) ≡ piece (code_at codes m) m length' ∷ pieces_from limit codes (m + length')
    next = a.others ∙ pieces-next limit codes m positive h l ∙ rw e

    pub met_more : n < length (pieces_from limit codes k)
    met_more = let x = length-drop n (pieces_from limit codes k) in let y = ap length next in omega arith

    pub met_piece : Met limit codes k (n + 1) (m + length')
    met_piece =
        let x = met_more in
        record {
          inside = rw e (piece_at limit codes m positive h).inside;
          some = omega arith;
          others = rest_step' (pieces_from limit codes k) n next;
        }
      where
        rest_step' : (xs : List Correction) (n : ℕ) {x : Correction} {ys : List Correction} → drop n xs ≡ x ∷ ys → drop (n + 1) xs ≡ ys
        rest_step' xs n q = sym (drop-drop 1 n xs) ∙ ap (drop 1) q

    -- the piece is the next of the list
    pub taken_next : take (n + 1) (pieces_from limit codes k) ≡ take n (pieces_from limit codes k) ++ (piece (code_at codes m) m length' ∷ [])
    taken_next = take-add n 1 (pieces_from limit codes k) ∙ ap (λ (xs : List Correction). take n (pieces_from limit codes k) ++ take 1 xs) next

  -- a scan of all codes meets all pieces
  pub met_all : (n m : ℕ) → Met limit codes 0 n m → length codes ≤ m → n ≡ length (pieces_from limit codes 0)
  met_all n m a h =
      let e = ap length (a.others ∙ pieces_end limit codes m h) in
      let l = length-drop n (pieces_from limit codes 0) in
      let s = a.some in
      omega arith
