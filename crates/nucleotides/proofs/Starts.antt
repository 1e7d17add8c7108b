-- The starts of stretches in a block whose stretches are short: each is one piece. A block that is one stretch: it is cut at the limit.
-- Assumes nothing.
use mathlib.Core.Path.{◌≡◌, refl, sym, ap, ◌∙◌}
use mathlib.Core.Bool.{cond}
use mathlib.Core.List.{List}
use mathlib.Core.Logic.{inl, inr, ⊎_elim}
use Prim.Native.Nat.{ℕ, zero, suc, ◌+◌, ◌*◌, ◌-◌, ◌/◌, ◌≤◌, ◌<◌}
use native.Mathlib.Nat.{add-zero}
use Rattle.std.proofs.Math.Nat.{div-mul-le_self}
use native.Mathlib.Omega.{arith}
use lib.Dec.{leb, ltb, eqb}
use lib.ListN.{length, drop, length-drop}
use borrow.Author.Tests.{lt-leb, le-leb, leb-true, eqb-true, eqb-false, ltb-true, ltb-false}
use Rattle.laws.specs.Places.{sum_to}
use Rattle.laws.proofs.Tests.{bool_cases}
use Rattle.nucleotides.specs.Pieces.{piece_length, pieces_from}
use Rattle.nucleotides.specs.Scan.{code_at, Met, ambiguous, begun, ambiguous_in, begun_in, Stretch}
use Rattle.nucleotides.proofs.Stretches.{PieceAt, piece_at, piece_told, pieces-count, met_none, met_plain, met_piece}

-- ---- 0 or 1 at a place

-- 1 at a code of 4 or more that is the one before, else 0
abbrev kept : ℕ → ℕ → ℕ
kept before code = cond (eqb before code) (ambiguous code) 0

abbrev kept_in : List ℕ → ℕ → ℕ → ℕ
kept_in codes k n = sum_to (λ i. kept (code_at codes (k + i)) (code_at codes (k + i + 1))) n

pub ambiguous-most : (c : ℕ) → ambiguous c ≤ 1
ambiguous-most c = bool_cases (leb 4 c) (λ e. rw e (omega arith)) (λ e. rw e (omega arith))

pub begun-most : (b c : ℕ) → begun b c ≤ 1
begun-most b c = bool_cases (eqb b c) (λ e. rw e (omega arith)) (λ e. rw e (ambiguous-most c))

apart : (b c : ℕ) → kept b c + begun b c ≡ ambiguous c
apart b c = bool_cases (eqb b c) (λ e. rw e (omega arith)) (λ e. rw e (omega arith))

apart_in : (codes : List ℕ) (k n : ℕ) → kept_in codes k n + begun_in codes k n ≡ ambiguous_in codes k n
apart_in codes k zero = refl
apart_in codes k (suc n) =
    let h = apart_in codes k n in
    let a = apart (code_at codes (k + n)) (code_at codes (k + n + 1)) in
    omega arith

-- ---- the stretch of a place

module _ (codes : List ℕ) (k s p : ℕ) (a : Stretch codes k s p) where
  -- no other stretch begins before it
  not-before : (t : ℕ) → Stretch codes k t p → t < s → ⊥
  not-before t b h =
      ⊎_elim (λ e. let x = b.behind in omega arith)
      (λ f. let x = a.before in f (b.one (s - 1) (omega arith) (omega arith)))
      a.front

pub stretch_only : (codes : List ℕ) (k s t p : ℕ) → Stretch codes k s p → Stretch codes k t p → s ≡ t
stretch_only codes k s t p a b =
    bool_cases (ltb s t) (λ e. absurd (not-before codes k t p b s a (ltb-true s t e)))
    (λ e. bool_cases (ltb t s) (λ f. absurd (not-before codes k s p a t b (ltb-true t s f)))
    (λ f. let x = ltb-false s t e in let y = ltb-false t s f in omega arith))

pub ambiguous-other : (c : ℕ) → 4 ≤ c → 1 ≡ ambiguous c
ambiguous-other c h = rw (le-leb 4 c h)

module _ (codes : List ℕ) (k : ℕ) where
  stretch_one : Stretch codes k k k
  stretch_one = record {
    behind = omega arith;
    before = omega arith;
    one = λ i h l. let e : i ≡ k = omega arith in ap (code_at codes) e;
    front = inl refl;
  }

  -- one place more of the same stretch
  stretch_more : (s p : ℕ) → Stretch codes k s p → code_at codes p ≡ code_at codes (p + 1) → Stretch codes k s (p + 1)
  stretch_more s p a e = record {
    behind = a.behind;
    before = let x = a.before in omega arith;
    one = λ i h l. bool_cases (ltb p i)
        (λ t. let x = ltb-true p i t in let f : i ≡ p + 1 = omega arith in ap (code_at codes) f)
        (λ t. let x = ltb-false p i t in a.one i h (omega arith) ∙ e);
    front = ⊎_elim (λ f. inl f) (λ f. inr (λ g. f (g ∙ sym e))) a.front;
  }

  -- the next begins
  stretch_next : (p : ℕ) → k ≤ p → (code_at codes p ≡ code_at codes (p + 1) → ⊥) → Stretch codes k (p + 1) (p + 1)
  stretch_next p h n = record {
    behind = omega arith;
    before = omega arith;
    one = λ i a b. let e : i ≡ p + 1 = omega arith in ap (code_at codes) e;
    front = inr (λ f. let e : p ≡ p + 1 - 1 = omega arith in n (ap (code_at codes) e ∙ f));
  }

-- ---- a scan goes past the stretch of a place

module _ (limit : ℕ) (codes : List ℕ) (k s p m : ℕ) (positive : 0 < limit) (h : p < length codes) (a : Stretch codes k s p) (met : Met limit codes k m s) where
  pub past-plain : code_at codes p < 4 → Met limit codes k (m + ambiguous (code_at codes p)) (p + 1)
  past-plain l =
      let b = a.before in
      let e : m + ambiguous (code_at codes p) ≡ m = rw (lt-leb 4 (code_at codes p) l) (add-zero m) in
      rw e (met_plain limit codes k m s (p + 1) met (omega arith) (omega arith) (λ i x y. let f = a.one i x (omega arith) in omega arith))

  module _ (l : 4 ≤ code_at codes p) (short : p < s + limit) where
    first : code_at codes s ≡ code_at codes p
    first = let b = a.before in a.one s (omega arith) b

    pub past-piece : (n : ℕ) → n ≡ piece_length limit (code_at codes s) (drop (s + 1) codes)
        → Met limit codes k (m + ambiguous (code_at codes p)) (s + n) × (p < s + n)
    past-piece n e =
        let b = a.before in
        let g : m + ambiguous (code_at codes p) ≡ m + 1 = rw (le-leb 4 (code_at codes p) l) in
        let i : s < length codes = omega arith in
        (rw g (met_piece limit codes k m s n met positive i (omega (arith, first)) e), ends)
      where
        ends : p < s + n
        ends =
            let b = a.before in
            let i : s < length codes = omega arith in
            let q = piece_at limit codes s positive i in
            let x = q.inside in
            bool_cases (ltb p (s + n)) (ltb-true p (s + n))
            (λ t. let y = ltb-false p (s + n) t in
            ⊎_elim (λ f. omega arith)
            (⊎_elim (λ f. omega arith) (λ f. absurd (f (ap (λ (z : ℕ). code_at codes (s + z)) (sym e) ∙ a.one (s + n) (omega arith) y ∙ sym first))))
            q.whole)

    -- where the next code is another
    past_stretch : p + 1 < length codes → (code_at codes p ≡ code_at codes (p + 1) → ⊥) → Met limit codes k (m + ambiguous (code_at codes p)) (p + 1)
    past_stretch i other =
        let b = a.before in
        let n = p + 1 - s in
        let f : s + n ≡ p + 1 = omega arith in
        let q : PieceAt limit codes s n = record {
          some = omega arith;
          most = omega arith;
          inside = omega arith;
          one = λ j x. a.one (s + j) (omega arith) (omega arith) ∙ sym first;
          whole = inr (inr (λ g. other (sym first ∙ sym g ∙ ap (code_at codes) f)));
        } in
        let r = (past-piece n (piece_told limit codes s n positive (omega arith) q).0).0 in
        rw f at r

-- past the stretch that was found to begin at t
pub past_found : (limit : ℕ) (codes : List ℕ) (k p t n : ℕ) → 0 < limit → p < length codes → 4 ≤ code_at codes p → Stretch codes k t p
    → n ≡ piece_length limit (code_at codes t) (drop (t + 1) codes)
    → (s m : ℕ) → Stretch codes k s p → Met limit codes k m s → (4 ≤ code_at codes p → p < s + limit)
    → Met limit codes k (m + ambiguous (code_at codes p)) (t + n) × (p < t + n)
past_found limit codes k p t n positive h l b e s m a met short =
    let f = stretch_only codes k s t p a b in
    let met' : Met limit codes k m t = rw f at met in
    past-piece limit codes k t p m positive h b met' l (omega (arith, short l)) n e

-- ---- the pieces that begin up to a place

pub record Counted (limit : ℕ) (codes : List ℕ) (k p d : ℕ) : Type 0 where
  pub start : ℕ
  pub met_before : ℕ
  pub stretch : Stretch codes k start p
  pub met : Met limit codes k met_before start
  pub short : 4 ≤ code_at codes p → p ≤ start + kept_in codes k d
  pub count : ambiguous (code_at codes k) + begun_in codes k d ≡ met_before + ambiguous (code_at codes p)

module _ (limit : ℕ) (codes : List ℕ) (k : ℕ) (positive : 0 < limit) where
  counted-one : k < length codes → Counted limit codes k k 0
  counted-one h = record {
    start = k;
    met_before = 0;
    stretch = stretch_one codes k;
    met = met_none limit codes k (omega arith);
    short = λ l. omega arith;
    count = omega arith;
  }

  counted-more : (d : ℕ) → k + d + 1 < length codes → kept_in codes k d < limit → Counted limit codes k (k + d) d → Counted limit codes k (k + d + 1) (suc d)
  counted-more d h l a =
      let p = k + d in
      let x = code_at codes p in
      let y = code_at codes (p + 1) in
      let c = a.count in
      bool_cases (eqb x y)
      (λ t. let e = eqb-true x y t in record {
        start = a.start;
        met_before = a.met_before;
        stretch = stretch_more codes k a.start p a.stretch e;
        met = a.met;
        short = λ f. let s = a.short (omega arith) in let g = ambiguous-other y f in let i : kept x y ≡ ambiguous y = rw t in omega arith;
        count = let i : begun x y ≡ 0 = rw t in let j : ambiguous x ≡ ambiguous y = ap ambiguous e in omega arith;
      })
      (λ t. let n = eqb-false x y t in record {
        start = p + 1;
        met_before = a.met_before + ambiguous x;
        stretch = stretch_next codes k p (omega arith) n;
        met = bool_cases (ltb x 4)
            (λ u. past-plain limit codes k a.start p a.met_before positive (omega arith) a.stretch a.met (ltb-true x 4 u))
            (λ u. let v = ltb-false x 4 u in let s = a.short v in
            past_stretch limit codes k a.start p a.met_before positive (omega arith) a.stretch a.met v (omega arith) h n);
        short = λ f. omega arith;
        count = let i : begun x y ≡ ambiguous y = rw t in omega arith;
      })

  counted : (d : ℕ) → k + d < length codes → kept_in codes k d < limit → Counted limit codes k (k + d) d
  counted zero h l = rw (add-zero k) (counted-one (omega arith))
  counted (suc d) h l =
      let e : k + suc d ≡ k + d + 1 = omega arith in
      let r = counted-more d (omega arith) (omega arith) (counted d (omega arith) (omega arith)) in
      rw e r

  -- the codes of 4 or more that are the ones before are fewer than the limit
  pub all-counted : (d : ℕ) → k + d < length codes → ambiguous_in codes k d - begun_in codes k d < limit → Counted limit codes k (k + d) d
  all-counted d h l = let a = apart_in codes k d in counted d h (omega arith)

pub begun_fewer : (codes : List ℕ) (k n : ℕ) → begun_in codes k n ≤ ambiguous_in codes k n
begun_fewer codes k n = let a = apart_in codes k n in omega arith

-- a block whose pieces were counted by their starts
pub starts_met : (limit : ℕ) (codes : List ℕ) (k end : ℕ) → 0 < limit → end ≤ length codes → k < end →
    let n = end - k - 1 in
    ambiguous_in codes k n - begun_in codes k n < limit
    → (pieces next : ℕ) → pieces ≡ ambiguous (code_at codes k) + begun_in codes k n
    → ((s m : ℕ) → Stretch codes k s (k + n) → Met limit codes k m s → (4 ≤ code_at codes (k + n) → k + n < s + limit)
    → Met limit codes k (m + ambiguous (code_at codes (k + n))) next × (k + n < next))
    → Met limit codes k pieces next × (end ≤ next)
starts_met limit codes k end positive h l few pieces next e f =
    let n = end - k - 1 in
    let c = all-counted limit codes k positive n (omega arith) few in
    let a = apart_in codes k n in
    let r = f c.start c.met_before c.stretch c.met (λ x. let s = c.short x in omega arith) in
    (rw (e ∙ c.count) r.0, omega (arith, r.1))

-- ---- a block that is one stretch

kept_most : (codes : List ℕ) (k n : ℕ) → kept_in codes k n ≤ n
kept_most codes k zero = omega arith
kept_most codes k (suc n) =
    let h = kept_most codes k n in
    let a = apart (code_at codes (k + n)) (code_at codes (k + n + 1)) in
    let c = ambiguous-most (code_at codes (k + n + 1)) in
    omega arith

kept_one : (b c : ℕ) → 1 ≤ kept b c → (c ≡ b) × (4 ≤ c)
kept_one b c h =
    bool_cases (eqb b c)
    (λ e. bool_cases (leb 4 c)
    (λ f. (sym (eqb-true b c e), leb-true 4 c f))
    (λ f. let l : 1 ≤ 0 = rw (e, f) at h in absurd (omega arith)))
    (λ e. let l : 1 ≤ 0 = rw e at h in absurd (omega arith))

kept_all : (codes : List ℕ) (k n : ℕ) → n ≤ kept_in codes k n → (i : ℕ) → i < n
    → (code_at codes (k + i + 1) ≡ code_at codes (k + i)) × (4 ≤ code_at codes (k + i + 1))
kept_all codes k zero h i l = absurd (omega arith)
kept_all codes k (suc n) h i l =
    let m = kept_most codes k n in
    let x = code_at codes (k + n) in
    let y = code_at codes (k + n + 1) in
    let o : kept x y ≤ 1 = let a = apart x y in let c = ambiguous-most y in omega arith in
    bool_cases (ltb i n) (λ t. kept_all codes k n (omega arith) i (ltb-true i n t))
    (λ t. let u = ltb-false i n t in let e : i ≡ n = omega arith in rw e (kept_one x y (omega arith)))

alike_all : (codes : List ℕ) (k n : ℕ) → n ≤ kept_in codes k n → 0 < n → (i : ℕ) → i ≤ n
    → (code_at codes (k + i) ≡ code_at codes k) × (4 ≤ code_at codes (k + i))
alike_all codes k n h p zero l =
    let a = kept_all codes k n h 0 p in
    let e : k + 0 ≡ k = omega arith in
    let b = rw e at a in
    rw e (refl, omega (arith, b.0, b.1))
alike_all codes k n h p (suc i) l =
    let a = kept_all codes k n h i (omega arith) in
    let e : k + suc i ≡ k + i + 1 = omega arith in
    rw e (a.0 ∙ (alike_all codes k n h p i (omega arith)).0, a.1)

-- where as many codes are the ones before them as there are, all are one code of 4 or more
pub all_one : (codes : List ℕ) (from end : ℕ) → from < end →
    let n = end - from - 1 in
    0 < n → ambiguous_in codes from n - begun_in codes from n ≡ n
    → (k : ℕ) → from ≤ k → k < end → (code_at codes k ≡ code_at codes from) × (4 ≤ code_at codes k)
all_one codes from end h p e k a b =
    let n = end - from - 1 in
    let q = apart_in codes from n in
    let f : from + (k - from) ≡ k = omega arith in
    let r = alike_all codes from n (omega arith) p (k - from) (omega arith) in
    rw f at r

pub pieces-from-count : (limit : ℕ) (codes : List ℕ) (k : ℕ) → length (pieces_from limit codes k) ≤ length codes
pieces-from-count limit codes k = let a = pieces-count limit 0 k (drop k codes) in let b = length-drop k codes in omega arith

-- a piece of as many codes as the limit allows
pub met_cut : (limit : ℕ) (codes : List ℕ) (from end n k : ℕ) → 0 < limit → end ≤ length codes
    → ((k : ℕ) → from ≤ k → k < end → (code_at codes k ≡ code_at codes from) × (4 ≤ code_at codes k))
    → from ≤ k → k + limit ≤ end → Met limit codes from n k → Met limit codes from (n + 1) (k + limit)
met_cut limit codes from end n k positive h all a b met =
    let f = all k a (omega arith) in
    let q : PieceAt limit codes k limit = record {
      some = positive;
      most = omega arith;
      inside = omega arith;
      one = λ j x. (all (k + j) (omega arith) (omega arith)).0 ∙ sym f.0;
      whole = inl refl;
    } in
    met_piece limit codes from n k limit met positive (omega arith) f.1 (piece_told limit codes k limit positive (omega arith) q).0

-- so many of them as stand up to the end
cuts : (limit : ℕ) (codes : List ℕ) (from end : ℕ) → 0 < limit → end ≤ length codes
    → ((k : ℕ) → from ≤ k → k < end → (code_at codes k ≡ code_at codes from) × (4 ≤ code_at codes k))
    → (n : ℕ) → from + n * limit ≤ end → Met limit codes from n (from + n * limit)
cuts limit codes from end positive h all zero l =
    let e : from + zero * limit ≡ from = omega arith in
    rw e (met_none limit codes from (omega arith))
cuts limit codes from end positive h all (suc n) l =
    let e : from + n * limit + limit ≡ from + suc n * limit = grind arith in
    let f : n + 1 ≡ suc n = omega arith in
    let m = cuts limit codes from end positive h all n (omega arith) in
    let r = met_cut limit codes from end n (from + n * limit) positive h all (omega arith) (omega arith) m in
    rw (f, e) at r

pub cuts_met : (limit : ℕ) (codes : List ℕ) (from end : ℕ) → 0 < limit → end ≤ length codes
    → ((k : ℕ) → from ≤ k → k < end → (code_at codes k ≡ code_at codes from) × (4 ≤ code_at codes k))
    → from ≤ end → Met limit codes from ((end - from) / limit) (from + (end - from) / limit * limit)
cuts_met limit codes from end positive h all l =
    let d = div-mul-le_self (end - from) limit in
    cuts limit codes from end positive h all ((end - from) / limit) (omega arith)
