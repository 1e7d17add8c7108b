-- The corrections of the definition meet the plain statements of specs/Holds.antt, and no others do. Assumes nothing.
use mathlib.Core.Path.{◌≡◌, refl, sym, ap, ap₂, ◌∙◌, subst}
use mathlib.Core.List.{List, [], ◌∷◌}
use mathlib.Core.Logic.{◌⊎◌, inl, inr, ⊎_elim}
use Prim.Native.Nat.{ℕ, zero, suc, ◌+◌, ◌-◌, ◌≤◌, ◌<◌}
use native.Mathlib.Nat.{not-suc-le-zero, add-zero, mul-zero, mul-add, mul-one}
use native.Mathlib.Omega.{arith}
use lib.Dec.{ltb, eqb}
use lib.ListN.{length, get_or-eq_default}
use borrow.Author.Tests.{ltb-true, ltb-false, eqb-true, eqb-false}
use Rattle.laws.proofs.Tests.{bool_cases}
use Rattle.residues.specs.Tables.{ambiguity_value}
use Rattle.sequence.specs.declared.Correction.{Correction}
use Rattle.sequence.specs.Corrections.{correction_in, correction_end, Apart, EndWithin}
use Rattle.nucleotides.specs.Pieces.{piece, pieces_from}
use Rattle.nucleotides.specs.Scan.{code_at}
use Rattle.nucleotides.specs.Holds.{HaveCode, CutFromFront, PieceHolds, Covered, PiecesHold}
use Rattle.nucleotides.proofs.Stretches.{PieceAt, Alike, piece_at, piece_only, pieces_end, pieces-plain, pieces-next}

none_before : {A : Type 0} (k : ℕ) → k < 0 → A
none_before k h = absurd (not-suc-le-zero h)

-- by which of two numbers is larger
pub by_order : {A : Type 0} (m n : ℕ) → (m < n → A) → (n ≤ m → A) → A
by_order m n f g = bool_cases (ltb m n) (λ t. f (ltb-true m n t)) (λ t. g (ltb-false m n t))

module _ (limit : ℕ) (codes : List ℕ) where
  -- the statements, of corrections from place k on
  record HoldFrom (k : ℕ) (corrections : List Correction) : Type 0 where
    each : (j : ℕ) → j < length corrections → PieceHolds limit codes (correction_in corrections j)
    within : EndWithin corrections (length codes)
    apart : Apart corrections
    from : (j : ℕ) → j < length corrections → k ≤ (correction_in corrections j).start
    all : (i : ℕ) → k ≤ i → i < length codes → 4 ≤ code_at codes i → Covered corrections i

  -- a code of 4 or more is no code behind the last
  inside : (k : ℕ) → 4 ≤ code_at codes k → k < length codes
  inside k h = by_order k (length codes) (λ l. l) (λ l. let e : code_at codes k ≡ 0 = get_or-eq_default codes 0 l in absurd (omega arith))

  -- ---- the front of a stretch

  -- a piece that begins at place k is cut from the front of its stretch
  abbrev Fresh : ℕ → Type 0
  Fresh k = 4 ≤ code_at codes k → CutFromFront limit codes k

  -- a stretch begins behind another code
  front_new : (k : ℕ) → (k ≡ 0) ⊎ (code_at codes (k - 1) ≡ code_at codes k → ⊥) → CutFromFront limit codes k
  front_new k b = record {
    first = k;
    before = 0;
    cut = rw (mul-zero limit) (add-zero k);
    one = λ i h l. absurd (omega arith);
    begins = b;
  }

  -- or goes on behind a piece of the limit's length
  front-next : (k n : ℕ) → CutFromFront limit codes k → Alike codes k n → n ≡ limit → code_at codes (k + n) ≡ code_at codes k → CutFromFront limit codes (k + n)
  front-next k n f a e g = record {
    first = f.first;
    before = f.before + 1;
    cut = let c = f.cut in rw (mul-add limit f.before 1, mul-one limit) (omega arith);
    one = rw g one;
    begins = rw g f.begins;
  }
    where
      one : HaveCode codes (code_at codes k) f.first (k + n)
      one i h l =
          by_order i k (f.one i h)
          (λ b. let d : k + (i - k) ≡ i = omega arith in ap (code_at codes) (sym d) ∙ a (i - k) (omega arith))

  -- behind a code below 4 a stretch begins
  fresh_plain : (k : ℕ) → code_at codes k < 4 → Fresh (k + 1)
  fresh_plain k h l =
      let e : k + 1 - 1 ≡ k = omega arith in
      front_new (k + 1) (inr (λ g. let f : code_at codes k ≡ code_at codes (k + 1) = ap (code_at codes) (sym e) ∙ g in omega arith))

  -- behind a piece the stretch goes on, or another begins
  fresh_piece : (k n : ℕ) → CutFromFront limit codes k → PieceAt limit codes k n → Fresh (k + n)
  fresh_piece k n f p h =
      bool_cases (eqb (code_at codes (k + n)) (code_at codes k))
      (λ t. let g = eqb-true (code_at codes (k + n)) (code_at codes k) t in
      ⊎_elim (λ e. front-next k n f p.one e g) (⊎_elim (λ e. absurd (omega (arith, inside (k + n) h))) (λ e. absurd (e g))) p.whole)
      (λ t. front_new (k + n) (inr (λ g. eqb-false (code_at codes (k + n)) (code_at codes k) t (sym g ∙ last))))
    where
      last : code_at codes (k + n - 1) ≡ code_at codes k
      last = let s = p.some in let e : k + (n - 1) ≡ k + n - 1 = omega arith in ap (code_at codes) (sym e) ∙ p.one (n - 1) (omega arith)

  -- ---- the corrections of the definition hold

  module _ (positive : 0 < limit) where
    hold-none : (k : ℕ) → length codes ≤ k → HoldFrom k []
    hold-none k h = record {
      each = λ j i. none_before j i;
      within = λ j i. none_before j i;
      apart = λ j i. none_before (suc j) i;
      from = λ j i. none_before j i;
      all = λ i a b c. absurd (omega arith);
    }

    -- before a code below 4 they are those behind it
    hold-plain : (k : ℕ) (cs : List Correction) → code_at codes k < 4 → HoldFrom (k + 1) cs → HoldFrom k cs
    hold-plain k cs h r = record {
      each = r.each;
      within = r.within;
      apart = r.apart;
      from = λ j i. let f = r.from j i in omega arith;
      all = λ i a b c.
          by_order k i (λ l. r.all i (omega arith) b c)
          (λ l. let e : i ≡ k = omega arith in let f : code_at codes i ≡ code_at codes k = ap (code_at codes) e in absurd (omega arith));
    }

    -- a piece before those behind it
    module _ (k n : ℕ) (cs : List Correction) (h : 4 ≤ code_at codes k) (f : CutFromFront limit codes k) (p : PieceAt limit codes k n)
        (r : HoldFrom (k + n) cs) where
      abbrev c : Correction
      c = piece (code_at codes k) k n

      first : PieceHolds limit codes c
      first = record {
        code = h;
        value = refl;
        one = λ i a b. let e : k + (i - k) ≡ i = omega arith in ap (code_at codes) (sym e) ∙ p.one (i - k) (omega arith);
        some = p.some;
        most = p.most;
        whole = p.whole;
        front = f;
      }

      each : (j : ℕ) → j < length (c ∷ cs) → PieceHolds limit codes (correction_in (c ∷ cs) j)
      each zero i = first
      each (suc j) i = r.each j (omega arith)

      within : EndWithin (c ∷ cs) (length codes)
      within zero i = p.inside
      within (suc j) i = r.within j (omega arith)

      apart : Apart (c ∷ cs)
      apart zero i = r.from 0 (omega arith)
      apart (suc j) i = r.apart j (omega arith)

      from : (j : ℕ) → j < length (c ∷ cs) → k ≤ (correction_in (c ∷ cs) j).start
      from zero i = omega arith
      from (suc j) i = let a = r.from j (omega arith) in omega arith

      all : (i : ℕ) → k ≤ i → i < length codes → 4 ≤ code_at codes i → Covered (c ∷ cs) i
      all i a b g =
          by_order i (k + n) (λ l. record { number = 0; within = omega arith; from = a; below = l })
          (λ l. let x = r.all i l b g in record { number = suc x.number; within = let w = x.within in omega arith; from = x.from; below = x.below })

      hold-piece : HoldFrom k (c ∷ cs)
      hold-piece = record { each = each; within = within; apart = apart; from = from; all = all }

    -- from the place behind the next piece on, and so from that piece on
    step : (d k n : ℕ) → length codes ≤ k + suc d → 4 ≤ code_at codes k → CutFromFront limit codes k → PieceAt limit codes k n
        → pieces_from limit codes k ≡ piece (code_at codes k) k n ∷ pieces_from limit codes (k + n)
        → ((i : ℕ) → length codes ≤ i + d → Fresh i → HoldFrom i (pieces_from limit codes i)) → HoldFrom k (pieces_from limit codes k)
    step d k n h a f p e on =
        let s = p.some in
        subst (HoldFrom k) (sym e) (hold-piece k n (pieces_from limit codes (k + n)) a f p (on (k + n) (omega arith) (fresh_piece k n f p)))

    pieces-hold-from : (d k : ℕ) → length codes ≤ k + d → Fresh k → HoldFrom k (pieces_from limit codes k)
    pieces-hold-from zero k h f = subst (HoldFrom k) (sym (pieces_end limit codes k (omega arith))) (hold-none k (omega arith))
    pieces-hold-from (suc d) k h f =
        by_order k (length codes)
        (λ l.
        by_order (code_at codes k) 4
        (λ a.
        subst (HoldFrom k) (sym (pieces-plain limit codes k l a))
        (hold-plain k (pieces_from limit codes (k + 1)) a (pieces-hold-from d (k + 1) (omega arith) (fresh_plain k a))))
        (λ a. step d k _ h a (f a) (piece_at limit codes k positive l) (pieces-next limit codes k positive l a) (pieces-hold-from d)))
        (λ l. subst (HoldFrom k) (sym (pieces_end limit codes k l)) (hold-none k l))

    -- The corrections of the definition meet the plain statements.
    pub pieces-hold : PiecesHold limit codes (pieces_from limit codes 0)
    pieces-hold =
        let r = pieces-hold-from (length codes) 0 (omega arith) (λ h. front_new 0 (inl refl)) in
        record { each = r.each; within = r.within; apart = r.apart; all = λ i h g. r.all i (omega arith) h g }

  -- ---- and no others do

  -- a piece from place k on is that of its length
  piece_here : (k : ℕ) (c : Correction) → c.start ≡ k → PieceHolds limit codes c → correction_end c ≤ length codes → PieceAt limit codes k c.length
  piece_here k c e p w = subst (λ (i : ℕ). PieceAt limit codes i c.length) e (record {
    some = p.some;
    most = p.most;
    inside = w;
    one = λ i h. p.one (c.start + i) (omega arith) (omega arith);
    whole = p.whole;
  })

  piece_is : (k n : ℕ) (c : Correction) → c.start ≡ k → c.length ≡ n → PieceHolds limit codes c → c ≡ piece (code_at codes k) k n
  piece_is k n c e f p =
      let v : c.value ≡ ambiguity_value (code_at codes k) = p.value ∙ ap (λ (i : ℕ). ambiguity_value (code_at codes i)) e in
      λ i. record { value = v i; start = e i; length = f i }

  module _ (k : ℕ) (c : Correction) (cs : List Correction) (r : HoldFrom k (c ∷ cs)) where
    -- those behind the first start behind it
    later : (j : ℕ) → j < length cs → correction_end c ≤ (correction_in cs j).start
    later zero h = r.apart 0 (omega arith)
    later (suc j) h = let a = later j (omega arith) in let b = r.apart (suc j) (omega arith) in omega arith

    -- at a code of 4 or more the first starts
    starts_here : Covered (c ∷ cs) k → c.start ≡ k
    starts_here x = by x.number x.within x.from x.below
      where
        by : (j : ℕ) → j < length (c ∷ cs) → (correction_in (c ∷ cs) j).start ≤ k → k < correction_end (correction_in (c ∷ cs) j) → c.start ≡ k
        by zero h a b = let f = r.from 0 h in omega arith
        by (suc j) h a b =
            let f = r.from 0 (omega arith) in
            let s = (r.each 0 (omega arith)).some in
            let l = later j (omega arith) in
            absurd (omega arith)

    -- the others hold from its end on
    hold_rest : (end : ℕ) → correction_end c ≡ end → k ≤ end → HoldFrom end cs
    hold_rest end e l = record {
      each = λ j h. r.each (suc j) (omega arith);
      within = λ j h. r.within (suc j) (omega arith);
      apart = λ j h. r.apart (suc j) (omega arith);
      from = λ j h. let a = later j h in omega arith;
      all = λ i a b g. let x = r.all i (omega arith) b g in by i a x.number x.within x.from x.below;
    }
      where
        by : (i : ℕ) → end ≤ i → (j : ℕ) → j < length (c ∷ cs) → (correction_in (c ∷ cs) j).start ≤ i → i < correction_end (correction_in (c ∷ cs) j) → Covered cs i
        by i l zero h a b = absurd (omega arith)
        by i l (suc j) h a b = record { number = j; within = omega arith; from = a; below = b }

  -- behind the last code there is none
  only_none : (k : ℕ) (cs : List Correction) → length codes ≤ k → HoldFrom k cs → cs ≡ []
  only_none k [] h r = refl
  only_none k (c ∷ cs) h r =
      let a = r.from 0 (omega arith) in
      let b = r.within 0 (omega arith) in
      let s = (r.each 0 (omega arith)).some in
      absurd (omega arith)

  -- at a code below 4 none starts
  rest_plain : (k : ℕ) (cs : List Correction) → code_at codes k < 4 → HoldFrom k cs → HoldFrom (k + 1) cs
  rest_plain k cs h r = record {
    each = r.each;
    within = r.within;
    apart = r.apart;
    from = λ j i. let a = r.from j i in let b = (r.each j i).code in
        by_order k (correction_in cs j).start (λ l. omega arith)
        (λ l. let e : (correction_in cs j).start ≡ k = omega arith in
        let f : code_at codes (correction_in cs j).start ≡ code_at codes k = ap (code_at codes) e in
        absurd (omega arith));
    all = λ i a b g. r.all i (omega arith) b g;
  }

  module _ (positive : 0 < limit) where
    -- the first is the next piece, and the others those behind it
    only_step : (d k n : ℕ) (cs : List Correction) → length codes ≤ k + suc d → k < length codes → 4 ≤ code_at codes k → PieceAt limit codes k n
        → pieces_from limit codes k ≡ piece (code_at codes k) k n ∷ pieces_from limit codes (k + n)
        → ((i : ℕ) (xs : List Correction) → length codes ≤ i + d → HoldFrom i xs → xs ≡ pieces_from limit codes i) → HoldFrom k cs
        → cs ≡ pieces_from limit codes k
    only_step d k n [] h l a p e on r = let x = r.all k (omega arith) l a in none_before x.number x.within
    only_step d k n (c ∷ cs) h l a p e on r =
        let s = p.some in
        let f : c.start ≡ k = starts_here k c cs r (r.all k (omega arith) l a) in
        let first = r.each 0 (omega arith) in
        let g : c.length ≡ n = piece_only limit codes k c.length n (piece_here k c f first (r.within 0 (omega arith))) p in
        let rest = on (k + n) cs (omega arith) (hold_rest k c cs r (k + n) (omega arith) (omega arith)) in
        ap₂ {B = List Correction} (λ x xs. x ∷ xs) (piece_is k n c f g first) rest ∙ sym e

    only_pieces : (d k : ℕ) (cs : List Correction) → length codes ≤ k + d → HoldFrom k cs → cs ≡ pieces_from limit codes k
    only_pieces zero k cs h r = only_none k cs (omega arith) r ∙ sym (pieces_end limit codes k (omega arith))
    only_pieces (suc d) k cs h r =
        by_order k (length codes)
        (λ l.
        by_order (code_at codes k) 4
        (λ a. only_pieces d (k + 1) cs (omega arith) (rest_plain k cs a r) ∙ sym (pieces-plain limit codes k l a))
        (λ a. only_step d k _ cs h l a (piece_at limit codes k positive l) (pieces-next limit codes k positive l a) (only_pieces d) r))
        (λ l. only_none k cs l r ∙ sym (pieces_end limit codes k l))

-- Whatever meets the plain statements is what the definition gives.
pub hold-pieces : (limit : ℕ) (codes : List ℕ) (corrections : List Correction) → 0 < limit → PiecesHold limit codes corrections
    → corrections ≡ pieces_from limit codes 0
hold-pieces limit codes corrections positive p =
    only_pieces limit codes positive (length codes) 0 corrections (omega arith) (record {
      each = p.each;
      within = p.within;
      apart = p.apart;
      from = λ j h. omega arith;
      all = λ i a h g. p.all i h g;
    })
