-- A page and its plain statement agree: it answers and leaves what PageHolds says, and nothing else meets PageHolds. Assumes nothing.
use mathlib.Core.Path.{◌≡◌, refl, sym, ap, subst, ◌∙◌}
use mathlib.Core.List.{List, [], ◌∷◌, ◌++◌}
use mathlib.Core.Logic.{inl, inr, ⊎_elim}
use Prim.Native.Nat.{ℕ, zero, suc, ◌+◌, ◌-◌, ◌≤◌, ◌<◌}
use native.Mathlib.Omega.{arith}
use native.Mathlib.Numerals.{add-one}
use native.Mathlib.Nat.{eq-or-lt_of_le, le_of_suc-le-suc, not-suc-le-zero}
use borrow.Author.Tests.{leb-true, leb-false}
use lib.Dec.{leb}
use lib.ListN.{length, get_or, set, take, drop, length-set, length-drop, take-append-drop}
use lib.Seq.{slice, take-length, take-take, take_at, take-suc-set, drop-set-lt, drop_at, length-take-le}
use Rattle.std.specs.Prelude.{Result, Ok, Err}
use Rattle.laws.specs.Writing.{written_at, Begun}
use Rattle.laws.proofs.Begun.{begun_written}
use Rattle.laws.proofs.Places.{sum-rises}
use Rattle.laws.proofs.Parts.{front-slice, slice_front}
use Rattle.laws.proofs.Storing.{written_behind}
use Rattle.laws.proofs.Tests.{bool_cases}
use Rattle.laws.proofs.Writing.{drop-later}
use Rattle.answers.specs.declared.Refusal.{Refusal}
use Rattle.sequence.specs.Sequence.{decode_answer, decode_number, residues_of}
use Rattle.sequence.proofs.Decoded.{decoded_length, decoded_fits, decoded_count, decoded_output}
use Rattle.pages.specs.Page.{Progress, begun, left, item_answer, item_output, counted, step, Outcome, fetch_all}
use Rattle.pages.specs.declared.Stop.{Stop}
use Rattle.pages.specs.Page.{stopped_at, page_of, page_answer, page_output, page_ends}
use Rattle.pages.specs.Holds.{item_length, filled_by, ItemsDone, PageHolds, large, short, whole, refused}
use Rattle.pages.proofs.Steps.{item-done, output-size, list_goes_on, list_stops, list-ends}
use Rattle.pages.proofs.Steps.{index_large, sequence_large, ends-short, page_items}

-- ---- codes written into a list

-- codes written from a place up to an end: what stands before and between
module _ (place end : ℕ) (codes old new : List ℕ) (count : place + length codes ≡ end) (fits : end ≤ length old) (is : new ≡ written_at place codes old) where
  written : Begun place codes end old new
  written = rw is (begun_written place end codes codes old (take-length codes) (omega arith) (omega arith))

  front : take end new ≡ take place old ++ codes
  front = ap (λ (k : ℕ). take k new) (sym count) ∙ written.front

  codes-between : slice place end new ≡ codes
  codes-between = ap (drop place) front ∙ drop_at (take place old) codes place (length-take-le place old (omega arith))

  before-codes : take place new ≡ take place old
  before-codes =
      sym (take-take place end new (omega arith))
      ∙ ap (take place) front
      ∙ take_at (take place old) codes place (length-take-le place old (omega arith))

-- ---- what is filled

module _ (index sequence numbers : List ℕ) where
  pub filled_next : (n : ℕ) → filled_by index sequence numbers (suc n) ≡ filled_by index sequence numbers n + item_length index sequence numbers n
  unfolding filled_by
  filled_next n = refl

  pub filled-rises : (k n : ℕ) → k ≤ n → filled_by index sequence numbers k ≤ filled_by index sequence numbers n
  unfolding filled_by
  filled-rises k n h = sum-rises (item_length index sequence numbers) k n h

-- ---- what is reached after n items

module _ (index sequence numbers output ends : List ℕ) where
  abbrev number : ℕ → ℕ
  number k = get_or numbers k 0

  abbrev filled : ℕ → ℕ
  filled = filled_by index sequence numbers

  -- a single fetch of item k, behind the items before it
  abbrev fetch : ℕ → Result ℕ Refusal
  fetch k = decode_answer index sequence (number k) (length output - filled k)

  abbrev Fetches : ℕ → Type 0
  Fetches n = (k : ℕ) → k < n → fetch k ≡ Ok (item_length index sequence numbers k)

  abbrev reached : ℕ → Progress
  reached zero = begun output ends
  reached (suc n) = step index sequence (number n) (reached n)

  record Reached (n : ℕ) : Type 0 where
    filled_is : (reached n).filled ≡ filled n
    done_is : (reached n).done ≡ n
    output_size : length (reached n).output ≡ length output
    ends_size : length (reached n).ends ≡ length ends
    fits : filled n ≤ length output
    items : ItemsDone index sequence numbers output ends n (reached n).output (reached n).ends

  -- item n in what was reached is the single fetch
  answer_at : (n : ℕ) → Reached n → item_answer index sequence (number n) (reached n) ≡ fetch n
  answer_at n a =
      let size = a.output_size in
      let at = a.filled_is in
      let e : length (left (reached n)) ≡ length output - filled n = omega (arith, length-drop (reached n).filled (reached n).output) in
      ap (decode_answer index sequence (number n)) e

  -- ---- one item more

  abbrev Done : ℕ → List ℕ → List ℕ → Type 0
  Done = ItemsDone index sequence numbers output ends

  module _ (n : ℕ) (o e : List ℕ) (d : Done n o e) (given : fetch n ≡ Ok (item_length index sequence numbers n)) (room : filled (suc n) ≤ length o)
      (place : n < length e) where
    abbrev codes : List ℕ
    codes = residues_of index sequence (number n)

    count : filled n + length codes ≡ filled (suc n)
    count =
        ap (λ (k : ℕ). filled n + k) (decoded_count index sequence (number n) (length output - filled n) (item_length index sequence numbers n) given)
        ∙ sym (filled_next index sequence numbers n)

    items-next : (o' e' : List ℕ) → o' ≡ written_at (filled n) codes o → e' ≡ set e n (filled (suc n)) → Done (suc n) o' e'
    items-next o' e' o_is e_is =
        let before = before-codes (filled n) (filled (suc n)) codes o o' count room o_is in
        let w = written (filled n) (filled (suc n)) codes o o' count room o_is in
        record {
          fetched = λ k h. ⊎_elim (λ i. rw i given) (λ l. d.fetched k l) (eq-or-lt_of_le (le_of_suc-le-suc h));
          residues = λ k h.
              ⊎_elim (λ i. rw i (codes-between (filled n) (filled (suc n)) codes o o' count room o_is))
              (λ l. slice_front (filled k) (filled (suc k)) (filled n) o' o (filled-rises index sequence numbers (suc k) n l) before ∙ d.residues k l)
              (eq-or-lt_of_le (le_of_suc-le-suc h));
          sums = ap (take (suc n)) e_is
              ∙ take-suc-set e n (filled (suc n)) place
              ∙ ap (λ (l : List ℕ). l ++ (filled (suc n) ∷ [])) d.sums;
          output_rest = w.behind ∙ drop-later (filled n) (filled (suc n)) o output (omega (arith, count)) d.output_rest;
          ends_rest = ap (drop (suc n)) e_is
              ∙ drop-set-lt (suc n) e n (filled (suc n)) (omega arith)
              ∙ drop-later n (suc n) e ends (omega arith) d.ends_rest;
        }

  module _ (n : ℕ) (a : Reached n) (given : fetch n ≡ Ok (item_length index sequence numbers n)) (place : n < length ends) where
    abbrev p : Progress
    p = reached n

    abbrev l : ℕ
    l = item_length index sequence numbers n

    answered : item_answer index sequence (number n) p ≡ Ok l
    answered = answer_at n a ∙ given

    is-counted : reached (suc n) ≡ counted (Ok l) (item_output index sequence (number n) p) p
    is-counted = item-done index sequence (number n) p l answered

    next-filled : p.filled + l ≡ filled (suc n)
    next-filled = ap (λ (k : ℕ). k + l) a.filled_is ∙ sym (filled_next index sequence numbers n)

    -- the item's residues are written behind the bytes filled before
    item_written : item_output index sequence (number n) p ≡ written_at (filled n) (residues_of index sequence (number n)) p.output
    item_written =
        ap (λ (xs : List ℕ). take p.filled p.output ++ xs) (decoded_output index sequence (number n) (left p) (ap decode_number answered))
        ∙ written_behind p.filled (residues_of index sequence (number n)) p.output
        ∙ ap (λ (k : ℕ). written_at k (residues_of index sequence (number n)) p.output) a.filled_is

    next-ends : set p.ends p.done (p.filled + l) ≡ set p.ends n (filled (suc n))
    next-ends = ap (λ (k : ℕ). set p.ends k (p.filled + l)) a.done_is ∙ ap (set p.ends n) next-filled

    next_fits : filled (suc n) ≤ length output
    next_fits =
        let f = decoded_fits index sequence (number n) (length output - filled n) l given in
        let g = filled_next index sequence numbers n in
        let h = a.fits in
        omega arith

    reached_next : Reached (suc n)
    reached_next = record {
      filled_is = ap (λ (q : Progress). q.filled) is-counted ∙ next-filled;
      done_is = ap (λ (q : Progress). q.done) is-counted ∙ ap (λ (k : ℕ). k + 1) a.done_is ∙ add-one n;
      output_size = ap (λ (q : Progress). length q.output) is-counted ∙ output-size index sequence (number n) p ∙ a.output_size;
      ends_size = ap (λ (q : Progress). length q.ends) is-counted ∙ length-set p.ends p.done (p.filled + l) ∙ a.ends_size;
      fits = next_fits;
      items = items-next n p.output p.ends a.items given (rw a.output_size next_fits) (rw a.ends_size place) (reached (suc n)).output
          (reached (suc n)).ends (ap (λ (q : Progress). q.output) is-counted ∙ item_written) (ap (λ (q : Progress). q.ends) is-counted ∙ next-ends);
    }

  none_before : {A : Type 0} (k : ℕ) → k < 0 → A
  none_before k h = absurd (not-suc-le-zero h)

  -- after n items that can be fetched
  at : (n : ℕ) → n ≤ length ends → Fetches n → Reached n
  unfolding filled_by
  at zero h f = record {
    filled_is = refl;
    done_is = refl;
    output_size = refl;
    ends_size = refl;
    fits = omega arith;
    items = record { fetched = λ k i. none_before k i; residues = λ k i. none_before k i; sums = refl; output_rest = refl; ends_rest = refl };
  }
  at (suc n) h f = reached_next n (at n (omega arith) (λ k i. f k (omega arith))) (f n (omega arith)) (omega arith)

  -- the page has come to them
  walked : (n : ℕ) → n ≤ length numbers → n ≤ length ends → Fetches n
      → fetch_all index sequence numbers (begun output ends) ≡ fetch_all index sequence (drop n numbers) (reached n)
  walked zero h g f = refl
  walked (suc n) h g f =
      let before : Fetches n = λ k i. f k (omega arith) in
      let answer = answer_at n (at n (omega arith) before) ∙ f n (omega arith) in
      walked n (omega arith) (omega arith) before
      ∙ list_goes_on index sequence numbers n (omega arith) (reached n) (item_length index sequence numbers n) answer
      ∙ ap (λ (k : ℕ). fetch_all index sequence (drop k numbers) (reached (suc n))) (add-one n)

  -- ---- the page holds

  abbrev Holds : Outcome → Type 0
  Holds x = PageHolds index sequence numbers output ends x.answer x.progress.output x.progress.ends

  module _ (i : length index ≤ 2147483647) (s : length sequence ≤ 2147483647) (e : length numbers ≤ length ends) where
    all_done : (n : ℕ) → n ≡ length numbers → Fetches n → Holds (fetch_all index sequence numbers (begun output ends))
    all_done n c f =
        let r = at n (omega arith) f in
        let x = walked n (omega arith) (omega arith) f ∙ list-ends index sequence numbers n (reached n) (omega arith) in
        let d : Done (length numbers) (reached n).output (reached n).ends = subst (λ (k : ℕ). Done k (reached n).output (reached n).ends) c r.items in
        subst Holds (sym x) (whole i s e (ap Ok (r.done_is ∙ c)) d)

    stops_at : (n : ℕ) → n < length numbers → Fetches n → (r : Refusal) → fetch n ≡ Err r
        → Holds (fetch_all index sequence numbers (begun output ends))
    stops_at n h f r g =
        let a = at n (omega arith) f in
        let x = walked n (omega arith) (omega arith) f ∙ list_stops index sequence numbers n h (reached n) r (answer_at n a ∙ g) in
        subst Holds (sym x) (refused i s e n h r g (ap (stopped_at r) a.done_is) a.items)

    one_more : (n : ℕ) → Fetches n → (l : ℕ) → fetch n ≡ Ok l → Fetches (suc n)
    one_more n f l g k h =
        ⊎_elim (λ i. rw i (g ∙ ap Ok (decoded_length index sequence (number n) (length output - filled n) l g))) (λ b. f k b)
        (eq-or-lt_of_le (le_of_suc-le-suc h))

    from : (m n : ℕ) → n + m ≡ length numbers → Fetches n → Holds (fetch_all index sequence numbers (begun output ends))
    from zero n c f = all_done n (omega arith) f
    from (suc m) n c f = by (fetch n) refl (λ more. from m (suc n) (omega arith) more)
      where
        by : (a : Result ℕ Refusal) → fetch n ≡ a → (Fetches (suc n) → Holds (fetch_all index sequence numbers (begun output ends)))
            → Holds (fetch_all index sequence numbers (begun output ends))
        by (Ok l) g on = on (one_more n f l g)
        by (Err r) g on = stops_at n (omega arith) f r g

    items-hold : Holds (fetch_all index sequence numbers (begun output ends))
    items-hold = from (length numbers) 0 (omega arith) (λ k h. none_before k h)

  by_size : {A : Type 0} (m n : ℕ) → (m ≤ n → A) → (n < m → A) → A
  by_size m n f g = bool_cases (leb m n) (λ t. f (leb-true m n t)) (λ t. g (leb-false m n t))

  -- A page answers and leaves what the plain statement says.
  pub page_holds : PageHolds index sequence numbers output ends (page_answer index sequence numbers output ends)
      (page_output index sequence numbers output ends) (page_ends index sequence numbers output ends)
  page_holds =
      by_size (length index) 2147483647
      (λ i.
      by_size (length sequence) 2147483647
      (λ s.
      by_size (length numbers) (length ends) (λ e. subst Holds (page_items index sequence numbers output ends i s e) (items-hold i s e))
      (λ e. subst Holds (ends-short index sequence numbers output ends i s e) (short i s e refl refl refl)))
      (λ s. subst Holds (sequence_large index sequence numbers output ends i s) (large (inr s) refl refl refl)))
      (λ i. subst Holds (index_large index sequence numbers output ends i) (large (inl i) refl refl refl))

  -- ---- and nothing else does

  -- the same items done leave the same
  module _ (n : ℕ) (o e o' e' : List ℕ) (d : Done n o e) (d' : Done n o' e') where
    same-front : (k : ℕ) → k ≤ n → take (filled k) o ≡ take (filled k) o'
    unfolding filled_by
    same-front zero h = refl
    same-front (suc k) h =
        let r = filled-rises index sequence numbers k (suc k) (omega arith) in
        front-slice (filled k) (filled (suc k)) o r
        ∙ ap (λ (xs : List ℕ). xs ++ slice (filled k) (filled (suc k)) o) (same-front k (omega arith))
        ∙ ap (λ (xs : List ℕ). take (filled k) o' ++ xs) (d.residues k h ∙ sym (d'.residues k h))
        ∙ sym (front-slice (filled k) (filled (suc k)) o' r)

    same-output : o ≡ o'
    same-output =
        sym (take-append-drop (filled n) o)
        ∙ ap (λ (xs : List ℕ). xs ++ drop (filled n) o) (same-front n (omega arith))
        ∙ ap (λ (xs : List ℕ). take (filled n) o' ++ xs) (d.output_rest ∙ sym d'.output_rest)
        ∙ take-append-drop (filled n) o'

    same_ends : e ≡ e'
    same_ends =
        sym (take-append-drop n e)
        ∙ ap (λ (xs : List ℕ). xs ++ drop n e) (d.sums ∙ sym d'.sums)
        ∙ ap (λ (xs : List ℕ). take n e' ++ xs) (d.ends_rest ∙ sym d'.ends_rest)
        ∙ take-append-drop n e'

  -- an answer, an output and a list of ends are those of an outcome
  abbrev Are : Result ℕ Stop → List ℕ → List ℕ → Outcome → Type 0
  Are a o e x = (a ≡ x.answer) × (o ≡ x.progress.output) × (e ≡ x.progress.ends)

  -- Whatever meets the plain statement is what the page answers and leaves.
  pub holds_page : (answer : Result ℕ Stop) (o e : List ℕ) → PageHolds index sequence numbers output ends answer o e
      → Are answer o e (page_of index sequence numbers output ends)
  holds_page answer o e (large (inl i) a b c) = subst (Are answer o e) (index_large index sequence numbers output ends i) (a, b, c)
  holds_page answer o e (large (inr s) a b c) =
      by_size (length index) 2147483647 (λ i. subst (Are answer o e) (sequence_large index sequence numbers output ends i s) (a, b, c))
      (λ i. subst (Are answer o e) (index_large index sequence numbers output ends i) (a, b, c))
  holds_page answer o e (short i s h a b c) = subst (Are answer o e) (ends-short index sequence numbers output ends i s h) (a, b, c)
  holds_page answer o e (whole i s h a d) =
      let r = at (length numbers) h d.fetched in
      let x =
      sym (page_items index sequence numbers output ends i s h)
      ∙ walked (length numbers) (omega arith) h d.fetched
      ∙ list-ends index sequence numbers (length numbers) (reached (length numbers)) (omega arith) in
      subst (Are answer o e) (sym x) (
        a ∙ ap Ok (sym r.done_is),
        same-output (length numbers) o e _ _ d r.items,
        same_ends (length numbers) o e _ _ d r.items,
      )
  holds_page answer o e (refused i s h n b r g a d) =
      let w = at n (omega arith) d.fetched in
      let x =
      sym (page_items index sequence numbers output ends i s h)
      ∙ walked n (omega arith) (omega arith) d.fetched
      ∙ list_stops index sequence numbers n b (reached n) r (answer_at n w ∙ g) in
      subst (Are answer o e) (sym x) (a ∙ ap (stopped_at r) (sym w.done_is), same-output n o e _ _ d w.items, same_ends n o e _ _ d w.items)
