-- The entries of an ambiguity range that keeps its rules: each lies in the range, and each correction ends within the sequence.
-- Assumes nothing.
use mathlib.Core.Path.{◌≡◌, refl, sym, ap, ◌∙◌}
use mathlib.Core.Bool.{Bool, true, false, cond, ◌&&◌, and-false}
use mathlib.Core.List.{List}
use mathlib.Core.Logic.{◌⊎◌, inl, inr, ⊎_elim}
use Prim.Native.Nat.{ℕ, ◌+◌, ◌*◌, ◌-◌, ◌/◌, ◌%◌, ◌^◌, ◌≤◌, ◌<◌}
use native.Mathlib.Nat.{one-mul}
use native.Mathlib.Numerals.{add-one}
use native.Mathlib.Omega.{arith}
use lib.Dec.{leb, eqb, lit<}
use lib.ListN.{length}
use lib.Pow.{shl_exact}
use borrow.Author.Tests.{leb-true, leb-false, eqb-true, le-leb, lt-leb, eq-eqb, ne_eqb}
use Rattle.std.specs.Prelude.{Option, Some, None}
use Rattle.laws.specs.Places.{every}
use Rattle.laws.specs.Rules.{AllHold}
use Rattle.laws.proofs.Places.{every_at}
use Rattle.laws.proofs.Tests.{bool_cases, both_pass}
use Rattle.sequence.specs.declared.Correction.{Correction}
use Rattle.sequence.specs.declared.RangeEntries.{RangeEntries}
use Rattle.sequence.specs.declared.Width.{Width}
use Rattle.sequence.specs.declared.Width.TheVariants.{Narrow, Wide}
use Rattle.sequence.specs.Tabled.{width_bytes, range_width, range_entries, entries_of, LieInside}
use Rattle.sequence.specs.Corrections.{first_word, stated_words, is_wide, is_table, entry_width, entry_count, correction_of, correction_at}
use Rattle.sequence.specs.Corrections.{correction_end, end_before, entry_fits, range_rules}
use Rattle.sequence.specs.Holds.{HasEntries, empty, narrow, wide}

-- ---- the width of an entry

-- four or eight
pub width_either : (w : Width) → (width_bytes w ≡ 4) ⊎ (width_bytes w ≡ 8)
width_either Narrow = inl refl
width_either Wide = inr refl

-- the bits of an entry's fields, as the code shifts by them
module _ (w : ℕ) (e : (w ≡ 4) ⊎ (w ≡ 8)) where
  pub offset_shift : 6 * w < 64
  offset_shift = ⊎_elim (λ f. omega arith) (λ f. omega arith) e

  pub repeat_shift : (4 ≤ 2 * w) × (2 * w - 4 < 64)
  repeat_shift = ⊎_elim (λ f. omega arith) (λ f. omega arith) e

pub power_shifted : (b : ℕ) → b < 64 → 1 * 2 ^ b % 18446744073709551616 ≡ 2 ^ b
power_shifted b h = shl_exact {a = 1} 1 b 64 (lit< tt) (omega arith) ∙ one-mul (2 ^ b)

-- an entry's value is below 16, its offset below 2^48, and its repeat at most 4096
pub correction_small : (w entry : ℕ) → (w ≡ 4) ⊎ (w ≡ 8) → entry < 2 ^ (8 * w)
    → ((correction_of w entry).value < 16) × ((correction_of w entry).start < 281474976710656) × ((correction_of w entry).length ≤ 4096)
unfolding correction_of
correction_small w entry (inl e) h = let l : entry < 4294967296 = rw e at h in rw e (omega arith)
correction_small w entry (inr e) h = let l : entry < 18446744073709551616 = rw e at h in rw e (omega arith)

-- ---- the range

module _ (sequence : List ℕ) (place end : ℕ) where
  -- the words that are stated end at the end, and what is asked of their count holds
  stated_end : (even : Bool) → (leb (place + 4) end && (eqb (place + 4 + 4 * stated_words sequence place) end && even)) ≡ true
      → (place + 4 + 4 * stated_words sequence place ≡ end) × (even ≡ true)
  stated_end even e =
      let last = eqb (place + 4 + 4 * stated_words sequence place) end in
      let p = both_pass last even (both_pass (leb (place + 4) end) (last && even) e).1 in
      (eqb-true (place + 4 + 4 * stated_words sequence place) end p.0, p.1)

  by_tests : (none big : Bool) → eqb place end ≡ none → is_wide sequence place ≡ big
      → cond none true
      (leb (place + 4) end && (eqb (place + 4 + 4 * stated_words sequence place) end && cond big (eqb (stated_words sequence place % 2) 0) true))
      ≡ true
      → HasEntries sequence place end (cond big 8 4) (cond none 0 (cond big (stated_words sequence place / 2) (stated_words sequence place)))
  by_tests true big e f t = empty (eqb-true place end e) refl
  by_tests false true e f t =
      let p = stated_end (eqb (stated_words sequence place % 2) 0) t in
      let even : stated_words sequence place % 2 ≡ 0 = eqb-true _ _ p.1 in
      wide (leb-true _ _ f) p.0 refl (omega arith)
  by_tests false false e f t = narrow (leb-false _ _ f) (stated_end true t).0 refl refl

  -- a range that is a table has its entries
  pub table_of : is_table sequence place end ≡ true → HasEntries sequence place end (entry_width sequence place) (entry_count sequence place end)
  unfolding is_table entry_width entry_count
  table_of t = by_tests (eqb place end) (is_wide sequence place) refl refl t

  some_words : (words : ℕ) → place + 4 + 4 * words ≡ end → eqb place end ≡ false
  some_words words e = ne_eqb place end (λ f. omega arith)

  module _ (w n : ℕ) where
    -- and back, with that many entries of that width
    pub table_test : HasEntries sequence place end w n → is_table sequence place end ≡ true
    unfolding is_table
    table_test (empty e z) = rw (eq-eqb place end e)
    table_test (narrow h e f g) = rw (some_words _ e, le-leb (place + 4) end (omega arith), eq-eqb _ end e, lt-leb 2147483648 _ h)
    table_test (wide h e f g) =
        let even = eq-eqb (stated_words sequence place % 2) 0 (omega arith) in
        rw (some_words _ e, le-leb (place + 4) end (omega arith), eq-eqb _ end e, le-leb 2147483648 _ h, even)

    pub count_of : HasEntries sequence place end w n → entry_count sequence place end ≡ n
    unfolding entry_count
    count_of (empty e z) = rw (eq-eqb place end e, z)
    count_of (narrow h e f g) = rw (some_words _ e, lt-leb 2147483648 _ h) (sym g)
    count_of (wide h e f g) = rw (some_words _ e, le-leb 2147483648 _ h) (omega arith)

    pub width_of_lem : HasEntries sequence place end w n → 0 < n → entry_width sequence place ≡ w
    unfolding entry_width
    width_of_lem (empty e z) l = absurd (omega arith)
    width_of_lem (narrow h e f g) l = rw (lt-leb 2147483648 _ h) (sym f)
    width_of_lem (wide h e f g) l = rw (le-leb 2147483648 _ h) (sym f)

    -- each entry lies within the range
    entry_inside : HasEntries sequence place end w n → (j : ℕ) → j < n → place + 4 + w * j + w ≤ end
    entry_inside (empty e z) j l = absurd (omega arith)
    entry_inside (narrow h e f g) j l = rw f (omega arith)
    entry_inside (wide h e f g) j l = rw f (omega arith)

-- the bytes of the width that a range's word states
bytes-stated : (sequence : List ℕ) (place : ℕ) → width_bytes (cond (is_wide sequence place) Wide Narrow) ≡ entry_width sequence place
unfolding entry_width
bytes-stated sequence place = bool_cases (is_wide sequence place) (λ t. rw t refl) (λ f. rw f refl)

-- where there is an entry, the range has the width that its word states
pub at_width : (sequence : List ℕ) (place end j : ℕ) → j < entry_count sequence place end → width_bytes (range_width sequence place end) ≡ entry_width sequence place
unfolding entry_count
at_width sequence place end j h =
    bool_cases (eqb place end) (λ t. let none : j < 0 = rw t at h in absurd (omega arith)) (λ n. rw n (bytes-stated sequence place))

-- what the width does not change where there is no entry is the same by both
pub by_width : {X : Type 0} (sequence : List ℕ) (place end : ℕ) (f : ℕ → ℕ → X) → ((v w : ℕ) → f v 0 ≡ f w 0)
    → f (width_bytes (range_width sequence place end)) (entry_count sequence place end) ≡ f (entry_width sequence place) (entry_count sequence place end)
unfolding entry_count
by_width sequence place end f same = bool_cases (eqb place end) (λ t. rw t (same 4 (entry_width sequence place)))
    (λ n. rw n (ap (λ (w : ℕ). f w (cond false 0 (cond (is_wide sequence place) (stated_words sequence place / 2) (stated_words sequence place)))) (bytes-stated sequence place)))

-- the entries of a range lie within the file
pub entries-lie : (sequence : List ℕ) (place end : ℕ) → is_table sequence place end ≡ true → end ≤ length sequence
    → LieInside sequence (range_entries sequence place end)
entries-lie sequence place end t h =
    λ j l.
    rw (at_width sequence place end j l)
    (let i = entry_inside sequence place end (entry_width sequence place) (entry_count sequence place end) (table_of sequence place end t) j l in
    omega arith)

-- a range that gives entries is a table, and they are its own
pub table_some : (sequence : List ℕ) (place end : ℕ) (e : RangeEntries) → entries_of sequence place end ≡ Some e
    → (is_table sequence place end ≡ true) × (e ≡ range_entries sequence place end)
table_some sequence place end e = by_test (is_table sequence place end)
  where
    by_test : (b : Bool) → ◌≡◌ {A = Option RangeEntries} (cond b (Some (range_entries sequence place end)) None) (Some e)
        → (b ≡ true) × (e ≡ range_entries sequence place end)
    by_test true f = (refl, cc)
    by_test false f = absurd (let z : ◌≡◌ {A = Option RangeEntries} None (Some e) = f in cc)

-- ---- the entries that a range's first word states

-- four bytes an entry where the top bit is clear, else eight
abbrev pub HasWidth : ℕ → Width → Type 0
HasWidth word width = ((word < 2147483648) × (width ≡ Narrow)) ⊎ ((2147483648 ≤ word) × (width ≡ Wide))

-- an empty range has none
pub entries-empty : (sequence : List ℕ) (place end : ℕ) → place ≡ end → Some (record { start = place + 4; width = Narrow; count = 0 }) ≡ entries_of sequence place end
entries-empty sequence place end e =
    let h : HasEntries sequence place end 4 0 = empty e refl in
    rw (table_test sequence place end 4 0 h, count_of sequence place end 4 0 h, eq-eqb place end e)

module _ (sequence : List ℕ) (place end word : ℕ) (width : Width) (read : word ≡ first_word sequence place) (told : HasWidth word width) where
  abbrev words : ℕ
  words = word % 2147483648

  width_told : width ≡ cond (is_wide sequence place) Wide Narrow
  width_told = rw (← read) (⊎_elim (λ n. rw (lt-leb 2147483648 word n.0) n.1) (λ w. rw (le-leb 2147483648 word w.0) w.1) told)

  -- its words are as many whole entries as they have room for
  module _ (e : place + 4 + 4 * words ≡ end) (g : width_bytes width * (4 * words / width_bytes width) ≡ 4 * words) where
    has : HasEntries sequence place end (width_bytes width) (4 * words / width_bytes width)
    has =
        ⊎_elim (λ n. narrow (rw read at n.0) (rw read at e) (ap width_bytes n.1) (rw (n.1, ← read) (omega arith)))
        (λ w. let whole : 8 * (4 * words / 8) ≡ 4 * words = rw w.1 at g in wide (rw read at w.0) (rw read at e) (ap width_bytes w.1) (rw (w.1, ← read) (omega arith))) told

    pub entries-some : Some (record { start = place + 4; width = width; count = 4 * words / width_bytes width }) ≡ entries_of sequence place end
    entries-some = rw (table_test sequence place end (width_bytes width) _ has, count_of sequence place end (width_bytes width) _ has, some_words sequence place end words e, ← width_told)

  -- its words are no whole entries, or end elsewhere
  module _ (n : place ≡ end → ⊥) (m : place + 4 + 4 * words ≡ end → width_bytes width * (4 * words / width_bytes width) ≡ 4 * words → ⊥) where
    wrong : (w k : ℕ) → HasEntries sequence place end w k → ⊥
    wrong w k (empty e z) = n e
    wrong w k (narrow h e f g) =
        m (rw (← read) at e) (⊎_elim (λ t. rw t.1 (omega arith)) (λ t. let big = rw read at t.0 in absurd (omega arith)) told)
    wrong w k (wide h e f g) =
        let even : 2 * k ≡ words = rw (← read) at g in
        m (rw (← read) at e) (⊎_elim (λ t. let small = rw read at t.0 in absurd (omega arith)) (λ t. rw t.1 (omega arith)) told)

    pub entries-wrong : None ≡ entries_of sequence place end
    entries-wrong = bool_cases (is_table sequence place end) (λ t. absurd (wrong _ _ (table_of sequence place end t))) (λ f. rw f)

-- ---- corrections

-- the next entry fits or not, by the correction that was read and the end of the one before
module _ (sequence : List ℕ) (entries w l j low : ℕ) (c : Correction) (e : c ≡ correction_at sequence entries w j)
    (f : low ≡ end_before sequence entries w j) where
  pub fits-not-after : c.start < low → entry_fits sequence entries w l j ≡ false
  unfolding entry_fits
  fits-not-after h = rw (← e, ← f, lt-leb low c.start h)

  pub fits-not-within : l < correction_end c → entry_fits sequence entries w l j ≡ false
  unfolding entry_fits
  fits-not-within h = rw (← e, lt-leb (correction_end c) l h) (and-false (leb (end_before sequence entries w j) c.start))

  pub fits_both : low ≤ c.start → correction_end c ≤ l → entry_fits sequence entries w l j ≡ true
  unfolding entry_fits
  fits_both h k = rw (← e, ← f, le-leb low c.start h, le-leb (correction_end c) l k)

  pub end_next : correction_end c ≡ end_before sequence entries w (j + 1)
  end_next = rw add-one (ap (λ (x : Correction). correction_end x) e)

-- entries that fit: each starts at or after the end of the one before, and ends within l
module _ (sequence : List ℕ) (entries w l n : ℕ) (e : every (entry_fits sequence entries w l) n ≡ true) (j : ℕ) (h : j < n) where
  fit : (end_before sequence entries w j ≤ (correction_at sequence entries w j).start) × (correction_end (correction_at sequence entries w j) ≤ l)
  unfolding entry_fits
  fit =
      let c = correction_at sequence entries w j in
      let p = both_pass (leb (end_before sequence entries w j) c.start) (leb (correction_end c) l) (every_at (entry_fits sequence entries w l) n j h e) in
      (leb-true (end_before sequence entries w j) c.start p.0, leb-true (correction_end c) l p.1)

  pub starts_after : end_before sequence entries w j ≤ (correction_at sequence entries w j).start
  starts_after = fit.0

  pub ends-within : correction_end (correction_at sequence entries w j) ≤ l
  ends-within = fit.1

-- ---- a range whose rules hold

pub table-ends : (sequence : List ℕ) (place end l : ℕ) → AllHold (range_rules sequence place end l) → (j : ℕ) → j < entry_count sequence place end
    → correction_end (correction_at sequence (place + 4) (entry_width sequence place) j) ≤ l
table-ends sequence place end l h =
    ends-within sequence (place + 4) (entry_width sequence place) l (entry_count sequence place end) h.1.0
