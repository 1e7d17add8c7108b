-- Corrections made one after another: what stands at each place afterwards. Assumes nothing.
use mathlib.Core.Path.{◌≡◌, refl, ap, ◌∙◌}
use mathlib.Core.Bool.{true, false, cond}
use mathlib.Core.List.{List, [], ◌∷◌, ◌++◌}
use Prim.Native.Nat.{ℕ, zero, suc, ◌+◌, ◌-◌, ◌≤◌, ◌<◌}
use native.Mathlib.Nat.{not-suc-le-zero}
use native.Mathlib.Numerals.{add-one}
use native.Mathlib.Omega.{arith}
use lib.Dec.{leb, ltb}
use lib.ListN.{length, get_or, drop}
use borrow.Author.Tests.{lt-leb, leb-true, leb-false, ltb-true, ltb-false}
use Rattle.laws.specs.Places.{every, list_to}
use Rattle.laws.specs.Rules.{AllHold}
use Rattle.laws.specs.Writing.{written_at}
use Rattle.laws.proofs.Places.{length-list_to, list_to_at}
use Rattle.laws.proofs.Storing.{written_before, written_inside, written_after, written_append, written_start}
use Rattle.laws.proofs.Tests.{bool_cases, both_pass}
use Rattle.laws.proofs.Writing.{length_written}
use Rattle.residues.specs.Tables.{ambiguity_code}
use Rattle.sequence.specs.declared.Correction.{Correction}
use Rattle.sequence.specs.declared.RangeEntries.{RangeEntries}
use Rattle.sequence.specs.Tabled.{width_bytes, range_width, range_entries}
use Rattle.sequence.specs.Corrections.{correction_at, correction_end, corrections_at, range_corrections, painted, corrected, covers, corrected_at}
use Rattle.sequence.specs.Corrections.{correction_in, Apart, EndWithin, entry_fits, entry_width, entry_count, range_rules}
use Rattle.sequence.specs.Bases.{base_at, two_bit_residues}
use Rattle.sequence.specs.Sequence.{dna_residues}
use Rattle.sequence.proofs.Ranges.{by_width, ends-within, starts_after}

-- ---- one correction

-- the codes that it writes
abbrev codes_of : Correction → List ℕ
codes_of c = list_to (λ (k : ℕ). ambiguity_code c.value) c.length

module _ (c : Correction) (residues : List ℕ) (h : correction_end c ≤ length residues) where
  codes_fit_lem : c.start + length (codes_of c) ≤ length residues
  codes_fit_lem = rw (length-list_to (λ (k : ℕ). ambiguity_code c.value) c.length) h

  length-painted : length (painted c residues) ≡ length residues
  length-painted = length_written c.start (codes_of c) residues codes_fit_lem

  painted-append : (more : List ℕ) → painted c (residues ++ more) ≡ painted c residues ++ more
  painted-append more = written_append c.start (codes_of c) residues more codes_fit_lem

  painted_at : (k d : ℕ) → get_or (painted c residues) k d ≡ cond (covers c k) (ambiguity_code c.value) (get_or residues k d)
  painted_at k d =
      let f : ℕ → ℕ = λ i. ambiguity_code c.value in
      let n : length (codes_of c) ≡ c.length = length-list_to f c.length in
      bool_cases (leb c.start k)
      (λ e. let a = leb-true c.start k e in
      bool_cases (ltb k (correction_end c))
      (λ g. let b = ltb-true k (correction_end c) g in
      let i : k - c.start < c.length = omega arith in
      rw (e, g) (written_inside c.start (codes_of c) residues codes_fit_lem k d a (omega arith) ∙ list_to_at f c.length (k - c.start) d i))
      (λ g. let b = ltb-false k (correction_end c) g in rw (e, g) (written_after c.start (codes_of c) residues codes_fit_lem k d (omega arith))))
      (λ e. rw e (written_before c.start (codes_of c) residues codes_fit_lem k d (leb-false c.start k e)))

-- ---- all corrections

-- the corrections behind the first are apart, and end within l
apart_rest : (c : Correction) (cs : List Correction) → Apart (c ∷ cs) → Apart cs
apart_rest c cs h j i = h (suc j) (omega arith)

within_rest : (c : Correction) (cs : List Correction) (l : ℕ) → EndWithin (c ∷ cs) l → EndWithin cs l
within_rest c cs l h j i = h (suc j) (omega arith)

-- the last is painted last
corrected-last : (cs : List Correction) (c : Correction) (residues : List ℕ) → corrected (cs ++ (c ∷ [])) residues ≡ painted c (corrected cs residues)
corrected-last [] c residues = refl
corrected-last (x ∷ cs) c residues = corrected-last cs c (painted x residues)

-- what is left to paint fits the residues that the first was painted over
within-painted : (c : Correction) (cs : List Correction) (residues : List ℕ) → EndWithin (c ∷ cs) (length residues) → EndWithin cs (length (painted c residues))
within-painted c cs residues h = rw (length-painted c residues (h 0 (omega arith))) (within_rest c cs (length residues) h)

-- there are as many residues as before
pub length-corrected : (cs : List Correction) (residues : List ℕ) → EndWithin cs (length residues) → length (corrected cs residues) ≡ length residues
length-corrected [] residues h = refl
length-corrected (c ∷ cs) residues h =
    length-corrected cs (painted c residues) (within-painted c cs residues h) ∙ length-painted c residues (h 0 (omega arith))

-- what follows the residues stays
corrected-append : (cs : List Correction) (residues more : List ℕ) → EndWithin cs (length residues)
    → corrected cs (residues ++ more) ≡ corrected cs residues ++ more
corrected-append [] residues more h = refl
corrected-append (c ∷ cs) residues more h =
    rw (painted-append c residues (h 0 (omega arith)) more) (corrected-append cs (painted c residues) more (within-painted c cs residues h))

corrected-start : (cs : List Correction) (residues out : List ℕ) → EndWithin cs (length residues)
    → corrected cs (written_at 0 residues out) ≡ written_at 0 (corrected cs residues) out
corrected-start cs residues out h =
    rw (written_start residues out, written_start (corrected cs residues) out, length-corrected cs residues h)
    (corrected-append cs residues (drop (length residues) out) h)

-- the residue at a place, by position
pub corrected_at_lem : (cs : List Correction) (residues : List ℕ) → EndWithin cs (length residues) → (k d : ℕ)
    → get_or (corrected cs residues) k d ≡ corrected_at cs k (get_or residues k d)
corrected_at_lem [] residues h k d = refl
corrected_at_lem (c ∷ cs) residues h k d =
    corrected_at_lem cs (painted c residues) (within-painted c cs residues h) k d
    ∙ ap (corrected_at cs k) (painted_at c residues (h 0 (omega arith)) k d)

-- ---- the correction that covers a place: where they are apart there is one at most

-- corrections from a later place on leave a place its base
later_at : (cs : List Correction) (k low base : ℕ) → Apart cs → (0 < length cs → low ≤ (correction_in cs 0).start) → k < low → corrected_at cs k base ≡ base
later_at [] k low base h f i = refl
later_at (c ∷ cs) k low base h f i =
    let a = f (omega arith) in
    rw (lt-leb c.start k (omega arith)) (later_at cs k low base (apart_rest c cs h) (λ n. let b = h 0 (omega arith) in omega arith) i)

-- a place that a correction covers has that correction's code
pub covered_at : (cs : List Correction) (k base j : ℕ) → Apart cs → j < length cs → covers (correction_in cs j) k ≡ true
    → corrected_at cs k base ≡ ambiguity_code (correction_in cs j).value
covered_at [] k base j h i t = absurd (not-suc-le-zero i)
covered_at (c ∷ cs) k base zero h i t =
    let p = both_pass (leb c.start k) (ltb k (correction_end c)) t in
    rw t (later_at cs k (correction_end c) (ambiguity_code c.value) (apart_rest c cs h) (λ n. h 0 (omega arith)) (ltb-true k (correction_end c) p.1))
covered_at (c ∷ cs) k base (suc j) h i t = covered_at cs k _ j (apart_rest c cs h) (omega arith) t

-- a place that none covers has its base
pub not_covered_at : (cs : List Correction) (k base : ℕ) → ((j : ℕ) → j < length cs → covers (correction_in cs j) k ≡ false) → corrected_at cs k base ≡ base
not_covered_at [] k base h = refl
not_covered_at (c ∷ cs) k base h = rw (h 0 (omega arith)) (not_covered_at cs k base (λ j i. h (suc j) (omega arith)))

-- ---- a file's entries are such a list

module _ (sequence : List ℕ) (entries w n : ℕ) where
  pub count_stated : length (corrections_at sequence entries w n) ≡ n
  count_stated = length-list_to (correction_at sequence entries w) n

  pub entry_stated : (j : ℕ) → j < n → correction_in (corrections_at sequence entries w n) j ≡ correction_at sequence entries w j
  entry_stated j i = list_to_at (correction_at sequence entries w) n j _ i

  -- one entry more
  pub corrected-next : (residues out : List ℕ) (c : Correction) (code : ℕ) → out ≡ corrected (corrections_at sequence entries w n) residues
      → c ≡ correction_at sequence entries w n → code ≡ ambiguity_code c.value
      → written_at c.start (list_to (λ (k : ℕ). code) c.length) out ≡ corrected (corrections_at sequence entries w (n + 1)) residues
  corrected-next residues out c code e f g =
      rw (add-one, corrected-last (corrections_at sequence entries w n) (correction_at sequence entries w n) residues, e, g)
      (ap (λ (x : Correction). painted x (corrected (corrections_at sequence entries w n) residues)) f)

  module _ (l : ℕ) (e : every (entry_fits sequence entries w l) n ≡ true) where
    pub stated_within : EndWithin (corrections_at sequence entries w n) l
    stated_within j h =
        let i : j < n = omega (arith, count_stated) in
        rw (entry_stated j i) (ends-within sequence entries w l n e j i)

    pub stated_apart : Apart (corrections_at sequence entries w n)
    stated_apart j h =
        let i : suc j < n = omega (arith, count_stated) in
        rw (entry_stated j (omega arith), entry_stated (suc j) i) (starts_after sequence entries w l n e (suc j) i)

-- ---- the residues of a sequence whose ambiguity range keeps its rules

module _ (sequence : List ℕ) (start place end l : ℕ) (h : AllHold (range_rules sequence place end l)) where
  length-bases : length (two_bit_residues sequence start l) ≡ l
  length-bases = length-list_to (base_at sequence start) l

  ends_fit : EndWithin (range_corrections sequence place end) (length (two_bit_residues sequence start l))
  ends_fit = rw length-bases (stated_within sequence (place + 4) (entry_width sequence place) (entry_count sequence place end) l h.1.0)

  -- the bases written, and then the corrections over them
  pub residues_written : (entries : RangeEntries) (old bases out : List ℕ) → entries ≡ range_entries sequence place end
      → bases ≡ written_at 0 (two_bit_residues sequence start l) old
      → out ≡ corrected (corrections_at sequence entries.start (width_bytes entries.width) entries.count) bases
      → out ≡ written_at 0 (dna_residues sequence start place end l) old
  residues_written entries old bases out e b o =
      let same : corrections_at sequence (place + 4) (width_bytes (range_width sequence place end)) (entry_count sequence place end) ≡ range_corrections sequence place end =
      by_width sequence place end (corrections_at sequence (place + 4)) (λ v w. refl) in
      o
      ∙ rw (e, b, same)
      (corrected-start (range_corrections sequence place end) (two_bit_residues sequence start l) old ends_fit)

  pub length-residues : length (dna_residues sequence start place end l) ≡ l
  length-residues = length-corrected (range_corrections sequence place end) (two_bit_residues sequence start l) ends_fit ∙ length-bases

  pub residue_at : (k d : ℕ) → k < l
      → get_or (dna_residues sequence start place end l) k d ≡ corrected_at (range_corrections sequence place end) k (base_at sequence start k)
  residue_at k d i =
      corrected_at_lem (range_corrections sequence place end) (two_bit_residues sequence start l) ends_fit k d
      ∙ ap (corrected_at (range_corrections sequence place end) k) (list_to_at (base_at sequence start) l k d i)
