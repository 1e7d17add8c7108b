-- What was written, read where it stands in a file: the two-bit bytes, the length they tell, the word and the entries. Assumes nothing.
use mathlib.Core.Path.{◌≡◌, sym, ap, ap₂, subst, ◌∙◌}
use mathlib.Core.List.{List, [], ◌∷◌, ◌++◌}
use mathlib.Core.Logic.{◌⊎◌, inl, inr, ⊎_elim}
use Prim.Native.Nat.{ℕ, zero, suc, ◌+◌, ◌*◌, ◌-◌, ◌/◌, ◌%◌, ◌^◌, ◌≤◌, ◌<◌}
use native.Mathlib.Nat.{mul-suc, mul-zero, mul-le-mul_left, mod-eq_of_lt, zero-add}
use native.Mathlib.Omega.{arith}
use lib.Dec.{eqb}
use lib.ListN.{length, get_or, take, drop, length-drop, get_or-append}
use lib.Seq.{take-add, take-take, take_at, drop_at, drop-drop, drop-append-add, get_or-take, get_or-drop, length-take-le, ext_get_or}
use borrow.Author.Tests.{eqb-true, eqb-false}
use Rattle.fields.specs.Number.{big}
use Rattle.fields.specs.Written.{number_bytes}
use Rattle.fields.proofs.Laws.{length-number, number_back}
use Rattle.laws.proofs.Places.{length-list_to, list_to_at}
use Rattle.laws.proofs.Tests.{bool_cases}
use Rattle.residues.proofs.Alphabets.{value-valid}
use Rattle.volume.specs.Tables.{two_bit_length}
use Rattle.sequence.specs.declared.Correction.{Correction}
use Rattle.sequence.specs.Bases.{bases_of, base_at}
use Rattle.sequence.specs.Corrections.{first_word, stated_words, correction_of, correction_at, range_corrections, correction_in}
use Rattle.sequence.specs.Corrections.{entry_width, entry_count}
use Rattle.sequence.specs.Holds.{HasEntries, empty, narrow, wide, RangeHolds}
use Rattle.sequence.proofs.Ranges.{count_of, width_of_lem}
use Rattle.nucleotides.specs.TwoBit.{placeholder_at, two_bit_size, two_bit_bytes}
use Rattle.nucleotides.specs.Pieces.{width_of, most_repeat, corrections_of}
use Rattle.nucleotides.specs.Table.{entry_of, entry_bytes, table_word, word_bytes, table_bytes, table_size}
use Rattle.nucleotides.specs.Scan.{code_at}
use Rattle.nucleotides.specs.Write.{sequence_bytes, range_size, bytes_needed}
use Rattle.nucleotides.specs.Holds.{PiecesHold, TwoBitHolds}
use Rattle.nucleotides.proofs.Entries.{Fits, widths, entry_back, entry_small, length_word, word_some, word_narrow, word_wide}
use Rattle.nucleotides.proofs.Turns.{width_is, places_fit}
use Rattle.nucleotides.proofs.Plain.{pieces-hold}
use Rattle.nucleotides.proofs.PlainBytes.{bases_back, bytes-hold}

-- entry j of the entries' bytes
entry_part : (w : ℕ) (cs : List Correction) (j : ℕ) → j < length cs
    → take w (drop (w * j) (entry_bytes w cs)) ≡ number_bytes big w (entry_of w (correction_in cs j))
entry_part w [] j h = absurd (omega arith)
entry_part w (c ∷ cs) zero h =
    ap (λ (k : ℕ). take w (drop k (entry_bytes w (c ∷ cs)))) (mul-zero w)
    ∙ take_at (number_bytes big w (entry_of w c)) (entry_bytes w cs) w (length-number big w (entry_of w c))
entry_part w (c ∷ cs) (suc j) h =
    let b = number_bytes big w (entry_of w c) in
    let e : w * suc j ≡ length b + w * j = mul-suc w j ∙ omega (arith, length-number big w (entry_of w c)) in
    ap (λ (k : ℕ). take w (drop k (b ++ entry_bytes w cs))) e
    ∙ ap (take w) (drop-append-add b (entry_bytes w cs) (w * j))
    ∙ entry_part w cs j (omega arith)

-- a part of a part
part_of : (file whole : List ℕ) (s n a b : ℕ) → s + n ≤ length file → take n (drop s file) ≡ whole → b + a ≤ n
    → take a (drop (s + b) file) ≡ take a (drop b whole)
part_of file whole s n a b h e l =
    let d = drop s file in
    let k : b + (n - b) ≡ n = omega arith in
    let t : length (take b d) ≡ b = length-take-le b d (omega (arith, length-drop s file)) in
    let f : drop b whole ≡ take (n - b) (drop b d) =
    ap (drop b) (sym e ∙ ap (λ (x : ℕ). take x d) (sym k) ∙ take-add b (n - b) d) ∙ drop_at (take b d) (take (n - b) (drop b d)) b t in
    ap (take a) (sym (drop-drop b s file)) ∙ sym (ap (take a) f ∙ take-take a (n - b) (drop b d) (omega arith))

module _ (codes file : List ℕ) (s : ℕ) (inside : s + bytes_needed codes ≤ length file) (bytes : take (bytes_needed codes) (drop s file) ≡ sequence_bytes codes)
    (size : bytes_needed codes ≤ 2147483647) where
  abbrev L : ℕ
  L = length codes

  abbrev w : ℕ
  w = width_of L

  abbrev cs : List Correction
  cs = corrections_of codes

  abbrev n : ℕ
  n = length cs

  -- where the range begins and ends
  abbrev place : ℕ
  place = s + two_bit_size L

  abbrev end : ℕ
  end = place + range_size codes

  pub holds : PiecesHold (most_repeat w) codes cs
  holds = pieces-hold (most_repeat w) codes (⊎_elim (λ e. rw e (omega arith)) (λ e. rw e (omega arith)) (width_is L))

  two : TwoBitHolds codes (two_bit_bytes codes)
  two = bytes-hold codes

  -- ---- the two-bit bytes

  byte_at : (j : ℕ) → j < two_bit_size L → get_or file (s + j) 0 ≡ get_or (two_bit_bytes codes) j 0
  byte_at j h =
      let m = two.size in
      sym (get_or-drop s file j 0)
      ∙ sym (get_or-take (bytes_needed codes) (drop s file) j 0 (omega arith))
      ∙ ap (λ (xs : List ℕ). get_or xs j 0) bytes
      ∙ get_or-append (two_bit_bytes codes) (table_bytes w cs) 0 j (omega arith)

  -- they tell the length
  pub length-read : two_bit_length file s place ≡ L
  length-read =
      let e : place - s - 1 ≡ L / 4 = omega arith in
      let f : place - 1 ≡ s + L / 4 = omega arith in
      let g = byte_at (L / 4) (omega arith) in
      let h = two.last in
      ap₂ (λ (x y : ℕ). 4 * x + get_or file y 0 % 4) e f ∙ (ap (λ (x : ℕ). 4 * (L / 4) + x % 4) g ∙ omega arith)

  -- and hold the bases
  base_same : (k : ℕ) → k < L → base_at file s k ≡ base_at (two_bit_bytes codes) 0 k
  unfolding base_at
  base_same k h =
      ap (λ (x : ℕ). get_or (bases_of x) (k % 4) 0) (byte_at (k / 4) (omega arith) ∙ ap (λ (y : ℕ). get_or (two_bit_bytes codes) y 0) (sym (zero-add (k / 4))))

  pub base_read : (k : ℕ) → k < L → base_at file s k ≡ placeholder_at codes k
  base_read k h = base_same k h ∙ bases_back codes k h

  -- ---- the range

  behind : (a b : ℕ) → b + a ≤ range_size codes → take a (drop (place + b) file) ≡ take a (drop b (table_bytes w cs))
  behind a b h =
      let t : length (two_bit_bytes codes) ≡ two_bit_size L = two.size in
      let e : s + (two_bit_size L + b) ≡ place + b = omega arith in
      ap (λ (x : ℕ). take a (drop x file)) (sym e)
      ∙ part_of file (sequence_bytes codes) s (bytes_needed codes) a (two_bit_size L + b) inside bytes (omega arith)
      ∙ ap (λ (x : ℕ). take a (drop (x + b) (two_bit_bytes codes ++ table_bytes w cs))) (sym t)
      ∙ ap (take a) (drop-append-add (two_bit_bytes codes) (table_bytes w cs) b)

  module _ (some : n ≡ 0 → ⊥) where
    word_length : length (word_bytes w n) ≡ 4
    word_length = ap length (word_some w n some) ∙ length-number big 4 (table_word w n)

    range-is : range_size codes ≡ 4 + w * n
    range-is = ap (λ (x : ℕ). x + w * n) (sym (length_word w n) ∙ word_length)

    -- the entries are few enough for the word
    words : ((w ≡ 4) × (4 * n ≤ 2147483647)) ⊎ ((w ≡ 8) × (8 * n ≤ 2147483647))
    words =
        let h : w * n ≤ 2147483647 = omega (arith, range-is) in
        ⊎_elim (λ e. inl (e, subst (λ (x : ℕ). x * n ≤ 2147483647) e h)) (λ e. inr (e, subst (λ (x : ℕ). x * n ≤ 2147483647) e h)) (width_is L)

    word_small : table_word w n < 2 ^ 32
    word_small =
        ⊎_elim (λ p. let e = word_narrow w n p.0 in let h = p.1 in omega arith) (λ p. let e = word_wide w n p.0 in let h = p.1 in omega arith) words

    -- the word is read
    word_read : first_word file place ≡ table_word w n
    word_read =
        let r = range-is in
        let z : place + 0 ≡ place = omega arith in
        number_back big 4 (table_word w n) file place (omega arith) word_small
        (ap (λ (x : ℕ). take 4 (drop x file)) (sym z)
        ∙ behind 4 0 (omega arith)
        ∙ take_at (word_bytes w n) (entry_bytes w cs) 4 word_length
        ∙ word_some w n some)

    pub entries-read : HasEntries file place end w n
    entries-read = ⊎_elim (λ p. four p.0 p.1) (λ p. eight p.0 p.1) words
      where
        four : w ≡ 4 → 4 * n ≤ 2147483647 → HasEntries file place end w n
        four e h =
            let f : first_word file place ≡ n = word_read ∙ sym (word_narrow w n e) in
            let g : stated_words file place ≡ n = ap (λ (x : ℕ). x % 2147483648) f ∙ mod-eq_of_lt (omega arith) in
            let r : range_size codes ≡ 4 + 4 * n = range-is ∙ ap (λ (x : ℕ). 4 + x * n) e in
            narrow (omega arith) (omega arith) e (sym g)

        eight : w ≡ 8 → 8 * n ≤ 2147483647 → HasEntries file place end w n
        eight e h =
            let f : first_word file place ≡ 2147483648 + 2 * n = word_read ∙ sym (word_wide w n e) in
            let g : stated_words file place ≡ 2 * n = ap (λ (x : ℕ). x % 2147483648) f ∙ omega arith in
            let r : range_size codes ≡ 4 + 8 * n = range-is ∙ ap (λ (x : ℕ). 4 + x * n) e in
            wide (omega arith) (omega arith) e (sym g)

    -- and so is each entry
    pub entry_read : (j : ℕ) → j < n → correction_at file (place + 4) w j ≡ correction_in cs j
    unfolding correction_at
    entry_read j h =
        let c = correction_in cs j in
        let e = holds.each j h in
        let b = widths w (width_is L) in
        let k = holds.within j h in
        let p = places_fit L (omega arith) in
        let x : c.start < 2 ^ (6 * w) = (let z = e.some in omega arith) in
        let f : Fits w c = record { value = rw e.value (value-valid (code_at codes c.start)); some = e.some; most = e.most; start = x } in
        let q : w * suc j ≤ w * n = mul-le-mul_left w h in
        let m : w * suc j ≡ w * j + w = mul-suc w j in
        let r = range-is in
        let a : place + (4 + w * j) ≡ place + 4 + w * j = omega arith in
        let t : take w (drop (place + 4 + w * j) file) ≡ number_bytes big w (entry_of w c) =
        ap (λ (y : ℕ). take w (drop y file)) (sym a)
        ∙ behind w (4 + w * j) (omega arith)
        ∙ ap (λ (y : ℕ). take w (drop (y + w * j) (word_bytes w n ++ entry_bytes w cs))) (sym word_length)
        ∙ ap (take w) (drop-append-add (word_bytes w n) (entry_bytes w cs) (w * j))
        ∙ entry_part w cs j h in
        ap (correction_of w) (number_back big w (entry_of w c) file (place + 4 + w * j) (omega arith) (entry_small w b.0 c f) t)
        ∙ entry_back w b.0 c f

  -- ---- all of it

  -- the range has these entries
  pub range-entries : HasEntries file place end w n
  range-entries =
      bool_cases (eqb n 0)
      (λ e. let z = eqb-true n 0 e in
      empty (let t : table_size w n ≡ 0 = rw z (omega (arith, mul-zero w)) in omega arith) z)
      (λ e. entries-read (eqb-false n 0 e))

  not_none : (j : ℕ) → j < n → n ≡ 0 → ⊥
  not_none j h e = omega arith

  -- and keeps the rules
  pub range-read : RangeHolds file place end L
  range-read = record {
    width = w;
    count = n;
    entries = range-entries;
    apart = λ j h. rw (entry_read (not_none (suc j) h) j (omega arith), entry_read (not_none (suc j) h) (suc j) h) (holds.apart j h);
    within = λ j h. rw (entry_read (not_none j h) j h) (holds.within j h);
  }

  -- its corrections are those of the codes
  pub corrections_read : range_corrections file place end ≡ cs
  corrections_read =
      let f = correction_at file (place + 4) (entry_width file place) in
      let e = count_of file place end w n range-entries in
      let l : length (range_corrections file place end) ≡ n = length-list_to f (entry_count file place end) ∙ e in
      ext_get_or _ (range_corrections file place end) cs l
      (λ j h. let i : j < n = omega arith in
      list_to_at f (entry_count file place end) j _ (omega arith)
      ∙ ap (λ (x : ℕ). correction_at file (place + 4) x j) (width_of_lem file place end w n range-entries (omega arith))
      ∙ entry_read (not_none j i) j i)
