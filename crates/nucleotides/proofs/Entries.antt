-- An entry states its correction, at every width: it is what decoding reads back; and the bytes of entries and of their word. Assumes nothing.
use mathlib.Core.Path.{◌≡◌, refl, sym, ap, ap₂, ◌∙◌}
use mathlib.Core.List.{List, [], ◌∷◌, ◌++◌, append_assoc, append-nil}
use mathlib.Core.Logic.{◌⊎◌, inl, inr}
use Prim.Native.Nat.{ℕ, ◌+◌, ◌*◌, ◌-◌, ◌/◌, ◌%◌, ◌^◌, ◌≤◌, ◌<◌}
use native.Mathlib.Nat.{mul_assoc, add-mul, mul-suc, mul-zero}
use native.Mathlib.Omega.{arith}
use lib.Arith.{digits_lt}
use lib.Dec.{eqb}
use lib.ListN.{length, length-append}
use lib.Pow.{pow_pos, pow-add, pow_mono, high, low, shr-shr, shl_exact}
use borrow.Author.Tests.{eq-eqb, ne_eqb}
use Rattle.fields.specs.Number.{big}
use Rattle.fields.specs.Written.{number_bytes}
use Rattle.fields.proofs.Laws.{length-number}
use Rattle.laws.specs.Writing.{written_at}
use Rattle.laws.proofs.Tests.{bool_cases}
use Rattle.laws.proofs.Writing.{written_twice}
use Rattle.residues.specs.Tables.{ambiguity_value}
use Rattle.residues.proofs.Alphabets.{value-valid}
use Rattle.sequence.specs.declared.Correction.{Correction}
use Rattle.sequence.specs.Corrections.{correction_of}
use Rattle.nucleotides.specs.declared.width.Width.{Width}
use Rattle.nucleotides.specs.declared.width.Width.TheVariants.{Narrow, Wide}
use Rattle.nucleotides.specs.Pieces.{piece, bytes_of, most_repeat, limit_of}
use Rattle.nucleotides.specs.Table.{entry_of, entry_bytes, table_word, word_bytes, table_bytes, word_size, table_size}

-- ---- the width

pub widths : (w : ℕ) → (w ≡ 4) ⊎ (w ≡ 8) → (2 ≤ w) × (w ≤ 8)
widths w (inl e) = omega arith
widths w (inr e) = omega arith

pub width_either : (width : Width) → (bytes_of width ≡ 4) ⊎ (bytes_of width ≡ 8)
width_either Narrow = inl refl
width_either Wide = inr refl

pub limit-positive : (width : Width) → 0 < limit_of width
limit-positive width = pow_pos (2 * bytes_of width - 4)

-- so many entries have a size
pub entries-most : (w n : ℕ) → (w ≡ 4) ⊎ (w ≡ 8) → n ≤ 2147483647 → w * n ≤ 17179869176
entries-most w n (inl e) h = rw e (omega arith)
entries-most w n (inr e) h = rw e (omega arith)

-- ---- an entry

-- A correction that an entry of w bytes can state.
pub record Fits (w : ℕ) (c : Correction) : Type 0 where
  pub value : c.value < 16
  pub some : 0 < c.length
  pub most : c.length ≤ most_repeat w
  pub start : c.start < 2 ^ (6 * w)

module _ (w : ℕ) (two : 2 ≤ w) (c : Correction) (f : Fits w c) where
  abbrev repeat : ℕ
  repeat = c.length - 1

  repeat_small : repeat < 2 ^ (2 * w - 4)
  repeat_small = let a = f.some in let b = f.most in omega arith

  powers : 2 ^ (8 * w - 4) ≡ 2 ^ (2 * w - 4) * 2 ^ (6 * w)
  powers = let e : 8 * w - 4 ≡ 2 * w - 4 + 6 * w = omega arith in ap (λ (k : ℕ). 2 ^ k) e ∙ pow-add 2 (2 * w - 4) (6 * w)

  joined : entry_of w c ≡ (c.value * 2 ^ (2 * w - 4) + repeat) * 2 ^ (6 * w) + c.start
  unfolding entry_of
  joined =
      let p : c.value * 2 ^ (8 * w - 4) ≡ c.value * 2 ^ (2 * w - 4) * 2 ^ (6 * w) =
      ap (λ (k : ℕ). c.value * k) powers ∙ sym (mul_assoc c.value (2 ^ (2 * w - 4)) (2 ^ (6 * w))) in
      omega (arith, p, add-mul (c.value * 2 ^ (2 * w - 4)) repeat (2 ^ (6 * w)))

  -- what decoding reads from it is the correction
  pub entry_back : correction_of w (entry_of w c) ≡ c
  unfolding correction_of
  entry_back =
      let a = joined in
      let q : entry_of w c / 2 ^ (6 * w) ≡ c.value * 2 ^ (2 * w - 4) + repeat = ap (λ (n : ℕ). n / 2 ^ (6 * w)) a ∙ high _ (6 * w) f.start in
      let s : entry_of w c % 2 ^ (6 * w) ≡ c.start = ap (λ (n : ℕ). n % 2 ^ (6 * w)) a ∙ low _ (6 * w) f.start in
      let g : 6 * w + (2 * w - 4) ≡ 8 * w - 4 = omega arith in
      let v : entry_of w c / 2 ^ (8 * w - 4) ≡ c.value =
      ap (λ (k : ℕ). entry_of w c / 2 ^ k) (sym g) ∙ sym (shr-shr (entry_of w c) (6 * w) (2 * w - 4)) ∙ ap (λ (n : ℕ). n / 2 ^ (2 * w - 4)) q
      ∙ high c.value (2 * w - 4) repeat_small in
      let r : entry_of w c / 2 ^ (6 * w) % 2 ^ (2 * w - 4) + 1 ≡ c.length =
      ap (λ (n : ℕ). n % 2 ^ (2 * w - 4) + 1) q
      ∙ ap (λ (n : ℕ). n + 1) (low c.value (2 * w - 4) repeat_small)
      ∙ (let x = f.some in omega arith) in
      rw (v, s, r)

  -- it has w bytes
  pub entry_small : entry_of w c < 2 ^ (8 * w)
  entry_small =
      let g : 8 * w ≡ 4 + (2 * w - 4) + 6 * w = omega arith in
      let p : 2 ^ (8 * w) ≡ 2 ^ 4 * 2 ^ (2 * w - 4) * 2 ^ (6 * w) =
      ap (λ (k : ℕ). 2 ^ k) g ∙ pow-add 2 (4 + (2 * w - 4)) (6 * w) ∙ ap (λ (k : ℕ). k * 2 ^ (6 * w)) (pow-add 2 4 (2 * w - 4)) in
      rw (joined, p) (digits_lt (digits_lt f.value repeat_small) f.start)

  -- as the code shifts its fields into place
  pub entry_shifted : w ≤ 8 → c.value * 2 ^ (8 * w - 4) % 2 ^ 64 + repeat * 2 ^ (6 * w) % 2 ^ 64 + c.start ≡ entry_of w c
  unfolding entry_of
  entry_shifted most =
      rw (shl_exact {a = c.value} 4 (8 * w - 4) 64 f.value (omega arith), shl_exact {a = repeat} (2 * w - 4) (6 * w) 64 repeat_small (omega arith))

-- the entry of a piece as the code makes it, and its size
pub entry_told : (w code start length' value : ℕ) → (w ≡ 4) ⊎ (w ≡ 8) → value ≡ ambiguity_value code → start < 2 ^ (6 * w) → 0 < length'
    → length' ≤ most_repeat w →
    let made = value * 2 ^ (8 * w - 4) % 2 ^ 64 + (length' - 1) * 2 ^ (6 * w) % 2 ^ 64 + start in
    (made ≡ entry_of w (piece code start length')) × (made < 2 ^ (8 * w)) × (made < 2 ^ 64)
entry_told w code start length' value either e s some most =
    let c = piece code start length' in
    let b = widths w either in
    let f : Fits w c = record { value = value-valid code; some = some; most = most; start = s } in
    let g : value * 2 ^ (8 * w - 4) % 2 ^ 64 + (length' - 1) * 2 ^ (6 * w) % 2 ^ 64 + start ≡ entry_of w c =
    ap (λ (v : ℕ). v * 2 ^ (8 * w - 4) % 2 ^ 64 + (length' - 1) * 2 ^ (6 * w) % 2 ^ 64 + start) e ∙ entry_shifted w b.0 c f b.1 in
    let small = entry_small w b.0 c f in
    let least : 2 ^ (8 * w) ≤ 2 ^ 64 = pow_mono {i = 8 * w} {j = 64} (omega arith) in
    (g, omega arith, omega arith)

-- ---- the bytes of entries

pub length-entries : (w : ℕ) (cs : List Correction) → length (entry_bytes w cs) ≡ w * length cs
length-entries w [] = sym (mul-zero w)
length-entries w (c ∷ cs) =
    length-append (number_bytes big w (entry_of w c)) (entry_bytes w cs)
    ∙ omega (arith, length-number big w (entry_of w c), length-entries w cs, mul-suc w (length cs))

pub entries-append : (w : ℕ) (xs ys : List Correction) → entry_bytes w (xs ++ ys) ≡ entry_bytes w xs ++ entry_bytes w ys
entries-append w [] ys = refl
entries-append w (x ∷ xs) ys =
    ap (λ (l : List ℕ). number_bytes big w (entry_of w x) ++ l) (entries-append w xs ys)
    ∙ sym (append_assoc (number_bytes big w (entry_of w x)) (entry_bytes w xs) (entry_bytes w ys))

-- one entry behind the others
pub entries_next : (w at : ℕ) (xs : List Correction) (c : Correction) (old : List ℕ) → at + w * length xs + w ≤ length old
    → written_at (at + w * length xs) (number_bytes big w (entry_of w c)) (written_at at (entry_bytes w xs) old) ≡ written_at at (entry_bytes w (xs ++ (c ∷ []))) old
entries_next w at xs c old h =
    let e = length-entries w xs in
    let b = number_bytes big w (entry_of w c) in
    ap (λ (n : ℕ). written_at (at + n) b (written_at at (entry_bytes w xs) old)) (sym e)
    ∙ written_twice at (entry_bytes w xs) b old (omega (arith, length-number big w (entry_of w c)))
    ∙ ap (λ (l : List ℕ). written_at at l old) (ap (λ (l : List ℕ). entry_bytes w xs ++ l) (sym (append-nil b)) ∙ sym (entries-append w xs (c ∷ [])))

-- the same as the code puts it
pub piece_written : (w at : ℕ) (xs ys : List Correction) (c : Correction) (old out : List ℕ) (place entry : ℕ) → out ≡ written_at at (entry_bytes w xs) old
    → entry ≡ entry_of w c → place ≡ at + w * length xs → ys ≡ xs ++ (c ∷ []) → at + w * length xs + w ≤ length old
    → written_at place (number_bytes big w entry) out ≡ written_at at (entry_bytes w ys) old
piece_written w at xs ys c old out place entry o e p y h = rw (o, e, p, y) (entries_next w at xs c old h)

-- there is room for one more where there is for all
pub entry_room : (w at n all room : ℕ) → (w ≡ 4) ⊎ (w ≡ 8) → n < all → at + w * all ≤ room → at + w * n + w ≤ room
entry_room w at n all room (inl e) h l = let k : at + 4 * all ≤ room = rw e at l in rw e (omega arith)
entry_room w at n all room (inr e) h l = let k : at + 8 * all ≤ room = rw e at l in rw e (omega arith)

-- ---- the word

pub word_some : (w n : ℕ) → (n ≡ 0 → ⊥) → word_bytes w n ≡ number_bytes big 4 (table_word w n)
word_some w n e = rw (ne_eqb n 0 e)

pub word_wide : (w n : ℕ) → w ≡ 8 → 2147483648 + 2 * n ≡ table_word w n
unfolding table_word
word_wide w n e = rw (eq-eqb w 8 e)

pub word_narrow : (w n : ℕ) → w ≡ 4 → n ≡ table_word w n
unfolding table_word
word_narrow w n e = rw e

-- the sizes of the word and of the table
pub length_word : (w n : ℕ) → length (word_bytes w n) ≡ word_size n
length_word w n = bool_cases (eqb n 0) (λ e. rw e) (λ e. rw e (length-number big 4 (table_word w n)))

pub word_most : (n : ℕ) → word_size n ≤ 4
word_most n = bool_cases (eqb n 0) (λ e. rw e (omega arith)) (λ e. rw e (omega arith))

pub length-table : (w : ℕ) (cs : List Correction) → length (table_bytes w cs) ≡ table_size w (length cs)
length-table w cs =
    length-append (word_bytes w (length cs)) (entry_bytes w cs)
    ∙ ap₂ ◌+◌ (length_word w (length cs)) (length-entries w cs)
