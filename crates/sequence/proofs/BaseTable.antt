-- The bases of whole bytes from a table: one test over all entries, and what a pair of entries writes. Assumes nothing.
use mathlib.Core.Path.{◌≡◌, refl, sym, ap, ap₂, ◌∙◌}
use mathlib.Core.Bool.{Bool, true}
use mathlib.Core.List.{List, [], ◌∷◌, ◌++◌}
use Prim.Native.Nat.{ℕ, zero, suc, ◌+◌, ◌*◌, ◌-◌, ◌/◌, ◌%◌, ◌^◌, ◌≤◌, ◌<◌}
use native.Mathlib.Nat.{pow-suc, mul_assoc}
use native.Mathlib.Omega.{arith}
use borrow.Author.Tests.{eqb-true, eq-eqb}
use borrow.Rule.Slice.PartMut.{mid_of, post_of, put_mid, mid_len}
use lib.Dec.{eqb}
use lib.ListN.{length, get_or, take, drop, take-append-drop}
use Rattle.laws.specs.Digits.{digits}
use Rattle.laws.specs.Places.{every, list_to}
use Rattle.laws.specs.Writing.{written_at}
use Rattle.laws.proofs.Places.{every_at, every-all, list_to-append}
use Rattle.laws.proofs.Storing.{written_append, written_behind}
use Rattle.laws.proofs.Tests.{both_pass}
use Rattle.fields.specs.Number.{number, little}
use Rattle.fields.specs.Written.{little_bytes, number_put}
use Rattle.fields.proofs.Laws.{little-cons, word_bytes, length-little, put_fits}
use Rattle.sequence.specs.Bases.{bases_of, base_at, two_bit_residues}
use Rattle.sequence.specs.BaseTable.{BaseTable, is_base_table}
use Rattle.sequence.proofs.Blocks.{block_stored}
use Rattle.sequence.proofs.FourBases.{list₄, base_is}

-- ---- the rule of a table, and the test that is computed over all of it

abbrev right : List ℕ → ℕ → Bool
right table b = eqb (get_or table b 0) (number little (bases_of b))

pub table-holds : (table : List ℕ) → is_base_table table ≡ true → BaseTable table
table-holds table t =
    let (l, e) = both_pass (eqb (length table) 256) (every (right table) 256) t in
    record { size = eqb-true _ _ l; codes = λ b h. eqb-true _ _ (every_at (right table) 256 b h e) }

pub holds-table : (table : List ℕ) → BaseTable table → is_base_table table ≡ true
holds-table table h = rw (eq-eqb (length table) 256 h.size) (every-all (right table) 256 (λ b l. eq-eqb _ _ (h.codes b l)))

-- ---- what entries write

-- the bytes of a number that codes write are the codes
entry_bytes_lem : (b : ℕ) → little_bytes 4 (number little (bases_of b)) ≡ bases_of b
unfolding digits
entry_bytes_lem b =
    let n : number little (bases_of b) ≡ b / 64 % 4 + b / 16 % 4 * 256 + b / 4 % 4 * 65536 + b / 1 % 4 * 16777216 = omega arith in
    ap (little_bytes 4) n ∙ word_bytes (b / 64 % 4) (b / 16 % 4) (b / 4 % 4) (b / 1 % 4) (omega arith) (omega arith) (omega arith) (omega arith)

-- the bytes of a number of w bytes and of one above it are those of both
pub little_join : (w v t m n : ℕ) → t ≡ w + v → m < 256 ^ w → little_bytes t (m + n * 256 ^ w) ≡ little_bytes w m ++ little_bytes v n
little_join zero v t m n e h =
    let a : t ≡ v = omega arith in
    let b : m + n * 256 ^ 0 ≡ n = omega arith in
    rw (a, b)
little_join (suc w) v t m n e h =
    let p = n * 256 ^ w in
    let x = m + n * 256 ^ suc w in
    let s : 256 ^ suc w ≡ 256 ^ w * 256 = pow-suc 256 w in
    let q : n * 256 ^ suc w ≡ p * 256 = ap (λ (y : ℕ). n * y) s ∙ sym (mul_assoc n (256 ^ w) 256) in
    let low : x % 256 ≡ m % 256 = omega arith in
    let high : x / 256 ≡ m / 256 + p = omega arith in
    let small : m / 256 < 256 ^ w = omega arith in
    little-cons t (w + v) x (omega arith) ∙ rw (low, high, little_join w v (w + v) (m / 256) n refl small)

-- the bases of a byte are four of the residues from a start on
pub four_from_lem : (sequence : List ℕ) (start at m : ℕ) (k : ℕ → ℕ) → at ≡ start + m → ((j : ℕ) → k j ≡ 4 * m + j)
    → bases_of (get_or sequence at 0) ≡ list_to (λ i. base_at sequence start (k i)) 4
unfolding digits
four_from_lem sequence start at m k e h =
    let base : (j : ℕ) → j < 4 → get_or (bases_of (get_or sequence at 0)) j 0 ≡ base_at sequence start (k j) =
    λ j l. ap (λ (x : ℕ). get_or (bases_of (get_or sequence x 0)) j 0) e ∙ base_is sequence start (k j) m j (h j) l in
    list₄ (base 0 (omega arith)) (base 1 (omega arith)) (base 2 (omega arith)) (base 3 (omega arith))

-- those of two bytes are the first eight
pub pair_from : (sequence : List ℕ) (at : ℕ) → bases_of (get_or sequence at 0) ++ bases_of (get_or sequence (at + 1) 0) ≡ two_bit_residues sequence at 8
pair_from sequence at =
    let first = four_from_lem sequence at at 0 (λ i. i) (omega arith) (λ j. omega arith) in
    let second = four_from_lem sequence at (at + 1) 1 (λ i. 4 + i) refl (λ j. omega arith) in
    ap₂ (λ (x y : List ℕ). x ++ y) first second
    ∙ sym (list_to-append (base_at sequence at) 4 4)

-- the bytes of an entry are the codes of its byte
entry_codes : (table : List ℕ) (b : ℕ) → BaseTable table → b < 256 → little_bytes 4 (get_or table b 0) ≡ bases_of b
entry_codes table b h l = ap (little_bytes 4) (h.codes b l) ∙ entry_bytes_lem b

-- the bytes of two entries that are joined are the codes of both bytes
pub pair_codes : (table : List ℕ) (a b r : ℕ) → BaseTable table → a < 256 → b < 256
    → little_bytes 8 r ≡ little_bytes 4 (get_or table a 0) ++ little_bytes 4 (get_or table b 0) → little_bytes 8 r ≡ bases_of a ++ bases_of b
pair_codes table a b r h i j e = e ∙ ap₂ (λ (x y : List ℕ). x ++ y) (entry_codes table a h i) (entry_codes table b h j)

-- a number stored in the part of an output that is its own
pub part_stored : (w place n : ℕ) (out part new : List ℕ) → place + w ≤ length out → little_bytes w n ≡ new
    → part ≡ number_put little w 0 n (mid_of place (place + w - place) out) → put_mid place (place + w - place) out part ≡ written_at place new out
part_stored w place n out part new h e g =
    let own = mid_of place (place + w - place) out in
    let behind = post_of place (place + w - place) out in
    let a : length own ≡ w = mid_len place (place + w) out h ∙ omega arith in
    let b : length new ≡ w = ap length (sym e) ∙ length-little w n in
    let stored : part ≡ written_at 0 new own = g ∙ put_fits little w 0 n own (omega arith) ∙ ap (λ (l : List ℕ). written_at 0 l own) e in
    let rest : part ++ behind ≡ written_at 0 new (drop place out) =
    ap (λ (l : List ℕ). l ++ behind) stored
    ∙ sym (written_append 0 new own behind (omega arith))
    ∙ ap (written_at 0 new) (take-append-drop (place + w - place) (drop place out)) in
    ap (λ (l : List ℕ). take place out ++ l) rest ∙ written_behind place new out

-- ---- residues written behind those before

-- residues from a later byte on
base_later : (sequence : List ℕ) (start j i : ℕ) → base_at sequence (start + j) i ≡ base_at sequence start (4 * j + i)
unfolding base_at
base_later sequence start j i =
    let a : start + (4 * j + i) / 4 ≡ start + j + i / 4 = omega arith in
    let b : (4 * j + i) % 4 ≡ i % 4 = omega arith in
    rw (a, b)

residues-later : (sequence : List ℕ) (start j n : ℕ) → two_bit_residues sequence (start + j) n ≡ list_to (λ i. base_at sequence start (4 * j + i)) n
residues-later sequence start j zero = refl
residues-later sequence start j (suc n) =
    ap₂ (λ (x : List ℕ) (b : ℕ). x ++ (b ∷ [])) (residues-later sequence start j n) (base_later sequence start j n)

-- n residues from byte j on, stored behind the m before and over some of them
pub residues_stored : (sequence : List ℕ) (start p j m n t place : ℕ) (d before after : List ℕ) → before ≡ written_at p (two_bit_residues sequence start m) d
    → after ≡ written_at place (two_bit_residues sequence (start + j) n) before → place ≡ p + 4 * j → 4 * j ≤ m → m ≤ t → t ≡ 4 * j + n → p + t ≤ length d
    → after ≡ written_at p (two_bit_residues sequence start t) d
residues_stored sequence start p j m n t place d before after e g =
    block_stored (base_at sequence start) p (4 * j) m n t place d before after e
    (g ∙ ap (λ (r : List ℕ). written_at place r before) (residues-later sequence start j n))
