-- What an index that was read says, and where the tables lie. Assumes nothing.
use mathlib.Core.Path.{◌≡◌, refl, sym, ap, ◌∙◌}
use mathlib.Core.List.{List}
use Prim.Native.Nat.{ℕ, zero, suc, ◌+◌, ◌-◌, ◌≤◌, ◌<◌}
use mathlib.Core.Logic.{⊎_elim}
use mathlib.Core.Bool.{false}
use native.Mathlib.Nat.{zero-add}
use native.Mathlib.Omega.{arith}
use borrow.Author.Tests.{leb-true, ne_eqb}
use lib.ListN.{length, get_or, take, drop, length-drop}
use lib.Seq.{get_or-take, get_or-drop, length-take-le}
use Rattle.std.specs.Prelude.{◌≢◌}
use Rattle.std.proofs.Math.Nat.{eq-or-lt_of_le}
use Rattle.laws.specs.Rules.{AllHold}
use Rattle.laws.proofs.Choices.{cond_elim}
use Rattle.fields.specs.Number.{big, number, bytes_at, signed, signed_at, unsigned_at}
use Rattle.volume.specs.Index.{is_protein, table_size, ambiguity_table, tables_end, sequences, most_sequences, index_rules}
use Rattle.volume.specs.Volume.{trimmed_length}
use Rattle.volume.proofs.Named.{index_tests}

pub few-sequences : (index : List ℕ) → AllHold (index_rules index) → sequences index ≤ most_sequences
few-sequences index h = leb-true _ _ (index_tests index h).counts.few

-- ---- the tables of an index lie inside it

pub whole_tables : (index : List ℕ) → AllHold (index_rules index) → tables_end index ≤ length index
whole_tables index h = leb-true _ _ (index_tests index h).tables.tables_there

-- two of them for every type
pub two_tables : (index : List ℕ) → ambiguity_table index ≤ tables_end index
two_tables index =
    cond_elim (λ (end : ℕ). ambiguity_table index ≤ end) (is_protein index) {x = ambiguity_table index} {y = ambiguity_table index + table_size index}
    (λ _. omega arith) (λ _. omega arith)

-- the third one for DNA
pub third_table : (index : List ℕ) → is_protein index ≡ false → tables_end index ≡ ambiguity_table index + table_size index
third_table index e = rw e

-- ---- a field read from a part of the file that is its own bytes

part_bytes : (file : List ℕ) (at n w k : ℕ) → k + w ≤ n → bytes_at w (take n (drop at file)) 0 k ≡ bytes_at w file at k
part_bytes file at n zero k h = refl
part_bytes file at n (suc w) k h =
    let byte : get_or (take n (drop at file)) (0 + k) 0 ≡ get_or file (at + k) 0 =
    ap (λ (i : ℕ). get_or (take n (drop at file)) i 0) (zero-add k) ∙ get_or-take n (drop at file) k 0 (omega arith) ∙ get_or-drop at file k 0 in
    rw (byte, part_bytes file at n w (suc k) (omega arith))

pub part_unsigned : (w : ℕ) (file : List ℕ) (at end : ℕ) → end ≡ at + w → unsigned_at big w (take (end - at) (drop at file)) 0 ≡ unsigned_at big w file at
unfolding unsigned_at
part_unsigned w file at end e = ap (number big) (part_bytes file at (end - at) w 0 (omega arith))

pub part_field : (file : List ℕ) (at end : ℕ) → end ≡ at + 4 → signed_at big 4 (take (end - at) (drop at file)) 0 ≡ signed_at big 4 file at
unfolding signed_at
part_field file at end e = ap (signed 4) (part_unsigned 4 file at end e)

-- ---- NULs at the end of a part of the file

trim_part : (file : List ℕ) (at n k : ℕ) → k ≤ n → trimmed_length (take n (drop at file)) 0 k ≡ trimmed_length file at k
trim_part file at n zero h = refl
trim_part file at n (suc k) h =
    let byte : get_or (take n (drop at file)) (0 + k) 0 ≡ get_or file (at + k) 0 =
    ap (λ (i : ℕ). get_or (take n (drop at file)) i 0) (zero-add k) ∙ get_or-take n (drop at file) k 0 (omega arith) ∙ get_or-drop at file k 0 in
    rw (byte, trim_part file at n k (omega arith))

pub trim_whole : (file : List ℕ) (at end : ℕ) → end ≤ length file
    → trimmed_length (take (end - at) (drop at file)) 0 (length (take (end - at) (drop at file))) ≡ trimmed_length file at (end - at)
trim_whole file at end h =
    let e : length (take (end - at) (drop at file)) ≡ end - at = length-take-le (end - at) (drop at file) (omega (arith, length-drop at file)) in
    rw e (trim_part file at (end - at) (end - at) (omega arith))

-- no byte but NULs
pub trim_none : (file : List ℕ) (n : ℕ) → ((k : ℕ) → k < n → get_or file k 0 ≡ 0) → trimmed_length file 0 n ≡ 0
trim_none file zero nul = refl
trim_none file (suc n) nul = rw (zero-add n, nul n (omega arith)) (trim_none file n (λ k l. nul k (omega arith)))

-- a byte that is no NUL, and none but NULs behind it
pub trim_last : (file : List ℕ) (i n : ℕ) → i < n → get_or file i 0 ≢ 0 → ((k : ℕ) → i + 1 ≤ k → k < n → get_or file k 0 ≡ 0)
    → trimmed_length file 0 n ≡ i + 1
trim_last file i zero l some nul = omega arith
trim_last file i (suc n) l some nul =
    ⊎_elim (λ (e : i ≡ n). rw (zero-add n, sym e, ne_eqb _ _ some) (omega arith))
    (λ (g : i < n). rw (zero-add n, nul n (omega arith) (omega arith)) (trim_last file i n g some (λ k a b. nul k a (omega arith))))
    (eq-or-lt_of_le (omega arith))
