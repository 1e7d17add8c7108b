-- The label of a sequence whose index, number, offsets and record are good: the title that its first def-line writes, or the volume title. Assumes nothing.
use mathlib.Core.Path.{◌≡◌, refl, sym, ap, ◌∙◌}
use mathlib.Core.List.{List}
use mathlib.Core.Bool.{true}
use Prim.Native.Nat.{ℕ, ◌+◌, ◌≤◌, ◌<◌}
use lib.IntN.{ℤ, pos}
use lib.ListN.{length}
use lib.Signed.{non_neg, ◌≤ℤ◌}
use Rattle.laws.specs.Signed.{to_nat}
use Rattle.laws.proofs.Signed.{test_le, at_least_zero}
use Rattle.headers.specs.Statement.{GoodRecord}
use Rattle.deflines.specs.Calls.{first_of}
use Rattle.deflines.specs.Written.{first_written}
use Rattle.deflines.proofs.Written.{first-is}
use Rattle.volume.specs.declared.Index.{Index}
use Rattle.std.specs.Prelude.{Ok}
use Rattle.volume.specs.Index.{title_length, sequences, header_table, index_answer}
use Rattle.volume.specs.Tables.{header_offset}
use Rattle.labels.specs.Label.{record_label, offsets_label, label_of}
use Rattle.labels.proofs.Labels.{label_found}

offsets_are : (header : List ℕ) (title : ℕ) (low high : ℤ) → pos 0 ≤ℤ low → low ≤ℤ high → high ≤ℤ pos (length header)
    → offsets_label header title low high ≡ record_label title (first_of header (to_nat low) (to_nat high))
unfolding offsets_label
offsets_are header title low high a b c =
    let n : non_neg low ≡ true = sym (at_least_zero low) ∙ test_le (pos 0) low a in
    rw (n, test_le low high b, test_le high (pos (length header)) c)

module _ (index header : List ℕ) (number : ℕ) (short : length header ≤ 2147483647) (x : Index)
    (fields : index_answer index ≡ Ok x) (below : number < sequences index) where
  abbrev pub low : ℤ
  low = header_offset index number

  abbrev pub high : ℤ
  high = header_offset index (number + 1)

  -- 0 <= H[i] <= H[i+1] <= the header file's length, and a good record between them
  pub label_is : pos 0 ≤ℤ low → low ≤ℤ high → high ≤ℤ pos (length header) → (good : GoodRecord header (to_nat low) (to_nat high))
      → label_of index header number ≡ record_label (title_length index) (Ok (first_written good))
  label_is a b c good =
      sym (label_found index header number short x fields _ (header_table index) (title_length index) low high below refl refl refl refl refl)
      ∙ offsets_are header (title_length index) low high a b c
      ∙ ap (record_label (title_length index)) (first-is header (to_nat low) (to_nat high) good)
