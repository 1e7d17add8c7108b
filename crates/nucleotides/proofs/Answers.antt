-- The answer of writing, rule by rule, and the output beside it. Assumes nothing.
use mathlib.Core.Path.{◌≡◌, sym, ap, ◌∙◌}
use mathlib.Core.Bool.{true}
use mathlib.Core.List.{List}
use Rattle.std.specs.Prelude.{Result, Ok, Err}
use Prim.Native.Nat.{ℕ, ◌+◌, ◌*◌, ◌/◌, ◌≤◌, ◌<◌}
use native.Mathlib.Omega.{arith}
use lib.Dec.{ltb}
use lib.ListN.{length}
use borrow.Author.Tests.{le-leb, lt-leb, lt-ltb, le-ltb}
use Rattle.laws.specs.Places.{largest_to}
use Rattle.laws.proofs.Numbers.{largest-below}
use Rattle.answers.specs.declared.Refusal.{Refusal}
use Rattle.answers.specs.declared.Refusal.TheVariants.{TooLarge, BadCode, NoRoom}
use Rattle.residues.specs.Alphabets.{valid_codes}
use Rattle.nucleotides.specs.declared.Written.{Written}
use Rattle.nucleotides.specs.declared.width.Width.{Width}
use Rattle.nucleotides.specs.Pieces.{bytes_of, limit_of, pieces_from, width_of, corrections_of}
use Rattle.nucleotides.specs.Table.{word_size}
use Rattle.nucleotides.specs.Scan.{code_at}
use Rattle.nucleotides.specs.Write.{sequence_bytes, range_size, bytes_needed, dna, written_sizes, write_answer, written_by, write_output}
use Rattle.nucleotides.proofs.Stretches.{pieces-count}
use Rattle.nucleotides.proofs.Entries.{width_either, entries-most, word_most}

-- ---- the output beside an answer

pub output_by : (codes output : List ℕ) (r : Result Written Refusal) → r ≡ write_answer codes (length output)
    → written_by r (sequence_bytes codes) output ≡ write_output codes output
unfolding write_output
output_by codes output r e = ap (λ (x : Result Written Refusal). written_by x (sequence_bytes codes) output) e

pub refused_both : (codes output : List ℕ) (r : Refusal) → Err r ≡ write_answer codes (length output)
    → (Err r ≡ write_answer codes (length output)) × (output ≡ write_output codes output)
refused_both codes output r e = (e, output_by codes output (Err r) e)

-- ---- the first broken rule

module _ (codes : List ℕ) (room : ℕ) where
  pub answer-large : 2147483647 < length codes → Err TooLarge ≡ write_answer codes room
  unfolding write_answer
  answer-large h = rw (lt-leb (length codes) 2147483647 h)

  module _ (fits : length codes ≤ 2147483647) (top : ℕ) (told : top ≡ largest_to (code_at codes) (length codes)) where
    valid-is : valid_codes dna codes ≡ ltb top 16
    valid-is = sym (largest-below 16 codes (omega arith)) ∙ ap (λ (x : ℕ). ltb x 16) (sym told)

    pub answer-bad : 15 < top → Err BadCode ≡ write_answer codes room
    unfolding write_answer
    answer-bad h = let e = valid-is ∙ le-ltb top 16 h in rw (le-leb (length codes) 2147483647 fits, e)

    module _ (small : top ≤ 15) where
      valid : valid_codes dna codes ≡ true
      valid = valid-is ∙ lt-ltb top 16 (omega arith)

      pub answer-wide : 2147483647 < bytes_needed codes → Err TooLarge ≡ write_answer codes room
      unfolding write_answer
      answer-wide h = rw (le-leb (length codes) 2147483647 fits, valid, lt-leb (bytes_needed codes) 2147483647 h)

      module _ (needed : bytes_needed codes ≤ 2147483647) where
        pub answer-short : room < bytes_needed codes → Err NoRoom ≡ write_answer codes room
        unfolding write_answer
        answer-short h =
            rw (le-leb (length codes) 2147483647 fits, valid, le-leb (bytes_needed codes) 2147483647 needed, lt-leb (bytes_needed codes) room h)

        pub answer_written : bytes_needed codes ≤ room → Ok (written_sizes codes) ≡ write_answer codes room
        unfolding write_answer
        answer_written h =
            rw (le-leb (length codes) 2147483647 fits, valid, le-leb (bytes_needed codes) 2147483647 needed, le-leb (bytes_needed codes) room h)

-- ---- the sizes, as the code counts them

-- What they are, for n pieces and a word of so many bytes.
pub record Told (codes : List ℕ) (w n word : ℕ) : Type 0 where
  pub count : n ≡ length (corrections_of codes)
  pub table : word + w * n ≡ range_size codes
  pub needed : length codes / 4 + 1 + (word + w * n) ≡ bytes_needed codes
  pub entries_small : w * n ≤ 17179869176
  pub word_small : word ≤ 4

pub sizes_told : (codes : List ℕ) (width : Width) (w n word : ℕ) → bytes_of width ≡ width_of (length codes) → w ≡ bytes_of width
    → n ≡ length (pieces_from (limit_of width) codes 0) → word ≡ word_size n → length codes ≤ 2147483647 → Told codes w n word
sizes_told codes width w n word of bytes counted e h =
    let count : n ≡ length (corrections_of codes) = counted ∙ rw of in
    let table : word + w * n ≡ range_size codes = rw (e, count, bytes, of) in
    let most = pieces-count (limit_of width) 0 0 codes in
    record {
      count = count;
      table = table;
      needed = ap (λ (k : ℕ). length codes / 4 + 1 + k) table;
      entries_small = entries-most w n (rw bytes (width_either width)) (omega arith);
      word_small = rw e (word_most n);
    }
