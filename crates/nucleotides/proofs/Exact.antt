-- A call that wrote: every rule held, and the output begins with the bytes of the definition. Assumes nothing.
use mathlib.Core.Path.{◌≡◌, refl, sym, ap, ap₂, ◌∙◌}
use mathlib.Core.Bool.{true}
use mathlib.Core.List.{List, ◌++◌}
use Rattle.std.specs.Prelude.{Result, Ok, Err}
use Prim.Native.Nat.{ℕ, ◌+◌, ◌≤◌}
use lib.ListN.{length, take, drop, length-append}
use lib.Seq.{take_at, drop_at}
use borrow.Author.Tests.{leb-true}
use Rattle.laws.specs.Rules.{AllHold}
use Rattle.laws.proofs.Storing.{written_start}
use Rattle.answers.proofs.Numbers.{zero-passes}
use Rattle.answers.specs.declared.Refusal.{Refusal}
use Rattle.residues.specs.Alphabets.{valid_codes}
use Rattle.nucleotides.specs.declared.Written.{Written}
use Rattle.nucleotides.specs.TwoBit.{two_bit_size, two_bit_bytes}
use Rattle.nucleotides.specs.Pieces.{width_of, corrections_of}
use Rattle.nucleotides.specs.Table.{table_bytes}
use Rattle.nucleotides.specs.Write.{sequence_bytes, range_size, bytes_needed, dna, write_rules, written_sizes, write_answer, write_number, write_output}
use Rattle.nucleotides.proofs.Answers.{output_by}
use Rattle.nucleotides.proofs.Entries.{length-table}
use Rattle.nucleotides.proofs.PlainBytes.{bytes-hold}

-- the sizes are those of the lists
pub length_two_bit : (codes : List ℕ) → length (two_bit_bytes codes) ≡ two_bit_size (length codes)
length_two_bit codes = (bytes-hold codes).size

pub length-bytes : (codes : List ℕ) → length (sequence_bytes codes) ≡ bytes_needed codes
length-bytes codes =
    length-append (two_bit_bytes codes) (table_bytes (width_of (length codes)) (corrections_of codes))
    ∙ ap₂ ◌+◌ (length_two_bit codes) (length-table (width_of (length codes)) (corrections_of codes))

ok_same : {a b : Written} → ◌≡◌ {A = Result Written Refusal} (Ok a) (Ok b) → a ≡ b
ok_same e = cc

-- what held, by name, and the sizes that were told
pub record Passed (codes : List ℕ) (room : ℕ) (sizes : Written) : Type 0 where
  pub codes_fit : length codes ≤ 2147483647
  pub valid : valid_codes dna codes ≡ true
  pub bytes_fit : bytes_needed codes ≤ 2147483647
  pub fits : bytes_needed codes ≤ room
  pub two_bit_is : sizes.two_bit ≡ two_bit_size (length codes)
  pub table_is : sizes.table ≡ range_size codes

module _ (codes : List ℕ) (room : ℕ) (sizes : Written) (e : write_answer codes room ≡ Ok sizes) where
  all : AllHold (write_rules codes room) × (write_answer codes room ≡ Ok (written_sizes codes))
  unfolding write_answer
  all = zero-passes Err (Ok (written_sizes codes)) write_number (λ r. refl) (write_rules codes room) (ap write_number e)

  pub written_passed : Passed codes room sizes
  written_passed =
      let h = all.0 in
      let f : sizes ≡ written_sizes codes = ok_same (sym e ∙ all.1) in
      record {
        codes_fit = leb-true _ _ h.0;
        valid = h.1.0;
        bytes_fit = leb-true _ _ h.1.1.0;
        fits = leb-true _ _ h.1.1.1.0;
        two_bit_is = ap (λ (s : Written). s.two_bit) f;
        table_is = ap (λ (s : Written). s.table) f;
      }

-- the output begins with the bytes, and the rest is as it was
module _ (codes lent : List ℕ) (sizes : Written) (e : write_answer codes (length lent) ≡ Ok sizes) where
  size : length (sequence_bytes codes) ≡ sizes.two_bit + sizes.table
  size = let p = written_passed codes (length lent) sizes e in length-bytes codes ∙ ap₂ ◌+◌ (sym p.two_bit_is) (sym p.table_is)

  output : write_output codes lent ≡ sequence_bytes codes ++ drop (length (sequence_bytes codes)) lent
  output = sym (output_by codes lent (Ok sizes) (sym e)) ∙ written_start (sequence_bytes codes) lent

  pub written_bytes : take (sizes.two_bit + sizes.table) (write_output codes lent) ≡ sequence_bytes codes
  written_bytes = ap (take (sizes.two_bit + sizes.table)) output ∙ take_at (sequence_bytes codes) _ (sizes.two_bit + sizes.table) size

  pub written_rest : drop (sizes.two_bit + sizes.table) (write_output codes lent) ≡ drop (sizes.two_bit + sizes.table) lent
  written_rest =
      ap (drop (sizes.two_bit + sizes.table)) output
      ∙ drop_at (sequence_bytes codes) _ (sizes.two_bit + sizes.table) size
      ∙ ap (λ (n : ℕ). drop n lent) size
