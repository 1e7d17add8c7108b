-- What is promised of writing nucleotides (request 2026-03): demand 1, and demand 2: what is written is what the request says and nothing else, and
-- decoding returns the codes. `gull_time_write_nucleotides` answers the same. That 22 comes first is in LargeFirst, the printed numbers in Printed.
-- Assumes nothing.
use Rattle.nucleotides.specs.declared.Written.{Written}
use Rattle.std.specs.Prelude.{Err, Ok}
use mathlib.Core.Path.{◌≡◌, refl, sym, ap, ap₂, ◌∙◌}
use mathlib.Core.List.{List, [], ◌∷◌, ◌++◌}
use mathlib.Core.Logic.{◌⊎◌}
use Prim.Native.Nat.{ℕ, ◌+◌, ◌*◌, ◌-◌, ◌/◌, ◌%◌, ◌^◌, ◌≤◌, ◌<◌}
use native.Mathlib.Omega.{arith}
use lib.Count.{ones, ones_in, count_trailing_zeros}
use lib.Dec.{eqb}
use lib.IntN.{pos}
use lib.ListN.{length, take, drop, replicate}
use lib.Pow.{pow_pos}
use borrow.Author.Tests.{lt-ltb, le-ltb, eqb-true}
use Rattle.laws.specs.Digits.{digits, value}
use Rattle.laws.specs.Places.{sum_to}
use Rattle.laws.proofs.Places.{every_at}
use Rattle.answers.specs.declared.Refusal.{Refusal}
use Rattle.answers.specs.declared.Refusal.TheVariants.{BadCode}
use Rattle.residues.specs.Tables.{ambiguity_value}
use Rattle.sequence.specs.Corrections.{correction_of}
use Rattle.sequence.specs.Sequence.{decode_answer, decode_output}
use Rattle.sequence.specs.declared.Correction.{Correction}
use Rattle.nucleotides.specs.TwoBit.{placeholder, two_bit_byte, two_bit_size, two_bit_bytes}
use Rattle.nucleotides.specs.Pieces.{piece, pieces, width_of, most_repeat, corrections_of}
use Rattle.nucleotides.specs.Table.{entry_of, table_word, table_bytes}
use Rattle.nucleotides.specs.Write.{range_size, sequence_bytes, written_sizes, write_rules, write_answer, write_number, write_output}
use Rattle.nucleotides.specs.Write.{base_count, bases_rules, bases_answer, bases_number}
use Rattle.nucleotides.specs.Holds.{PlaceholderHolds, TwoBitHolds, PiecesHold}
use Rattle.nucleotides.specs.Scan.{code_at}
use Rattle.nucleotides.specs.Stands.{Stands}
use Rattle.nucleotides.proofs.Answers.{output_by}
use Rattle.nucleotides.proofs.Entries as Entries
use Rattle.nucleotides.proofs.Entries.{Fits, length-table}
use Rattle.nucleotides.proofs.Exact.{Passed, length_two_bit, written_passed, written_bytes, written_rest}
use Rattle.nucleotides.proofs.Plain as Plain
use Rattle.nucleotides.proofs.PlainBytes as PlainBytes
use Rattle.nucleotides.proofs.Stretches.{pieces-plain-all, pieces_end}
use Rattle.nucleotides.proofs.Decodes as Decodes
use Rattle.demands.specs.Numbers.{Numbered}
use Rattle.demands.specs.Order.{Ordered}
use Rattle.demands.proofs.Demand1.{number_answered}
use Rattle.demands.proofs.Order.{ordered}

-- ---- demand 1

-- Its number is 0 or stands in the table.
pub write_nucleotides_call : (codes : List ℕ) (room : ℕ) → Numbered (write_number (write_answer codes room))
write_nucleotides_call codes room = number_answered write_number (λ x. refl) (λ r. refl) (write_answer codes room)

pub bases_of-code_call : (code : ℕ) → Numbered (bases_number (bases_answer code))
bases_of-code_call code = number_answered bases_number (λ x. refl) (λ r. refl) (bases_answer code)

-- A refusal changes nothing.
pub write_refused_kept : (codes lent : List ℕ) (r : Refusal) → write_answer codes (length lent) ≡ Err r → write_output codes lent ≡ lent
write_refused_kept codes lent r e = sym (output_by codes lent (Err r) (sym e))

-- The first broken rule decides, and the number is 0 exactly where every rule holds.
pub write_nucleotides_order : (codes : List ℕ) (room : ℕ) → Ordered Err write_number (write_rules codes room) (write_answer codes room)
unfolding write_answer
write_nucleotides_order codes room =
    ordered Err write_number (λ r. refl) (Ok (written_sizes codes)) refl (write_rules codes room) (write_answer codes room) refl

pub bases_of-code_order : (code : ℕ) → Ordered Err bases_number (bases_rules code) (bases_answer code)
unfolding bases_answer
bases_of-code_order code = ordered Err bases_number (λ r. refl) (Ok (base_count code)) refl (bases_rules code) (bases_answer code) refl

-- ---- demand 2

-- What a call that wrote has written: the two-bit bytes and right behind them the table, each of the size that was told; the rest is as it was.
pub record Gives (codes lent : List ℕ) (two_bit table : ℕ) (bytes range : List ℕ) : Type 0 where
  pub two_bit_size : length bytes ≡ two_bit
  pub table_size : length range ≡ table
  pub first : take (two_bit + table) (write_output codes lent) ≡ bytes ++ range
  pub rest : drop (two_bit + table) (write_output codes lent) ≡ drop (two_bit + table) lent

module _ (codes lent : List ℕ) (sizes : Written) (wrote : write_answer codes (length lent) ≡ Ok sizes) where
  passed : Passed codes (length lent) sizes
  passed = written_passed codes (length lent) sizes wrote

  pub write_gives : Gives codes lent sizes.two_bit sizes.table (two_bit_bytes codes) (table_bytes (width_of (length codes)) (corrections_of codes))
  write_gives = record {
    two_bit_size = length_two_bit codes ∙ sym passed.two_bit_is;
    table_size = length-table (width_of (length codes)) (corrections_of codes) ∙ sym passed.table_is;
    first = written_bytes codes lent sizes wrote;
    rest = written_rest codes lent sizes wrote;
  }

  -- Decoding returns the codes: wherever what was written stands as a sequence of a DNA volume, it decodes, given room, to L residues ..
  module _ (index sequence : List ℕ) (i s : ℕ) (stands : Stands index sequence i s sizes.two_bit sizes.table
      (take (sizes.two_bit + sizes.table) (write_output codes lent))) where
    there : Stands index sequence i s (two_bit_size (length codes)) (range_size codes) (sequence_bytes codes)
    there = record {
      index_size = stands.index_size;
      sequence_size = stands.sequence_size;
      fields = stands.fields;
      type = stands.type;
      number = stands.number;
      start = stands.start;
      range = stands.range ∙ ap (λ (n : ℕ). pos (s + n)) passed.two_bit_is;
      next = stands.next ∙ ap₂ (λ (n m : ℕ). pos (s + n + m)) passed.two_bit_is passed.table_is;
      inside = (let a = stands.inside in let b = passed.two_bit_is in let c = passed.table_is in omega arith);
      there = ap (λ (n : ℕ). take n (drop s sequence)) (ap₂ ◌+◌ (sym passed.two_bit_is) (sym passed.table_is))
          ∙ stands.there
          ∙ written_bytes codes lent sizes wrote;
    }

    pub written_decodes : (room : ℕ) → length codes ≤ room → decode_answer index sequence i room ≡ Ok (length codes)
    written_decodes = Decodes.decode_answers index sequence i s codes there

    -- .. that are the codes.
    pub written_returns : (output : List ℕ) → length codes ≤ length output → take (length codes) (decode_output index sequence i output) ≡ codes
    written_returns = Decodes.decode_first index sequence i s codes there passed.valid

-- The two-bit bytes are those that the request's plain statement asks for, and no others are.
pub write_two_bit : (codes : List ℕ) → TwoBitHolds codes (two_bit_bytes codes)
write_two_bit = PlainBytes.bytes-hold

pub write_two_bit_only : (codes bytes : List ℕ) → TwoBitHolds codes bytes → bytes ≡ two_bit_bytes codes
write_two_bit_only = PlainBytes.hold-bytes

-- A code's base is by the lowest set bit of its ambiguity value, and no other is.
pub write_base : (code : ℕ) → PlaceholderHolds code (placeholder code)
write_base = PlainBytes.placeholder-holds

pub write_base_only : (code base : ℕ) → PlaceholderHolds code base → base ≡ placeholder code
write_base_only = PlainBytes.holds-placeholder

-- The corrections are the longest stretches of one code of 4 or more, cut from the front into pieces of at most 16, or 4,096, and no other list is.
some-most : (codes : List ℕ) → 0 < most_repeat (width_of (length codes))
some-most codes = pow_pos (2 * width_of (length codes) - 4)

pub write_corrections : (codes : List ℕ) → PiecesHold (most_repeat (width_of (length codes))) codes (corrections_of codes)
write_corrections codes = Plain.pieces-hold (most_repeat (width_of (length codes))) codes (some-most codes)

pub write_corrections_only : (codes : List ℕ) (corrections : List Correction) → PiecesHold (most_repeat (width_of (length codes))) codes corrections
    → corrections ≡ corrections_of codes
write_corrections_only codes corrections = Plain.hold-pieces (most_repeat (width_of (length codes))) codes corrections (some-most codes)

-- Entries have 64 bits exactly where there are more than 16,777,216 codes; so 16 and 4,096 are the most residues of one.
pub write_narrow : (l : ℕ) → l ≤ 16777216 → (width_of l ≡ 4) × (most_repeat (width_of l) ≡ 16)
write_narrow l h = let e = le-ltb 16777216 l h in (rw e, rw e)

pub write_wide : (l : ℕ) → 16777216 < l → (width_of l ≡ 8) × (most_repeat (width_of l) ≡ 4096)
write_wide l h = let e = lt-ltb 16777216 l h in (rw e, rw e)

-- An entry of either width states its correction: what decoding reads from it is the correction.
pub write_entry : (w : ℕ) → (w ≡ 4) ⊎ (w ≡ 8) → (c : Correction) → Fits w c → correction_of w (entry_of w c) ≡ c
write_entry w e c f = Entries.entry_back w (Entries.widths w e).0 c f

-- No code of 4 or more, no table.
pub write_no_table : (codes : List ℕ) → ((k : ℕ) → k < length codes → code_at codes k < 4) → table_bytes (width_of (length codes)) (corrections_of codes) ≡ []
write_no_table codes h =
    ap (table_bytes (width_of (length codes)))
    (pieces-plain-all (most_repeat (width_of (length codes))) codes (length codes) 0 (omega arith) (λ i a b. h i (omega arith))
    ∙ pieces_end (most_repeat (width_of (length codes))) codes (0 + length codes) (omega arith))

-- ---- cases worked out: no codes; ACGT; R, which stands for A and G; seventeen N, cut from the front into 16 and 1

pub no_codes : sequence_bytes [] ≡ 0x00 ∷ []
unfolding two_bit_byte value placeholder count_trailing_zeros pieces
no_codes = refl

pub acgt : sequence_bytes (0 ∷ 1 ∷ 2 ∷ 3 ∷ []) ≡ 0x1b ∷ 0x00 ∷ []
unfolding two_bit_byte value placeholder count_trailing_zeros pieces
acgt = refl

pub one_r : sequence_bytes (5 ∷ []) ≡ 0x01 ∷ 0x00 ∷ 0x00 ∷ 0x00 ∷ 0x01 ∷ 0x50 ∷ 0x00 ∷ 0x00 ∷ 0x00 ∷ []
unfolding two_bit_byte value placeholder count_trailing_zeros pieces table_word entry_of digits
one_r = refl

pub seventeen_n : corrections_of (replicate 17 15) ≡ piece 15 0 16 ∷ piece 15 16 1 ∷ []
unfolding pieces
seventeen_n = refl

-- ---- the bases of a code

-- Below 16 it is how many of the bits of the four bases are set in the ambiguity value: 1 for A, C, G and T, 0 for '-'.
pub bases-counted : (code : ℕ) → code < 16 → bases_answer code ≡ Ok (sum_to (λ b. ambiguity_value code / 2 ^ b % 2) 4)
unfolding bases_answer base_count ones ones_in
bases-counted code h =
    rw (lt-ltb code 16 h)
    (ap Ok (eqb-true _ _ (every_at (λ k. eqb (base_count k) (sum_to (λ b. ambiguity_value k / 2 ^ b % 2) 4)) 16 code h refl)))

pub bases-refused : (code : ℕ) → 16 ≤ code → bases_answer code ≡ Err BadCode
unfolding bases_answer
bases-refused code h = rw (le-ltb code 16 h)
