-- Demand 1, the order: the numbers of each call's rules are those that document 01 prints, in that order. A number that stands twice in a row is
-- asked of two things. Which rule decides is in Order.antt. Assumes nothing.
use Rattle.std.specs.Prelude.{Err, Ok, Result}
use mathlib.Core.Path.{◌≡◌, refl, ap, ◌∙◌}
use mathlib.Core.Bool.{true, false}
use mathlib.Core.List.{List, [], ◌∷◌, ◌++◌}
use mathlib.Core.Logic.{◌⊎◌, inl, inr}
use Prim.Native.Nat.{ℕ, zero, suc}
use native.Mathlib.Numerals.{add-one}
use lib.ListN.{take, replicate, replicate-append-replicate}
use Rattle.laws.specs.Rules.{Rule}
use Rattle.laws.specs.Signed.{to_nat}
use Rattle.answers.specs.Numbers.{number_of}
use Rattle.answers.specs.declared.Refusal.{Refusal}
use Rattle.answers.specs.declared.Refusal.TheVariants.{BadHeader, TooDeep}
use Rattle.fields.specs.declared.Order.{Order}
use Rattle.runs.specs.Answers.{pack_rules, unpack_rules}
use Rattle.byte_runs.specs.Bytes.{unpack_bytes_rules}
use Rattle.volume.specs.Index.{is_protein, index_rules, read_rules}
use Rattle.volume.specs.Volume.{volume_rules}
use Rattle.sequence.specs.Sequence.{decode_rules}
use Rattle.pages.specs.Page.{page_rules}
use Rattle.nucleotides.specs.Write.{write_rules, bases_rules}
use Rattle.kinds.specs.Names.{name_rules}
use Rattle.listing.specs.Listing.{listing_size_rules}
use Rattle.dsqdata.specs.Header.{count_of}
use Rattle.dsqdata.specs.Check.{rules_to, size_rules, start_rules, tag_rules, file_rules, header_rules, count_rules}
use Rattle.dsqdata.specs.Check.{body_rules, layout_rules, ends_rules, rules_of_run, set_run_rules, rules_of_record}
use Rattle.dsqdata.specs.Check.{record_rules, stated_rules, total_rules, behind_runs, rest_rules, content_rules, set_rules}
use Rattle.dsqdata.specs.Lookup.{part_rules, lookup_rules}
use Rattle.dsqdata.specs.declared.SetRecord.{SetRecord}
use Rattle.elements.proofs.Refusals.{read_refusals}
use Rattle.headers.specs.Record as Header
use Rattle.headers.specs.Record.{refusal_in, nesting_at, element_rules}
use Rattle.console.specs.Calls.{results_rule}
use Rattle.demands.specs.Order.{numbers_of, index_numbers, step_rules, identifier_rules, low_offset, high_offset, label_rules}

-- ---- parts of a list

numbers_append : (first second : List (Rule Refusal)) → numbers_of (first ++ second) ≡ numbers_of first ++ numbers_of second
numbers_append [] second = refl
numbers_append (rule ∷ rules) second = ap (λ (l : List ℕ). number_of rule.refusal ∷ l) (numbers_append rules second)

-- one rule for each sequence, all with one number
numbers_each : (f : ℕ → List (Rule Refusal)) (number : ℕ) → ((k : ℕ) → numbers_of (f k) ≡ number ∷ []) → (n : ℕ) → numbers_of (rules_to f n) ≡ replicate n number
numbers_each f number h zero = refl
numbers_each f number h (suc n) = numbers_append (rules_to f n) (f n) ∙ rw (numbers_each f number h n, h n)
    (replicate-append-replicate n 1 number ∙ ap (λ (k : ℕ). replicate k number) (add-one n))

-- ---- packing and unpacking

module _ (alphabet : ℕ) where
  pub pack_numbers : (codes : List ℕ) (room place : ℕ) → numbers_of (pack_rules alphabet codes room place) ≡ 22 ∷ 3 ∷ 18 ∷ 13 ∷ []
  pack_numbers codes room place = refl

  pub gull_pack_numbers : (codes : List ℕ) (room place results : ℕ)
      → numbers_of (pack_rules alphabet codes room place ++ results_rule 2 results) ≡ 22 ∷ 3 ∷ 18 ∷ 13 ∷ 13 ∷ []
  gull_pack_numbers codes room place results = refl

  pub unpack_numbers : (packets : List ℕ) (room : ℕ) → numbers_of (unpack_rules alphabet packets room) ≡ 22 ∷ 3 ∷ 17 ∷ 13 ∷ []
  unpack_numbers packets room = refl

  pub unpack_bytes_numbers : (bytes : List ℕ) (room : ℕ) → numbers_of (unpack_bytes_rules alphabet bytes room) ≡ 22 ∷ 1 ∷ 3 ∷ 17 ∷ 13 ∷ []
  unpack_bytes_numbers bytes room = refl

  pub gull_unpack_numbers : (bytes : List ℕ) (room results : ℕ)
      → numbers_of (unpack_bytes_rules alphabet bytes room ++ results_rule 2 results) ≡ 22 ∷ 1 ∷ 3 ∷ 17 ∷ 13 ∷ 13 ∷ []
  gull_unpack_numbers bytes room results = refl

-- ---- volumes

pub read_index_numbers : (index : List ℕ) → numbers_of (read_rules index) ≡ 22 ∷ index_numbers
unfolding index_rules
read_index_numbers index = refl

-- three files, the index, all of 7, then 8 for protein, then 9
module _ (index sequence header : List ℕ) where
  pub protein_volume_numbers : is_protein index ≡ true
      → numbers_of (volume_rules index sequence header) ≡ 22 ∷ 22 ∷ 22 ∷ (index_numbers ++ (7 ∷ 7 ∷ 7 ∷ 7 ∷ 7 ∷ 7 ∷ 8 ∷ 8 ∷ 9 ∷ 9 ∷ []))
  unfolding volume_rules index_rules
  protein_volume_numbers t = rw t

  pub dna_volume_numbers : is_protein index ≡ false
      → numbers_of (volume_rules index sequence header) ≡ 22 ∷ 22 ∷ 22 ∷ (index_numbers ++ (7 ∷ 7 ∷ 7 ∷ 7 ∷ 7 ∷ 7 ∷ 7 ∷ 9 ∷ 9 ∷ []))
  unfolding volume_rules index_rules
  dna_volume_numbers t = rw t

  -- then 13 for the console's results
  pub gull_check_volume_numbers : (results : ℕ) → numbers_of (volume_rules index sequence header ++ results_rule 8 results) ≡ numbers_of
      (volume_rules index sequence header) ++ (13 ∷ [])
  gull_check_volume_numbers results = numbers_append (volume_rules index sequence header) (results_rule 8 results)

  -- a listing asks the sizes of its own first
  pub listed_numbers : numbers_of (listing_size_rules index sequence header ++ volume_rules index sequence header) ≡ 22 ∷ 22 ∷ 22 ∷ numbers_of
      (volume_rules index sequence header)
  listed_numbers = refl

-- both files, the index, 10, 7, for protein 8 and 11, for DNA 12, 13
module _ (index sequence : List ℕ) (number room : ℕ) where
  pub protein_decode_numbers : is_protein index ≡ true
      → numbers_of (decode_rules index sequence number room) ≡ 22 ∷ 22 ∷ (index_numbers ++ (10 ∷ 7 ∷ 7 ∷ 7 ∷ 8 ∷ 8 ∷ 11 ∷ 13 ∷ []))
  unfolding decode_rules index_rules
  protein_decode_numbers t = rw t

  pub dna_decode_numbers : is_protein index ≡ false
      → numbers_of (decode_rules index sequence number room) ≡ 22 ∷ 22 ∷ (index_numbers ++ (10 ∷ 7 ∷ 7 ∷ 7 ∷ 7 ∷ 12 ∷ 12 ∷ 13 ∷ []))
  unfolding decode_rules index_rules
  dna_decode_numbers t = rw t

-- writing nucleotides: the codes, each code, the bytes needed, the room; the bases of a code
pub write_nucleotides_numbers : (codes : List ℕ) (room : ℕ) → numbers_of (write_rules codes room) ≡ 22 ∷ 18 ∷ 22 ∷ 13 ∷ []
write_nucleotides_numbers codes room = refl

pub bases_of-code_numbers : (code : ℕ) → numbers_of (bases_rules code) ≡ 18 ∷ []
bases_of-code_numbers code = refl

-- the name of a kind
pub kind_name_numbers : (kind : ℕ) (lent : List ℕ) → numbers_of (name_rules kind lent) ≡ 4 ∷ 13 ∷ []
kind_name_numbers kind lent = refl

-- a page: both files, then its list of ends; then the numbers of each item's own list
pub fetch_page_numbers : (index sequence numbers ends : List ℕ) → numbers_of (page_rules index sequence numbers ends) ≡ 22 ∷ 22 ∷ 13 ∷ []
fetch_page_numbers index sequence numbers ends = refl

-- ---- sets

module _ (order : Order) (index metadata sequence : List ℕ) where
  file_numbers : numbers_of (file_rules order index metadata sequence) ≡ 22 ∷ 22 ∷ 22 ∷ 1 ∷ 14 ∷ 1 ∷ 14 ∷ 1 ∷ 14 ∷ 15 ∷ 15 ∷ []
  unfolding file_rules size_rules start_rules tag_rules
  file_numbers = refl

  layout_numbers : numbers_of (layout_rules order index sequence) ≡ 3 ∷ 4 ∷ 4 ∷ 1 ∷ 6 ∷ 1 ∷ []
  unfolding layout_rules header_rules count_rules body_rules
  layout_numbers = refl

  ends_numbers : (table n size : ℕ) → numbers_of (ends_rules order index table n size) ≡ 7 ∷ 7 ∷ []
  unfolding ends_rules
  ends_numbers table n size = refl

  run_numbers : numbers_of (set_run_rules order index sequence) ≡ replicate (count_of order index) 17
  unfolding rules_of_run
  run_numbers = numbers_each _ 17 (λ k. refl) (count_of order index)

  record_numbers : numbers_of (record_rules order index metadata) ≡ replicate (count_of order index) 19
  unfolding rules_of_record
  record_numbers = numbers_each _ 19 (λ k. refl) (count_of order index)

  total_numbers : (residues longest : ℕ) → numbers_of (total_rules order index metadata residues longest) ≡ 9 ∷ 9 ∷ 9 ∷ 9 ∷ 9 ∷ []
  unfolding total_rules stated_rules
  total_numbers residues longest = refl

  -- 22; file by file 1, 14; 15; 3; flags 4; count 4; index short 1, long 6; body 1; ends 7; 17 for each run; 19 for each record; 9
  pub check_set_numbers : numbers_of (set_rules order index metadata sequence)
      ≡ (22 ∷ 22 ∷ 22 ∷ 1 ∷ 14 ∷ 1 ∷ 14 ∷ 1 ∷ 14 ∷ 15 ∷ 15 ∷ 3 ∷ 4 ∷ 4 ∷ 1 ∷ 6 ∷ 1 ∷ 7 ∷ 7 ∷ 7 ∷ 7 ∷ [])
      ++ (replicate (count_of order index) 17 ++ (replicate (count_of order index) 19 ++ (9 ∷ 9 ∷ 9 ∷ 9 ∷ 9 ∷ [])))
  unfolding set_rules content_rules rest_rules behind_runs
  check_set_numbers =
      simp (numbers_append, file_numbers, layout_numbers, ends_numbers, run_numbers, record_numbers, total_numbers)

-- 22; count 4; index short 1, long 6; 10; 7 for the metadata end and the packet end
pub lookup_numbers : (set : SetRecord) (index : List ℕ) (number : ℕ) → numbers_of
    (lookup_rules set index number) ≡ 22 ∷ 4 ∷ 1 ∷ 6 ∷ 10 ∷ 7 ∷ 7 ∷ 7 ∷ 7 ∷ 7 ∷ 7 ∷ []
unfolding lookup_rules count_rules part_rules
lookup_numbers set index number = refl

-- ---- header records

-- the nesting is 20 or 21, bytes behind the element and the shape are 20
module _ (s : List ℕ) (start : ℕ) where
  nesting_number : (x : Result ℕ Refusal) → nesting_at s start ≡ x → (number_of (refusal_in x) ≡ 20) ⊎ (number_of (refusal_in x) ≡ 21)
  nesting_number (Ok n) e = inl refl
  nesting_number (Err r) e = which (read_refusals 16 _ s start r e)
    where
      which : (r ≡ BadHeader) ⊎ (r ≡ TooDeep) → (number_of r ≡ 20) ⊎ (number_of r ≡ 21)
      which (inl q) = inl (ap number_of q)
      which (inr q) = inr (ap number_of q)

  pub element_numbers : (nested : ℕ) × ((nested ≡ 20) ⊎ (nested ≡ 21)) × (numbers_of (element_rules s start) ≡ nested ∷ 20 ∷ 20 ∷ [])
  element_numbers = (number_of (refusal_in (nesting_at s start)), nesting_number (nesting_at s start) refl, refl)

module _ (header : List ℕ) (start end : ℕ) where
  -- 22; 1 where it doesn't fit the file; the element
  pub check_record_numbers : numbers_of (Header.record_rules header start end) ≡ 22 ∷ 1 ∷ 1 ∷ numbers_of (element_rules (take end header) start)
  check_record_numbers = refl

  -- then 10
  pub step_numbers : (given : ℕ) → numbers_of (step_rules header start end given) ≡ numbers_of (Header.record_rules header start end) ++ (10 ∷ [])
  step_numbers given = refl

  pub identifier_numbers : (number : ℕ) → numbers_of (identifier_rules header start end number) ≡ numbers_of (Header.record_rules header start end) ++ (10 ∷ [])
  identifier_numbers number = refl

-- both files, the index, 10, 7, the element
pub label_numbers : (index header : List ℕ) (number : ℕ) → numbers_of (label_rules index header number)
    ≡ 22 ∷ 22 ∷ (index_numbers ++ (10 ∷ 7 ∷ 7 ∷ 7 ∷ numbers_of (element_rules (take (to_nat (high_offset index number)) header) (to_nat (low_offset index number)))))
unfolding index_rules
label_numbers index header number = refl
