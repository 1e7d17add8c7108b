-- What demand 1 says of the cause and the order: a list of rules, in document 01's order, decides the call.
-- Assumes nothing.
use Rattle.std.specs.Prelude.{◌≡◌, ◌↔◌, List, [], ◌∷◌, ◌++◌, ℕ, ◌+◌, ◌-◌, ltb, ℤ, length, get_or, take}
use Rattle.laws.specs.Rules.{Rule, ask, AllHold, FirstBroken}
use Rattle.laws.specs.Signed.{to_nat}
use Rattle.answers.specs.Limits.{bytes_fit}
use Rattle.answers.specs.Numbers.{number_of}
use Rattle.answers.specs.declared.Refusal.{Refusal}
use Rattle.answers.specs.declared.Refusal.TheVariants.{TooLarge, NoSuchSequence}
use Rattle.volume.specs.Index.{sequences, header_table, read_rules}
use Rattle.volume.specs.Tables.{offset_at}
use Rattle.sequence.specs.Sequence.{decode_rules}
use Rattle.pages.specs.Page.{page_rules}
use Rattle.pages.specs.Holds.{filled_by}
use Rattle.dsqdata.specs.Check.{rules_to}
use Rattle.headers.specs.Record.{element_rules, record_rules}
use Rattle.deflines.specs.Fields.{titles_of, identifiers_of}
use Rattle.labels.specs.Label.{own_rules}

-- A call that a list of rules decides. A cause is that of the first broken rule: all rules before that one hold.
pub record Ordered {A : Type 0} (refused : Refusal → A) (number : A → ℕ) (rules : List (Rule Refusal)) (answer : A) : Type 0 where
  -- it refuses for a cause exactly where the first broken rule has that cause
  pub refuses : (r : Refusal) → (answer ≡ refused r) ↔ FirstBroken rules r
  -- its number is that of a cause exactly there
  pub numbered : (r : Refusal) → (number answer ≡ number_of r) ↔ FirstBroken rules r
  -- its number is 0 exactly where every rule holds
  pub passes : (number answer ≡ 0) ↔ AllHold rules

-- ---- the numbers of a list, in the order in which document 01 prints them

abbrev pub numbers_of : List (Rule Refusal) → List ℕ
numbers_of [] = []
numbers_of (rule ∷ rules) = number_of rule.refusal ∷ numbers_of rules

-- The index, field by field, too short (1), then its value: version 2; type 3; title length 4; the title itself.
abbrev pub title_numbers : List ℕ
title_numbers = 1 ∷ 2 ∷ 1 ∷ 3 ∷ 1 ∷ 4 ∷ 1 ∷ []

-- Timestamp length 4; the timestamp itself, and its end 5.
abbrev pub timestamp_numbers : List ℕ
timestamp_numbers = 1 ∷ 4 ∷ 1 ∷ 5 ∷ []

-- N, not negative and not too large, 4; count 4; longest 4.
abbrev pub count_numbers : List ℕ
count_numbers = 1 ∷ 4 ∷ 4 ∷ 1 ∷ 4 ∷ 1 ∷ 4 ∷ []

-- The tables, and nothing behind them 6.
abbrev pub index_numbers : List ℕ
index_numbers = title_numbers ++ (timestamp_numbers ++ (count_numbers ++ (1 ∷ 6 ∷ [])))

-- ---- the lists of the calls whose definition is no list: each asks rules, and then those of another check

-- The record's own rules, then 10 where there are no more than so many titles, or identifiers.
abbrev pub step_rules : List ℕ → ℕ → ℕ → ℕ → List (Rule Refusal)
step_rules header start end given = record_rules header start end ++ (ask (ltb given (length (titles_of (take end header) start))) NoSuchSequence ∷ [])

abbrev pub identifier_rules : List ℕ → ℕ → ℕ → ℕ → List (Rule Refusal)
identifier_rules header start end number =
    record_rules header start end ++ (ask (ltb number (length (identifiers_of (take end header) start))) NoSuchSequence ∷ [])

-- A label: 22; 1 to 6 for the index; 10; 7 for the sequence's own header offsets; then 20 and 21 for the record between them.
abbrev pub low_offset : List ℕ → ℕ → ℤ
low_offset index number = offset_at index (header_table index) number

abbrev pub high_offset : List ℕ → ℕ → ℤ
high_offset index number = offset_at index (header_table index) (number + 1)

abbrev pub label_offset_rules : List ℕ → List ℕ → ℕ → List (Rule Refusal)
label_offset_rules index header number =
    ask (bytes_fit header) TooLarge
    ∷ (read_rules index
    ++ (ask (ltb number (sequences index)) NoSuchSequence ∷ own_rules (length header) (low_offset index number) (high_offset index number)))

abbrev pub label_rules : List ℕ → List ℕ → ℕ → List (Rule Refusal)
label_rules index header number =
    label_offset_rules index header number
    ++ element_rules (take (to_nat (high_offset index number)) header) (to_nat (low_offset index number))

-- A page: 22 for either file; 13 for the list of ends; then, item by item, the rules of a single fetch into what is left of the output behind the
-- items before it.
abbrev pub page_item_rules : List ℕ → List ℕ → List ℕ → List ℕ → ℕ → List (Rule Refusal)
page_item_rules index sequence numbers output k =
    decode_rules index sequence (get_or numbers k 0) (length output - filled_by index sequence numbers k)

abbrev pub whole_page_rules : List ℕ → List ℕ → List ℕ → List ℕ → List ℕ → List (Rule Refusal)
whole_page_rules index sequence numbers output ends =
    page_rules index sequence numbers ends ++ rules_to (page_item_rules index sequence numbers output) (length numbers)
