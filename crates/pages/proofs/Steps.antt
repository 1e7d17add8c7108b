-- A page item by item: what an item leaves, and what follows it. Assumes nothing.
use mathlib.Core.Path.{◌≡◌, sym, ap, ◌∙◌}
use mathlib.Core.List.{List, [], ◌∷◌, ◌++◌, append-nil}
use Prim.Native.Nat.{ℕ, ◌+◌, ◌-◌, ◌≤◌, ◌<◌}
use native.Mathlib.Omega.{arith}
use lib.ListN.{length, get_or, take, drop, length-append, length-drop, take-append-drop, drop_of_length-le}
use borrow.Author.Tests.{le-leb, lt-leb}
use Rattle.std.specs.Prelude.{Result, Ok, Err}
use Rattle.laws.proofs.Parts.{part_rest}
use Rattle.laws.proofs.Writing.{drop-step}
use Rattle.answers.specs.declared.Refusal.{Refusal}
use Rattle.answers.specs.declared.Refusal.TheVariants.{TooLarge, NoRoom}
use Rattle.sequence.specs.Sequence.{decode_answer, decode_output}
use Rattle.sequence.proofs.Decoded.{refused-output, output-length}
use Rattle.pages.specs.Page.{Progress, begun, left, item_answer, item_output, counted, step}
use Rattle.pages.specs.Page.{Outcome, stopped, followed, fetch_all, page_of}

-- outcomes that are the same, part by part
pub same_parts : (x y : Outcome) → x ≡ y
    → (x.answer ≡ y.answer) × ((x.progress.output ≡ y.progress.output) × (x.progress.ends ≡ y.progress.ends))
same_parts x y e = (
  ap (λ (o : Outcome). o.answer) e,
  (ap (λ (o : Outcome). o.progress.output) e, ap (λ (o : Outcome). o.progress.ends) e),
)

-- ---- one item

module _ (index sequence : List ℕ) (number : ℕ) (p : Progress) where
  -- a refused item leaves the output as it was ..
  pub output_kept : (r : Refusal) → item_answer index sequence number p ≡ Err r → item_output index sequence number p ≡ p.output
  output_kept r e =
      ap (λ (l : List ℕ). take p.filled p.output ++ l) (refused-output index sequence number (left p) r e)
      ∙ take-append-drop p.filled p.output

  -- .. and changes nothing else
  pub item_kept : (r : Refusal) → item_answer index sequence number p ≡ Err r → step index sequence number p ≡ p
  item_kept r e =
      ap (λ (a : Result ℕ Refusal). counted a (item_output index sequence number p) p) e
      ∙ ap (λ (o : List ℕ). counted (Err r) o p) (output_kept r e)

  pub item-done : (l : ℕ) → item_answer index sequence number p ≡ Ok l
      → step index sequence number p ≡ counted (Ok l) (item_output index sequence number p) p
  item-done l e = ap (λ (a : Result ℕ Refusal). counted a (item_output index sequence number p) p) e

  -- the output is as long as it was
  pub output-size : length (item_output index sequence number p) ≡ length p.output
  output-size =
      let front = take p.filled p.output in
      length-append front (decode_output index sequence number (left p))
      ∙ ap (λ (n : ℕ). length front + n) (output-length index sequence number (left p))
      ∙ sym (length-append front (left p))
      ∙ ap length (take-append-drop p.filled p.output)

  -- what follows an item
  module _ (numbers : List ℕ) where
    abbrev next : Progress
    next = step index sequence number p

    pub goes_on : (l : ℕ) → item_answer index sequence number p ≡ Ok l
        → fetch_all index sequence (number ∷ numbers) p ≡ fetch_all index sequence numbers next
    unfolding fetch_all
    goes_on l e = ap (λ (a : Result ℕ Refusal). followed a (fetch_all index sequence numbers next) next) e

    pub stops : (r : Refusal) → item_answer index sequence number p ≡ Err r → fetch_all index sequence (number ∷ numbers) p ≡ stopped r p
    unfolding fetch_all
    stops r e = ap (λ (a : Result ℕ Refusal). followed a (fetch_all index sequence numbers next) next) e ∙ ap (stopped r) (item_kept r e)

-- ---- item i of a list

module _ (index sequence numbers : List ℕ) (i : ℕ) (h : i < length numbers) (p : Progress) where
  abbrev number : ℕ
  number = get_or numbers i 0

  pub list_goes_on : (l : ℕ) → item_answer index sequence number p ≡ Ok l
      → fetch_all index sequence (drop i numbers) p ≡ fetch_all index sequence (drop (i + 1) numbers) (step index sequence number p)
  list_goes_on l e =
      ap (λ (ns : List ℕ). fetch_all index sequence ns p) (drop-step numbers i 0 h) ∙ goes_on index sequence number p (drop (i + 1) numbers) l e

  pub list_stops : (r : Refusal) → item_answer index sequence number p ≡ Err r → fetch_all index sequence (drop i numbers) p ≡ stopped r p
  list_stops r e =
      ap (λ (ns : List ℕ). fetch_all index sequence ns p) (drop-step numbers i 0 h) ∙ stops index sequence number p (drop (i + 1) numbers) r e

pub list-ends : (index sequence numbers : List ℕ) (i : ℕ) (p : Progress) → length numbers ≤ i
    → fetch_all index sequence (drop i numbers) p ≡ record { answer = Ok p.done; progress = p }
unfolding fetch_all
list-ends index sequence numbers i p h = rw (drop_of_length-le numbers h)

-- ---- the output lent from a place on

module _ (index sequence : List ℕ) (number : ℕ) (p : Progress) (fits : p.filled ≤ length p.output) where
  abbrev behind : ℕ
  behind = length p.output - p.filled

  abbrev lent : List ℕ
  lent = take behind (left p)

  pub lent_answer : (a : Result ℕ Refusal) → a ≡ decode_answer index sequence number (length lent) → item_answer index sequence number p ≡ a
  lent_answer a e = sym (e ∙ ap (λ (l : List ℕ). decode_answer index sequence number (length l)) (part_rest p.output p.filled))

  pub lent_output : (after : List ℕ) → after ≡ decode_output index sequence number lent
      → take p.filled p.output ++ (after ++ drop behind (left p)) ≡ item_output index sequence number p
  lent_output after e =
      let none : drop behind (left p) ≡ [] = drop_of_length-le (left p) {i = behind} (omega (arith, length-drop p.filled p.output)) in
      ap (λ (l : List ℕ). take p.filled p.output ++ (after ++ l)) none
      ∙ ap (λ (l : List ℕ). take p.filled p.output ++ l)
      (append-nil after ∙ e ∙ ap (decode_output index sequence number) (part_rest p.output p.filled))

-- ---- the call

module _ (index sequence numbers output ends : List ℕ) where
  pub index_large : 2147483647 < length index → stopped TooLarge (begun output ends) ≡ page_of index sequence numbers output ends
  unfolding page_of
  index_large h = rw (lt-leb (length index) 2147483647 h)

  module _ (i : length index ≤ 2147483647) where
    pub sequence_large : 2147483647 < length sequence → stopped TooLarge (begun output ends) ≡ page_of index sequence numbers output ends
    unfolding page_of
    sequence_large h = rw (le-leb (length index) 2147483647 i, lt-leb (length sequence) 2147483647 h)

    module _ (s : length sequence ≤ 2147483647) where
      pub ends-short : length ends < length numbers → stopped NoRoom (begun output ends) ≡ page_of index sequence numbers output ends
      unfolding page_of
      ends-short h =
          rw (le-leb (length index) 2147483647 i, le-leb (length sequence) 2147483647 s, lt-leb (length numbers) (length ends) h)

      pub page_items : length numbers ≤ length ends
          → fetch_all index sequence numbers (begun output ends) ≡ page_of index sequence numbers output ends
      unfolding page_of
      page_items h =
          rw (le-leb (length index) 2147483647 i, le-leb (length sequence) 2147483647 s, le-leb (length numbers) (length ends) h)
