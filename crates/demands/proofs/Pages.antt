-- What is promised of a page (request 2026-02): demand 1, its rule of an untouched output item by item; demand 2; and what can stop a page of a volume
-- that passes. `gull_time_fetch_page` answers the same. That 22 comes first is in LargeFirst. Assumes nothing.
use Rattle.std.specs.Prelude.{Err, Ok, Result}
use mathlib.Core.Path.{◌≡◌, refl, sym, ap, subst, ◌∙◌}
use mathlib.Core.List.{List, [], ◌∷◌}
use mathlib.Core.Logic.{◌⊎◌, inl, inr}
use Prim.Native.Nat.{ℕ, suc, ◌-◌, ◌≤◌, ◌<◌}
use native.Mathlib.Omega.{arith}
use native.Mathlib.Nat.{not-suc-le-zero}
use borrow.Author.Tests.{le-leb, lt-leb}
use lib.Dec.{leb}
use lib.ListN.{length, get_or}
use Rattle.laws.specs.Rules.{Rule, verdict, AllHold}
use Rattle.laws.proofs.Rules.{verdict-passes, refused_any, hold-append}
use Rattle.laws.proofs.Verdicts.{hold_then}
use Rattle.answers.specs.Limits.{checked_by}
use Rattle.answers.specs.Numbers.{number_of}
use Rattle.answers.specs.declared.Refusal.{Refusal}
use Rattle.answers.specs.declared.Refusal.TheVariants.{NoRoom, TooLarge}
use Rattle.answers.proofs.Checks.{err-not_ok, err_cause}
use Rattle.volume.specs.Index.{sequences}
use Rattle.volume.specs.Volume.{volume_answer, volume_number}
use Rattle.volume.specs.Holds.{VolumeHolds}
use Rattle.volume.proofs.Exact as Volume
use Rattle.sequence.specs.Checked.{OnlyResidues}
use Rattle.sequence.specs.Sequence.{decode_answer, decode_number}
use Rattle.sequence.proofs.Checked.{decode_only_residues}
use Rattle.sequence.proofs.Exact.{zero_passed}
use Rattle.pages.specs.Page.{Progress, item_answer, step, stopped_at, page_rules, page_answer, page_output, page_ends, page_number}
use Rattle.pages.specs.declared.Stop.{Stop}
use Rattle.pages.specs.Holds.{item_length, filled_by, PageHolds, large, short, whole, refused}
use Rattle.pages.proofs.Steps as Steps
use Rattle.pages.proofs.Exact as Exact
use Rattle.dsqdata.specs.Check.{rules_to}
use Rattle.dsqdata.proofs.EachRule.{rules_all, rules_refused}
use Rattle.demands.specs.Numbers.{Numbered, SomeLarge}
use Rattle.demands.specs.Order.{Ordered, page_item_rules, whole_page_rules}
use Rattle.demands.proofs.Demand1.{cause-numbered}
use Rattle.demands.proofs.Order.{ordered}
use Rattle.demands.proofs.LargeFirst.{always}

-- ---- demand 1

-- Its number is 0 or stands in the table.
pub fetch_page_call : (index sequence numbers output ends : List ℕ) → Numbered (page_number (page_answer index sequence numbers output ends))
fetch_page_call index sequence numbers output ends = by (page_answer index sequence numbers output ends)
  where
    by : (x : Result ℕ Stop) → Numbered (page_number x)
    by (Ok n) = inl refl
    by (Err stop) = inr (cause-numbered stop.refusal)

-- The rule of an untouched output holds item by item: an item that is refused changes nothing.
pub page_item_kept : (index sequence : List ℕ) (number : ℕ) (p : Progress) (r : Refusal) → item_answer index sequence number p ≡ Err r
    → step index sequence number p ≡ p
page_item_kept index sequence number p r e = Steps.item_kept index sequence number p r e

module _ (index sequence numbers output ends : List ℕ) where
  -- what the page answers and leaves
  abbrev Gives : Result ℕ Stop → List ℕ → List ℕ → Type 0
  Gives answer o e =
      (answer ≡ page_answer index sequence numbers output ends)
      × (o ≡ page_output index sequence numbers output ends)
      × (e ≡ page_ends index sequence numbers output ends)

  -- 22, and 13 for the list of ends, come before any work: nothing is done, and nothing is changed.
  pub page_large_kept : SomeLarge (index ∷ sequence ∷ []) → Gives (stopped_at TooLarge 0) output ends
  page_large_kept (inl h) = Exact.holds_page index sequence numbers output ends (stopped_at TooLarge 0) output ends (large (inl h) refl refl refl)
  page_large_kept (inr (inl h)) = Exact.holds_page index sequence numbers output ends (stopped_at TooLarge 0) output ends (large (inr h) refl refl refl)
  page_large_kept (inr (inr h)) = absurd h

  pub page_short_kept : length index ≤ 2147483647 → length sequence ≤ 2147483647 → length ends < length numbers → Gives (stopped_at NoRoom 0) output ends
  page_short_kept i s h = Exact.holds_page index sequence numbers output ends (stopped_at NoRoom 0) output ends (short i s h refl refl refl)

  -- ---- demand 2

  -- A page answers and leaves what the plain statement of the request says ..
  pub page_gives : PageHolds index sequence numbers output ends (page_answer index sequence numbers output ends)
      (page_output index sequence numbers output ends) (page_ends index sequence numbers output ends)
  page_gives = Exact.page_holds index sequence numbers output ends

  -- .. and nothing else meets it.
  pub page_gives_only : (answer : Result ℕ Stop) (o e : List ℕ) → PageHolds index sequence numbers output ends answer o e → Gives answer o e
  page_gives_only = Exact.holds_page index sequence numbers output ends

-- An empty list succeeds over any two files that are not too large, and changes nothing.
pub page_of-none : (index sequence output ends : List ℕ) → length index ≤ 2147483647 → length sequence ≤ 2147483647
    → Gives index sequence [] output ends (Ok 0) output ends
unfolding filled_by
page_of-none index sequence output ends i s =
    page_gives_only index sequence [] output ends (Ok 0) output ends
    (whole i s (omega arith) refl (record {
      fetched = λ k h. absurd (not-suc-le-zero h);
      residues = λ k h. absurd (not-suc-le-zero h);
      sums = refl;
      output_rest = refl;
      ends_rest = refl;
    }))

-- ---- the cause and the order

module _ (index sequence numbers output ends : List ℕ) where
  abbrev item_rules : ℕ → List (Rule Refusal)
  item_rules = page_item_rules index sequence numbers output

  -- the rules of an item hold where it is fetched
  item-holds : (n : ℕ) → ((k : ℕ) → k < n
      → decode_answer index sequence (get_or numbers k 0) (length output - filled_by index sequence numbers k) ≡ Ok
      (item_length index sequence numbers k))
      → (k : ℕ) → k < n → AllHold (item_rules k)
  item-holds n f k h = (zero_passed index sequence (get_or numbers k 0) (length output - filled_by index sequence numbers k) (ap decode_number (f k h))).0

  item-refuses : (k : ℕ) (r : Refusal)
      → decode_answer index sequence (get_or numbers k 0) (length output - filled_by index sequence numbers k) ≡ Err r
      → checked_by (item_rules k) ≡ Err r
  unfolding decode_answer
  item-refuses k r e =
      refused_any Err (Ok (item_length index sequence numbers k)) (item_rules k) r (err_cause r) (λ q. err-not_ok r _ (sym q)) e Err (Ok tt)

  before_work : length index ≤ 2147483647 → length sequence ≤ 2147483647 → length numbers ≤ length ends → AllHold (page_rules index sequence numbers ends)
  before_work i s h = (le-leb _ _ i, (le-leb _ _ s, (le-leb _ _ h, tt)))

  number_by : (answer : Result ℕ Stop) (o e : List ℕ) → PageHolds index sequence numbers output ends answer o e
      → page_number answer ≡ verdict number_of 0 (whole_page_rules index sequence numbers output ends)
  number_by answer o e (large (inl h) a b c) = rw (a, lt-leb (length index) 2147483647 h)
  number_by answer o e (large (inr h) a b c) = rw (a, lt-leb (length sequence) 2147483647 h) (sym (always (number_of TooLarge) (leb (length index) 2147483647)))
  number_by answer o e (short i s h a b c) =
      rw (a, le-leb (length index) 2147483647 i, le-leb (length sequence) 2147483647 s, lt-leb (length numbers) (length ends) h)
  number_by answer o e (whole i s h a d) =
      ap page_number a
      ∙ sym (verdict-passes number_of 0 (whole_page_rules index sequence numbers output ends)
      (hold-append (page_rules index sequence numbers ends) (rules_to item_rules (length numbers)) (before_work i s h)
      (rules_all item_rules (length numbers) (item-holds (length numbers) d.fetched))))
  number_by answer o e (refused i s h n b r g a d) =
      ap page_number a
      ∙ sym (hold_then number_of 0 (page_rules index sequence numbers ends) (rules_to item_rules (length numbers)) (before_work i s h)
      ∙ rules_refused item_rules (length numbers) n (Err r) r b (rules_all item_rules n (item-holds n d.fetched)) (sym (item-refuses n r g)) refl
      number_of 0)

  -- `fetch_page`: the first broken rule of the whole list decides, and the number is 0 exactly where every rule holds
  pub fetch_page_order : Ordered number_of (λ (n : ℕ). n) (whole_page_rules index sequence numbers output ends)
      (page_number (page_answer index sequence numbers output ends))
  fetch_page_order =
      ordered number_of (λ (n : ℕ). n) (λ r. refl) 0 refl (whole_page_rules index sequence numbers output ends)
      (page_number (page_answer index sequence numbers output ends))
      (number_by _ _ _ (page_gives index sequence numbers output ends))

-- ---- a page of a volume that passes

-- With a place for each end and room for all, only 11 and 12 remain.
module _ (index sequence header : List ℕ) (passes : volume_number (volume_answer index sequence header) ≡ 0) (numbers output ends : List ℕ)
    (given : (k : ℕ) → k < length numbers → get_or numbers k 0 < sequences index) (places : length numbers ≤ length ends)
    (room : filled_by index sequence numbers (length numbers) ≤ length output) where
  abbrev OnlyBad : Result ℕ Stop → Type 0
  OnlyBad answer = (page_number answer ≡ 0) ⊎ ((page_number answer ≡ 11) ⊎ (page_number answer ≡ 12))

  -- a volume that passes is not too large
  sizes : VolumeHolds index sequence header
  sizes = (Volume.zero_rules index sequence header passes).0

  by_item : (n : ℕ) → n < length numbers → (r : Refusal)
      → decode_answer index sequence (get_or numbers n 0) (length output - filled_by index sequence numbers n) ≡ Err r
      → OnlyResidues index sequence (get_or numbers n 0) (length output - filled_by index sequence numbers n) → OnlyBad (stopped_at r n)
  by_item n h r g (inl e) = absurd (err-not_ok r _ (sym g ∙ e))
  by_item n h r g (inr (inl e)) = inr (inl (ap decode_number (sym g ∙ e)))
  by_item n h r g (inr (inr (inl e))) = inr (inr (ap decode_number (sym g ∙ e)))
  by_item n h r g (inr (inr (inr e))) =
      let next = Exact.filled_next index sequence numbers n in
      let rises = Exact.filled-rises index sequence numbers (suc n) (length numbers) h in
      let few = e.1 in
      absurd (omega arith)

  only_bad : (answer : Result ℕ Stop) (o e : List ℕ) → PageHolds index sequence numbers output ends answer o e → OnlyBad answer
  only_bad answer o e (large (inl h) a b c) = let s = sizes.index_size in absurd (omega arith)
  only_bad answer o e (large (inr h) a b c) = let s = sizes.sequence_size in absurd (omega arith)
  only_bad answer o e (short i s h a b c) = absurd (omega arith)
  only_bad answer o e (whole i s h a d) = inl (ap page_number a)
  only_bad answer o e (refused i s h n b r g a d) =
      let room = length output - filled_by index sequence numbers n in
      subst OnlyBad (sym a) (by_item n b r g (decode_only_residues index sequence header passes (get_or numbers n 0) (given n b) room))

  pub page_only_residues : OnlyBad (page_answer index sequence numbers output ends)
  page_only_residues = only_bad _ _ _ (page_gives index sequence numbers output ends)
