-- What request 2026-02 says of a page, sentence by sentence, in plain statements. proofs/Exact.antt shows that a page answers and leaves what they say,
-- and that nothing else meets them.
-- Assumes nothing.
use Rattle.std.specs.Prelude.{◌≡◌, List, ◌⊎◌, ℕ, suc, ◌-◌, ◌≤◌, ◌<◌, length, get_or, take, drop, Result, Ok, Err}
use Rattle.std.proofs.Math.Seq.{slice}
use Rattle.laws.specs.Places.{sum_to, list_to}
use Rattle.answers.specs.declared.Refusal.{Refusal}
use Rattle.answers.specs.declared.Refusal.TheVariants.{TooLarge, NoRoom}
use Rattle.volume.specs.Tables.{sequence_length}
use Rattle.sequence.specs.Sequence.{decode_answer, residues_of}
use Rattle.pages.specs.declared.Stop.{Stop}
use Rattle.pages.specs.Page.{stopped_at}

-- The length of item k, and how many output bytes the first n items fill.
abbrev pub item_length : List ℕ → List ℕ → List ℕ → ℕ → ℕ
item_length index sequence numbers k = sequence_length index sequence (get_or numbers k 0)

unfoldable pub filled_by : List ℕ → List ℕ → List ℕ → ℕ → ℕ
filled_by index sequence numbers n = sum_to (item_length index sequence numbers) n

-- The first n items are done, and nothing else is.
pub record ItemsDone (index sequence numbers output ends : List ℕ) (n : ℕ) (output_after ends_after : List ℕ) : Type 0 where
  -- a single fetch of each gives its length, in what is left of the output behind the items before it
  pub fetched : (k : ℕ) → k < n
      → decode_answer index sequence (get_or numbers k 0) (length output - filled_by index sequence numbers k) ≡ Ok (item_length index sequence numbers k)
  -- the bytes between the end before and an item's end are that sequence's residues
  pub residues : (k : ℕ) → k < n
      → slice (filled_by index sequence numbers k) (filled_by index sequence numbers (suc k)) output_after ≡ residues_of index sequence (get_or numbers k 0)
  -- the first n ends are the running sums of the lengths
  pub sums : take n ends_after ≡ list_to (λ k. filled_by index sequence numbers (suc k)) n
  -- the bytes past the filled part and the other ends are as they were
  pub output_rest : drop (filled_by index sequence numbers n) output_after ≡ drop (filled_by index sequence numbers n) output
  pub ends_rest : drop n ends_after ≡ drop n ends

-- A page with its answer, and its output and its list of ends afterwards.
pub data PageHolds (index sequence numbers output ends : List ℕ) (answer : Result ℕ Stop) (output_after ends_after : List ℕ) : Type 0 where
  -- a file is over 2,147,483,647 bytes: 22, and nothing is done
  large : (2147483647 < length index) ⊎ (2147483647 < length sequence) → answer ≡ stopped_at TooLarge 0 → output_after ≡ output → ends_after ≡ ends
      → PageHolds index sequence numbers output ends answer output_after ends_after
  -- the list of ends is shorter than the numbers: 13, and nothing is done
  short : length index ≤ 2147483647 → length sequence ≤ 2147483647 → length ends < length numbers → answer ≡ stopped_at NoRoom 0
      → output_after ≡ output → ends_after ≡ ends → PageHolds index sequence numbers output ends answer output_after ends_after
  -- every item is done
  whole : length index ≤ 2147483647 → length sequence ≤ 2147483647 → length numbers ≤ length ends → answer ≡ Ok (length numbers)
      → ItemsDone index sequence numbers output ends (length numbers) output_after ends_after
      → PageHolds index sequence numbers output ends answer output_after ends_after
  -- a single fetch refuses item n, in what is left of the output: its refusal, and the items before it are done
  refused : length index ≤ 2147483647 → length sequence ≤ 2147483647 → length numbers ≤ length ends → (n : ℕ) → n < length numbers → (r : Refusal)
      → decode_answer index sequence (get_or numbers n 0) (length output - filled_by index sequence numbers n) ≡ Err r → answer ≡ stopped_at r n
      → ItemsDone index sequence numbers output ends n output_after ends_after
      → PageHolds index sequence numbers output ends answer output_after ends_after
