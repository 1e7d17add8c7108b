-- Bodies of lists of sequences, and lists of packing calls (document 01, "Packets").
-- Assumes nothing.
use Rattle.std.specs.Prelude.{◌≡◌, true, Result, Ok, Err, List, [], ◌∷◌, ◌++◌, ℕ, ◌+◌, ◌≤◌, ℤ, length, drop}
use Rattle.answers.specs.declared.Refusal.{Refusal}
use Rattle.residues.specs.Alphabets.{valid_codes}
use Rattle.packets.specs.Packing.{run}
use Rattle.packets.specs.Ends.{last_place}
use Rattle.runs.specs.Answers.{pack_answer, packets_after}
use Rattle.runs.specs.declared.RunSize.{RunSize}

-- A sequence with its alphabet.
pub record Item : Type 0 where
  pub alphabet : ℕ
  pub codes : List ℕ

-- The body of a list of sequences: the run of each, in its own alphabet, one after another.
abbrev pub body : List Item → List ℕ
body [] = []
body (s ∷ items) = run s.alphabet s.codes ++ body items

-- The sequences alone, residue for residue.
abbrev pub sequences_of : List Item → List (List ℕ)
sequences_of [] = []
sequences_of (s ∷ items) = s.codes ∷ sequences_of items

-- Every sequence has codes that are valid in its own alphabet.
abbrev pub AllValid : List Item → Type 0
AllValid [] = Unit
AllValid (s ∷ items) = (valid_codes s.alphabet s.codes ≡ true) × AllValid items

-- Every sequence is of the one alphabet, and its codes are valid in it.
abbrev pub AllValidIn : ℕ → List Item → Type 0
AllValidIn alphabet [] = Unit
AllValidIn alphabet (s ∷ items) = (s.alphabet ≡ alphabet) × (valid_codes alphabet s.codes ≡ true) × AllValidIn alphabet items

-- The ends of the runs of a body: the place of each run's last packet, where the first run begins at `place`.
abbrev pub run_ends_from : ℕ → List Item → List ℤ
run_ends_from place [] = []
run_ends_from place (s ∷ items) =
    let next = place + length (run s.alphabet s.codes) in
    last_place next ∷ run_ends_from next items

abbrev pub run_ends : List Item → List ℤ
run_ends items = run_ends_from 0 items

-- The first list begins the second.
abbrev pub Begins {ℓ} : {A : Type ℓ} → List A → List A → Type ℓ
Begins {A} first second = (rest : List A) × (first ++ rest ≡ second)

-- ---- packing calls, one after another: of any kind C, over buffers of any kind B

-- The packets that a call returned; none where it was refused.
abbrev pub taken : Result RunSize Refusal → ℕ
taken (Ok size) = size.packets
taken (Err r) = 0

-- The sequence before others, where the call packed it.
abbrev pub if_taken : Result RunSize Refusal → Item → List Item → List Item
if_taken (Ok size) s items = s ∷ items
if_taken (Err r) s items = items

-- Each call gets the buffer as the call before left it.
abbrev pub after_each : {B C : Type 0} → (B → C → B) → B → List C → B
after_each after buffer [] = buffer
after_each after buffer (call ∷ calls) = after_each after (after buffer call) calls

-- The sequences that the calls packed, by the answer to each.
abbrev pub packed_by : {B C : Type 0} → (C → Item) → (B → C → Result RunSize Refusal) → (B → C → B) → B → List C → List Item
packed_by item answer after buffer [] = []
packed_by item answer after buffer (call ∷ calls) =
    if_taken (answer buffer call) (item call) (packed_by item answer after (after buffer call) calls)

-- ---- calls of `pack`

-- A packet buffer and the place of the next call.
pub record Buffer : Type 0 where
  pub packets : List ℕ
  pub place : ℕ

abbrev pub call_answer : Buffer → Item → Result RunSize Refusal
call_answer buffer s = pack_answer s.alphabet s.codes (length buffer.packets) buffer.place

-- The buffer after a call; the next place is the call's place plus the packets it returned, or the same place if it was refused.
abbrev pub after_call : Buffer → Item → Buffer
after_call buffer s = record {
  packets = packets_after s.alphabet s.codes buffer.packets buffer.place;
  place = buffer.place + taken (call_answer buffer s);
}

abbrev pub after_calls : Buffer → List Item → Buffer
after_calls = after_each after_call

-- The sequences that calls packed.
abbrev pub packed_of : Buffer → List Item → List Item
packed_of = packed_by (λ s. s) call_answer after_call

-- A buffer that was `packets` at first: its packets before the place are `body`, and all others are as at first.
pub record Holds (packets body : List ℕ) (buffer : Buffer) : Type 0 where
  pub within : length body ≤ length packets
  pub place_is : buffer.place ≡ length body
  pub packets_are : buffer.packets ≡ body ++ drop (length body) packets
