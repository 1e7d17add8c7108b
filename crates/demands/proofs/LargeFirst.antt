-- Number 22 is tested first in every call: where an input range is too large the number is 22, whatever else is wrong. Assumes nothing.
use Rattle.std.specs.Prelude.{Err}
use mathlib.Core.Path.{◌≡◌, refl, ap}
use mathlib.Core.Bool.{Bool, true, false, cond}
use mathlib.Core.Logic.{inl, inr}
use mathlib.Core.List.{List, [], ◌∷◌}
use Prim.Native.Nat.{ℕ, ◌≤◌}
use native.Mathlib.Omega.{arith}
use lib.Dec.{leb}
use lib.ListN.{length}
use borrow.Author.Tests.{lt-leb}
use Rattle.answers.specs.Limits.{checked_by}
use Rattle.answers.specs.Numbers.{checked_number}
use Rattle.answers.specs.declared.Refusal.TheVariants.{TooLarge}
use Rattle.runs.specs.Answers.{pack_rules, pack_answer, pack_number, unpack_answer, unpack_number}
use Rattle.byte_runs.specs.Bytes.{pack_bytes_answer, unpack_bytes_answer}
use Rattle.volume.specs.Index.{index_answer, index_number}
use Rattle.volume.specs.Volume.{volume_rules, volume_answer, volume_number}
use Rattle.sequence.specs.Sequence.{decode_rules, decode_answer, decode_number}
use Rattle.pages.specs.Page.{Outcome, page_of, page_answer, page_number}
use Rattle.nucleotides.specs.Write.{write_answer, write_number}
use Rattle.listing.specs.Listing.{most_listed, listed_answer}
use Rattle.dsqdata.specs.Check.{size_rules, file_rules, set_rules, set_check, set_number}
use Rattle.dsqdata.specs.Lookup.{lookup_rules, lookup_of, lookup_number}
use Rattle.dsqdata.specs.declared.SetRecord.{SetRecord}
use Rattle.headers.specs.Record.{check_record}
use Rattle.deflines.specs.Calls.{title_of, identifier_of, first_of}
use Rattle.deflines.specs.Answers.{title_number, identifier_number, first_number}
use Rattle.labels.specs.Walker.{step_of, step_number}
use Rattle.labels.specs.Label.{label_of, label_number}
use Rattle.console.specs.Calls.{console_pack, console_unpack, console_volume}
use Rattle.timing.specs.Calls.{timed_set}
use Rattle.demands.specs.Numbers.{LargeBytes, LargePackets, SomeLarge}

-- no limit up to that of every range lets a large one pass
not_within : (most : ℕ) (bytes : List ℕ) → most ≤ 2147483647 → LargeBytes bytes → leb (length bytes) most ≡ false
not_within most bytes l h = lt-leb (length bytes) most (omega arith)

not_fit : (bytes : List ℕ) → LargeBytes bytes → leb (length bytes) 2147483647 ≡ false
not_fit bytes h = not_within 2147483647 bytes (omega arith) h

-- ---- packing and unpacking

module _ (alphabet : ℕ) where
  pub check_pack_large : (codes : List ℕ) (room at : ℕ) → LargeBytes codes → checked_number (checked_by (pack_rules alphabet codes room at)) ≡ 22
  check_pack_large codes room at h = rw (not_fit codes h)

  pub pack_large : (codes : List ℕ) (room at : ℕ) → LargeBytes codes → pack_number (pack_answer alphabet codes room at) ≡ 22
  unfolding pack_answer
  pack_large codes room at h = rw (not_fit codes h)

  pub pack_bytes_large : (codes bytes : List ℕ) (at : ℕ) → LargeBytes codes → pack_number (pack_bytes_answer alphabet codes bytes at) ≡ 22
  unfolding pack_answer
  pack_bytes_large codes bytes at h = rw (not_fit codes h)

  pub gull_pack_large : (codes buffer : List ℕ) (at room : ℕ) → LargeBytes codes → pack_number (console_pack alphabet codes buffer at room) ≡ 22
  unfolding console_pack
  gull_pack_large codes buffer at room h = rw (not_fit codes h)

  pub unpack_large : (packets : List ℕ) (room : ℕ) → LargePackets packets → unpack_number (unpack_answer alphabet packets room) ≡ 22
  unfolding unpack_answer
  unpack_large packets room h = rw (lt-leb (length packets) 536870912 h)

  pub unpack_bytes_large : (bytes : List ℕ) (room : ℕ) → LargeBytes bytes → unpack_number (unpack_bytes_answer alphabet bytes room) ≡ 22
  unfolding unpack_bytes_answer
  unpack_bytes_large bytes room h = rw (not_fit bytes h)

  pub gull_unpack_large : (packets : List ℕ) (out room : ℕ) → LargeBytes packets → unpack_number (console_unpack alphabet packets out room) ≡ 22
  unfolding console_unpack
  gull_unpack_large packets out room h = rw (not_fit packets h)

-- ---- volumes and sets: one of three files

-- the first, second or third of three tests with one refusal fails
module _ {A : Type 0} (refused : A) where
  pub always : (b : Bool) → cond b refused refused ≡ refused
  always true = refl
  always false = refl

  three_within : (most : ℕ) → most ≤ 2147483647 → (a b c : List ℕ) (passed : A) → SomeLarge (a ∷ b ∷ c ∷ [])
      → cond (leb (length a) most) (cond (leb (length b) most) (cond (leb (length c) most) passed refused) refused) refused ≡ refused
  three_within most l a b c passed (inl h) = rw (not_within most a l h)
  three_within most l a b c passed (inr (inl h)) = rw (not_within most b l h, always)
  three_within most l a b c passed (inr (inr (inl h))) = rw (not_within most c l h, always, always)
  three_within most l a b c passed (inr (inr (inr h))) = absurd h

  three : (a b c : List ℕ) (passed : A) → SomeLarge (a ∷ b ∷ c ∷ [])
      → cond (leb (length a) 2147483647) (cond (leb (length b) 2147483647) (cond (leb (length c) 2147483647) passed refused) refused) refused ≡ refused
  three a b c passed h = three_within 2147483647 (omega arith) a b c passed h

  two : (a b : List ℕ) (passed : A) → SomeLarge (a ∷ b ∷ []) → cond (leb (length a) 2147483647)
      (cond (leb (length b) 2147483647) passed refused) refused ≡ refused
  two a b passed (inl h) = rw (not_fit a h)
  two a b passed (inr (inl h)) = rw (not_fit b h, always)
  two a b passed (inr (inr h)) = absurd h

-- one of two files, told in the other order
exchanged : (a b : List ℕ) → SomeLarge (a ∷ b ∷ []) → SomeLarge (b ∷ a ∷ [])
exchanged a b (inl h) = inr (inl h)
exchanged a b (inr (inl h)) = inl h
exchanged a b (inr (inr h)) = absurd h

pub read_index_large : (index : List ℕ) → LargeBytes index → index_number (index_answer index) ≡ 22
read_index_large index h = rw (not_fit index h)

module _ (index sequence header : List ℕ) (h : SomeLarge (index ∷ sequence ∷ header ∷ [])) where
  pub check_volume_large : volume_number (volume_answer index sequence header) ≡ 22
  unfolding volume_answer volume_rules
  check_volume_large = ap volume_number (three _ index sequence header _ h)

  pub gull_check_volume_large : (room : ℕ) → volume_number (console_volume index sequence header room) ≡ 22
  unfolding console_volume volume_rules
  gull_check_volume_large room = ap volume_number (three _ index sequence header _ h)

  -- the number that a listing shows
  pub listing_large : volume_number (listed_answer index sequence header) ≡ 22
  unfolding listed_answer
  listing_large = ap volume_number (three_within _ most_listed (omega arith) index sequence header _ h)

pub decode_large : (index sequence : List ℕ) (number room : ℕ) → SomeLarge (index ∷ sequence ∷ []) → decode_number
    (decode_answer index sequence number room) ≡ 22
unfolding decode_answer decode_rules
decode_large index sequence number room h = ap decode_number (two _ sequence index _ (exchanged index sequence h))

pub fetch_page_large : (index sequence numbers output ends : List ℕ) → SomeLarge (index ∷ sequence ∷ []) → page_number
    (page_answer index sequence numbers output ends) ≡ 22
unfolding page_of
fetch_page_large index sequence numbers output ends h = ap (λ (x : Outcome). page_number x.answer) (two _ index sequence _ h)

pub write_nucleotides_large : (codes : List ℕ) (room : ℕ) → LargeBytes codes → write_number (write_answer codes room) ≡ 22
unfolding write_answer
write_nucleotides_large codes room h = rw (not_fit codes h)

module _ (index metadata sequence : List ℕ) (h : SomeLarge (index ∷ metadata ∷ sequence ∷ [])) where
  pub check_set_large : set_number (set_check index metadata sequence) ≡ 22
  unfolding set_check set_rules file_rules size_rules
  check_set_large = ap set_number (three _ index metadata sequence _ h)

  pub gull_time_check_set_large : (room : ℕ) → set_number (timed_set index metadata sequence room) ≡ 22
  unfolding timed_set set_rules file_rules size_rules
  gull_time_check_set_large room = ap set_number (three _ index metadata sequence _ h)

pub lookup_large : (set : SetRecord) (index : List ℕ) (number : ℕ) → LargeBytes index → lookup_number (lookup_of set index number) ≡ 22
unfolding lookup_of lookup_rules
lookup_large set index number h = rw (not_fit index h)

-- ---- header records

module _ (header : List ℕ) (start end : ℕ) (h : LargeBytes header) where
  large-record : check_record header start end ≡ Err TooLarge
  unfolding check_record
  large-record = rw (not_fit header h)

  pub check_record-large : checked_number (check_record header start end) ≡ 22
  check_record-large = rw large-record

  pub title-large : (given : ℕ) → title_number (title_of header start end given) ≡ 22
  unfolding title_of
  title-large given = rw large-record

  pub identifier_large : (number : ℕ) → identifier_number (identifier_of header start end number) ≡ 22
  unfolding identifier_of
  identifier_large number = rw large-record

  pub first-title-large : first_number (first_of header start end) ≡ 22
  unfolding first_of
  first-title-large = rw large-record

  pub step-large : (given : ℕ) → step_number (step_of header start end given) ≡ 22
  unfolding step_of
  step-large given = title-large given

pub label_large : (index header : List ℕ) (number : ℕ) → SomeLarge (index ∷ header ∷ []) → label_number (label_of index header number) ≡ 22
unfolding label_of
label_large index header number (inl h) = rw (not_fit index h, always)
label_large index header number (inr (inl h)) = rw (not_fit header h)
label_large index header number (inr (inr h)) = absurd h
