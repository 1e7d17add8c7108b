-- Demand 1: the number of every public call is 0 or one of document 01's table, a refusal returns its number only, and a refusal leaves every lent
-- range as it was. An answer is a success, whose number is 0, or a refusal with its cause: so one law of causes serves all calls. Public functions
-- without an answer, as `sequence_length` and `write_listing`, refuse nothing.
-- Assumes nothing.
use Rattle.metadata.specs.declared.Texts.{Texts}
use Rattle.labels.specs.declared.Label.{Label}
use Rattle.labels.specs.declared.Label.TheVariants.{InHeader, InIndex}
use Rattle.deflines.specs.declared.Identifier.{Identifier}
use Rattle.elements.specs.declared.Span.{Span}
use Rattle.dsqdata.specs.declared.Located.{Located}
use Rattle.volume.specs.declared.Index.{Index}
use Rattle.volume.specs.declared.VolumeRecord.{VolumeRecord}
use Rattle.runs.specs.declared.RunSize.{RunSize}
use Rattle.std.specs.Prelude.{Err, None, Ok, Option, Result, Some}
use mathlib.Core.Path.{◌≡◌, refl}
use mathlib.Core.Bool.{true}
use mathlib.Core.Logic.{inl, inr}
use mathlib.Core.List.{List, []}
use Prim.Native.Nat.{ℕ}
use lib.Dec.{ltb}
use lib.IntN.{ℤ}
use lib.ListN.{length, get_or}
use borrow.Author.Tests.{ltb-true}
use Rattle.laws.specs.Writing.{written_at}
use Rattle.answers.specs.Limits.{checked_by}
use Rattle.answers.specs.Numbers.{number_of, checked_number}
use Rattle.answers.specs.declared.Refusal.{Refusal}
use Rattle.answers.specs.declared.Refusal.TheVariants as R
use Rattle.fields.specs.declared.Order.{Order}
use Rattle.packets.specs.Positions.{byte_of}
use Rattle.packets.specs.Packing.{run}
use Rattle.packets.specs.Runs.{unpacked}
use Rattle.packets.specs.Bytes.{packets_of, bytes_of}
use Rattle.runs.specs.Answers.{pack_rules, pack_answer, pack_number, pack_values, if_packed, packets_after}
use Rattle.runs.specs.Answers.{unpack_answer, unpack_number, unpack_values, if_unpacked, codes_after}
use Rattle.byte_runs.specs.Bytes.{pack_bytes_answer, bytes_after, run_in, unpack_bytes_answer, codes_after_bytes}
use Rattle.volume.specs.Index.{index_answer, index_number, index_values}
use Rattle.volume.specs.Volume.{volume_answer, volume_number, volume_values}
use Rattle.sequence.specs.Sequence.{residues_of, decode_answer, written_by, decode_output, decode_number, decode_values}
use Rattle.listing.specs.Listing.{refused_text, listed_answer, answer_text, listing_text}
use Rattle.metadata.specs.Record.{texts_in, texts_number, texts_values}
use Rattle.dsqdata.specs.Check.{set_check, set_number, set_values}
use Rattle.dsqdata.specs.Lookup.{lookup_of, lookup_number, lookup_values}
use Rattle.dsqdata.specs.declared.SetRecord.{SetRecord}
use Rattle.elements.specs.Answers.{element_number, element_values, span_number, span_values, integer_number, integer_values}
use Rattle.elements.specs.Parts.{integer_at, text_at}
use Rattle.elements.specs.Reading.{read}
use Rattle.elements.specs.declared.Form.{Form}
use Rattle.headers.specs.Record.{check_record}
use Rattle.deflines.specs.Calls.{title_of, identifier_of, first_of}
use Rattle.deflines.specs.Answers.{title_number, title_values, identifier_number, identifier_values, first_number, first_values}
use Rattle.labels.specs.Walker.{place, place_after, step_of, step_number, step_values}
use Rattle.labels.specs.Label.{label_of, label_number, label_part}
use Rattle.console.specs.Results.{results_put}
use Rattle.console.specs.Calls.{console_pack, console_buffer, pack_results, console_unpack, console_codes, unpack_results, console_volume, volume_results}
use Rattle.console.proofs.Values.{put_nothing}
use Rattle.timing.specs.Calls.{timed_set, set_results}
use Rattle.demands.specs.Numbers.{table_numbers, InTable, Numbered, Refuses, Answered, run_number, run_values, Kept}

-- ---- causes

row : (k n : ℕ) → ltb k (length table_numbers) ≡ true → get_or table_numbers k 0 ≡ n → InTable n
row k n l e = (k, ltb-true k (length table_numbers) l, e)

-- The number of every cause stands in the table.
pub cause-numbered : (r : Refusal) → InTable (number_of r)
cause-numbered R.TooShort = row 0 1 refl refl
cause-numbered R.WrongVersion = row 1 2 refl refl
cause-numbered R.WrongKind = row 2 3 refl refl
cause-numbered R.OutOfRange = row 3 4 refl refl
cause-numbered R.Misaligned = row 4 5 refl refl
cause-numbered R.Leftover = row 5 6 refl refl
cause-numbered R.BadOffsets = row 6 7 refl refl
cause-numbered R.BadSeparator = row 7 8 refl refl
cause-numbered R.WrongTotals = row 8 9 refl refl
cause-numbered R.NoSuchSequence = row 9 10 refl refl
cause-numbered R.BadProteinByte = row 10 11 refl refl
cause-numbered R.BadAmbiguity = row 11 12 refl refl
cause-numbered R.NoRoom = row 12 13 refl refl
cause-numbered R.WrongMagic = row 13 14 refl refl
cause-numbered R.TagsDiffer = row 14 15 refl refl
cause-numbered R.BadRun = row 15 17 refl refl
cause-numbered R.BadCode = row 16 18 refl refl
cause-numbered R.BadMetadata = row 17 19 refl refl
cause-numbered R.BadHeader = row 18 20 refl refl
cause-numbered R.TooDeep = row 19 21 refl refl
cause-numbered R.TooLarge = row 20 22 refl refl

-- What is no refusal is 0, with any values; a refusal has its cause's number and no values.
module _ {A : Type 0} where
  fine : (values : List A) → Answered 0 values
  fine values = record { numbered = inl refl; alone = λ n. absurd (n refl) }

  refused : (r : Refusal) → Answered {A = A} (number_of r) []
  refused r = record { numbered = inr (cause-numbered r); alone = λ n. refl }

-- ---- answers, each by the numbers of its two cases

-- a call's number
pub number_answered : {A : Type 0} (number : Result A Refusal → ℕ) → ((x : A) → number (Ok x) ≡ 0) → ((r : Refusal) → number (Err r) ≡ number_of r)
    → (x : Result A Refusal) → Numbered (number x)
number_answered number success own (Ok x) = inl (success x)
number_answered number success own (Err r) = inr (rw (own r) (cause-numbered r))

-- .. and its values
answered : {A B : Type 0} (number : Result A Refusal → ℕ) (values : Result A Refusal → List B) → ((x : A) → number (Ok x) ≡ 0)
    → ((r : Refusal) → number (Err r) ≡ number_of r) → ((r : Refusal) → values (Err r) ≡ [])
    → (x : Result A Refusal) → Answered (number x) (values x)
answered number values success own none (Ok x) = rw (success x) (fine (values (Ok x)))
answered number values success own none (Err r) = rw (own r, none r) (refused r)

checked_answered : (x : Result Unit Refusal) → Numbered (checked_number x)
checked_answered = number_answered checked_number (λ _. refl) (λ r. refl)

run_answered : (x : Option ℕ) → Answered (run_number x) (run_values x)
run_answered (Some l) = fine (run_values (Some l))
run_answered None = refused R.BadRun

texts_answered : (x : Option Texts) → Answered (texts_number x) (texts_values x)
texts_answered (Some t) = fine (texts_values (Some t))
texts_answered None = refused R.BadMetadata

pack_answered : (x : Result RunSize Refusal) → Answered (pack_number x) (pack_values x)
pack_answered = answered pack_number pack_values (λ x. refl) (λ r. refl) (λ r. refl)

unpack_answered : (x : Result RunSize Refusal) → Answered (unpack_number x) (unpack_values x)
unpack_answered = answered unpack_number unpack_values (λ x. refl) (λ r. refl) (λ r. refl)

index_answered : (x : Result Index Refusal) → Answered (index_number x) (index_values x)
index_answered = answered index_number index_values (λ x. refl) (λ r. refl) (λ r. refl)

volume_answered : (x : Result VolumeRecord Refusal) → Answered (volume_number x) (volume_values x)
volume_answered = answered volume_number volume_values (λ x. refl) (λ r. refl) (λ r. refl)

decode_answered : (x : Result ℕ Refusal) → Answered (decode_number x) (decode_values x)
decode_answered = answered decode_number decode_values (λ x. refl) (λ r. refl) (λ r. refl)

set_answered : (x : Result SetRecord Refusal) → Answered (set_number x) (set_values x)
set_answered = answered set_number set_values (λ x. refl) (λ r. refl) (λ r. refl)

lookup_answered : (x : Result Located Refusal) → Answered (lookup_number x) (lookup_values x)
lookup_answered = answered lookup_number lookup_values (λ x. refl) (λ r. refl) (λ r. refl)

element_answered : (x : Result ℕ Refusal) → Answered (element_number x) (element_values x)
element_answered = answered element_number element_values (λ x. refl) (λ r. refl) (λ r. refl)

span_answered : (x : Result Span Refusal) → Answered (span_number x) (span_values x)
span_answered = answered span_number span_values (λ x. refl) (λ r. refl) (λ r. refl)

integer_answered : (x : Result ℤ Refusal) → Answered (integer_number x) (integer_values x)
integer_answered = answered integer_number integer_values (λ x. refl) (λ r. refl) (λ r. refl)

title_answered : (x : Result Span Refusal) → Answered (title_number x) (title_values x)
title_answered = answered title_number title_values (λ x. refl) (λ r. refl) (λ r. refl)

identifier_answered : (x : Result Identifier Refusal) → Answered (identifier_number x) (identifier_values x)
identifier_answered = answered identifier_number identifier_values (λ x. refl) (λ r. refl) (λ r. refl)

first_answered : (x : Result (Option Span) Refusal) → Answered (first_number x) (first_values x)
first_answered (Ok (Some t)) = fine (first_values (Ok (Some t)))
first_answered (Ok None) = fine []
first_answered (Err r) = refused r

label_answered : (index header : List ℕ) (x : Result Label Refusal) → Answered (label_number x) (label_part index header x)
label_answered index header (Ok (InHeader t)) = fine (label_part index header (Ok (InHeader t)))
label_answered index header (Ok (InIndex t)) = fine (label_part index header (Ok (InIndex t)))
label_answered index header (Err r) = refused r

-- ---- what a refusal leaves

packed_kept : (x : Result RunSize Refusal) (new old : List ℕ) → Kept (pack_number x) old (if_packed x new old)
packed_kept (Ok size) new old refuses = absurd (refuses refl)
packed_kept (Err r) new old refuses = refl

unpacked_kept : (x : Result RunSize Refusal) (codes out : List ℕ) → Kept (unpack_number x) out (if_unpacked x codes out)
unpacked_kept (Ok size) codes out refuses = absurd (refuses refl)
unpacked_kept (Err r) codes out refuses = refl

decoded_kept : (x : Result ℕ Refusal) (residues out : List ℕ) → Kept (decode_number x) out (written_by x residues out)
decoded_kept (Ok l) residues out refuses = absurd (refuses refl)
decoded_kept (Err r) residues out refuses = refl

-- a results range: a refusal has no values to put there
results_kept : (number : ℕ) (values results : List ℕ) → Answered number values → Kept number results (results_put values results)
results_kept number values results a n = rw (a.alone n) (put_nothing results)

-- ---- packing and unpacking

module _ (alphabet : ℕ) (codes : List ℕ) where
  -- `check_pack`, which returns no values
  pub check_pack_call : (room at : ℕ) → Numbered (checked_number (checked_by (pack_rules alphabet codes room at)))
  check_pack_call room at = checked_answered (checked_by (pack_rules alphabet codes room at))

  -- `pack_answer`
  pub pack_answer_call : (room at : ℕ) →
      let answer = pack_answer alphabet codes room at in
      Answered (pack_number answer) (pack_values answer)
  pack_answer_call room at = pack_answered (pack_answer alphabet codes room at)

  -- `pack` and its packet buffer
  pub pack_call_lem : (packets : List ℕ) (at : ℕ) →
      let answer = pack_answer alphabet codes (length packets) at in
      Answered (pack_number answer) (pack_values answer) × Kept (pack_number answer) packets (packets_after alphabet codes packets at)
  unfolding packets_after
  pack_call_lem packets at =
      let answer = pack_answer alphabet codes (length packets) at in
      (pack_answered answer, packed_kept answer (written_at at (run alphabet codes) packets) packets)

  -- `pack_bytes` and its buffer of bytes
  pub pack_bytes_call_lem : (bytes : List ℕ) (at : ℕ) →
      let answer = pack_bytes_answer alphabet codes bytes at in
      Answered (pack_number answer) (pack_values answer) × Kept (pack_number answer) bytes (bytes_after alphabet codes bytes at)
  unfolding bytes_after
  pack_bytes_call_lem bytes at =
      let answer = pack_bytes_answer alphabet codes bytes at in
      (pack_answered answer, packed_kept answer (written_at (byte_of 0 at) (bytes_of (run alphabet codes)) bytes) bytes)

  -- `gull_pack`, its buffer and its results
  pub gull_pack_call_lem : (buffer : List ℕ) (at : ℕ) (results : List ℕ) →
      let answer = console_pack alphabet codes buffer at (length results) in
      Answered (pack_number answer) (pack_values answer)
      × Kept (pack_number answer) buffer (console_buffer alphabet codes buffer at (length results))
      × Kept (pack_number answer) results (pack_results answer results)
  unfolding console_buffer
  gull_pack_call_lem buffer at results =
      let answer = console_pack alphabet codes buffer at (length results) in
      let a = pack_answered answer in (
        a,
        packed_kept answer (written_at (byte_of 0 at) (bytes_of (run alphabet codes)) buffer) buffer,
        results_kept (pack_number answer)
            (pack_values answer) results a,
      )

module _ (alphabet : ℕ) where
  -- `unpack` and its output
  pub unpack_call_lem : (packets out : List ℕ) →
      let answer = unpack_answer alphabet packets (length out) in
      Answered (unpack_number answer) (unpack_values answer) × Kept (unpack_number answer) out (codes_after alphabet packets out)
  unfolding codes_after
  unpack_call_lem packets out =
      let answer = unpack_answer alphabet packets (length out) in
      (unpack_answered answer, unpacked_kept answer (unpacked packets) out)

  -- `read_run`
  pub read-run_call : (order : Order) (bytes : List ℕ) → Answered (run_number (run_in order alphabet bytes)) (run_values (run_in order alphabet bytes))
  read-run_call order bytes = run_answered (run_in order alphabet bytes)

  -- `unpack_bytes_answer`
  pub unpack_bytes_answer_call : (bytes : List ℕ) (room : ℕ) →
      let answer = unpack_bytes_answer alphabet bytes room in
      Answered (unpack_number answer) (unpack_values answer)
  unpack_bytes_answer_call bytes room = unpack_answered (unpack_bytes_answer alphabet bytes room)

  -- `unpack_bytes` and its output
  pub unpack_bytes_call_lem : (bytes out : List ℕ) →
      let answer = unpack_bytes_answer alphabet bytes (length out) in
      Answered (unpack_number answer) (unpack_values answer) × Kept (unpack_number answer) out (codes_after_bytes alphabet bytes out)
  unfolding codes_after_bytes
  unpack_bytes_call_lem bytes out =
      let answer = unpack_bytes_answer alphabet bytes (length out) in
      (unpack_answered answer, unpacked_kept answer (unpacked (packets_of bytes)) out)

  -- `gull_unpack`, its output and its results
  pub gull_unpack_call_lem : (packets codes results : List ℕ) →
      let answer = console_unpack alphabet packets (length codes) (length results) in
      Answered (unpack_number answer) (unpack_values answer)
      × Kept (unpack_number answer) codes (console_codes alphabet packets codes (length results))
      × Kept (unpack_number answer) results (unpack_results answer results)
  unfolding console_codes
  gull_unpack_call_lem packets codes results =
      let answer = console_unpack alphabet packets (length codes) (length results) in
      let a = unpack_answered answer in
      (a, unpacked_kept answer (unpacked (packets_of packets)) codes, results_kept (unpack_number answer) (unpack_values answer) results a)

-- ---- volumes

-- `check_volume`
pub check_volume_call : (index sequence header : List ℕ) →
    let answer = volume_answer index sequence header in
    Answered (volume_number answer) (volume_values answer)
check_volume_call index sequence header = volume_answered (volume_answer index sequence header)

-- `read_index`
pub read_index_call : (index : List ℕ) → Answered (index_number (index_answer index)) (index_values (index_answer index))
read_index_call index = index_answered (index_answer index)

-- `gull_check_volume` and its results
pub gull_check_volume_call : (index sequence header results : List ℕ) →
    let answer = console_volume index sequence header (length results) in
    Answered (volume_number answer) (volume_values answer) × Kept (volume_number answer) results (volume_results answer results)
gull_check_volume_call index sequence header results =
    let answer = console_volume index sequence header (length results) in
    let a = volume_answered answer in
    (a, results_kept (volume_number answer) (volume_values answer) results a)

-- `decode` and its output; `gull_time_decode` answers the same
pub decode_call : (index sequence : List ℕ) (number : ℕ) (out : List ℕ) →
    let answer = decode_answer index sequence number (length out) in
    Answered (decode_number answer) (decode_values answer) × Kept (decode_number answer) out (decode_output index sequence number out)
unfolding decode_output
decode_call index sequence number out =
    let answer = decode_answer index sequence number (length out) in
    (decode_answered answer, decoded_kept answer (residues_of index sequence number) out)

-- `write_listing`, which refuses nothing: a volume's number shows in its text, and a refused volume's text has its number only
pub write_listing_call : (index sequence header : List ℕ) →
    let number = volume_number (listed_answer index sequence header) in
    Numbered number × (Refuses number → listing_text index sequence header ≡ refused_text number)
unfolding listing_text
write_listing_call index sequence header = shown (listed_answer index sequence header)
  where
    shown : (x : Result VolumeRecord Refusal) → Numbered (volume_number x) × (Refuses (volume_number x) → answer_text index sequence x ≡ refused_text (volume_number x))
    shown (Ok v) = (inl refl, λ refuses. absurd (refuses refl))
    shown (Err r) = (inr (cause-numbered r), λ refuses. refl)

-- ---- sets

-- `read_record`
pub read-record_call : (order : Order) (file : List ℕ) (start end : ℕ)
    → Answered (texts_number (texts_in order file start end)) (texts_values (texts_in order file start end))
read-record_call order file start end = texts_answered (texts_in order file start end)

-- `check_set`
pub check_set_call : (index metadata sequence : List ℕ) →
    let answer = set_check index metadata sequence in
    Answered (set_number answer) (set_values answer)
check_set_call index metadata sequence = set_answered (set_check index metadata sequence)

-- `lookup`
pub lookup_call : (set : SetRecord) (index : List ℕ) (number : ℕ) →
    let answer = lookup_of set index number in
    Answered (lookup_number answer) (lookup_values answer)
lookup_call set index number = lookup_answered (lookup_of set index number)

-- `gull_time_check_set` and its results
pub gull_time_check_set_call : (index metadata sequence results : List ℕ) →
    let answer = timed_set index metadata sequence (length results) in
    Answered (set_number answer) (set_values answer) × Kept (set_number answer) results (set_results answer results)
gull_time_check_set_call index metadata sequence results =
    let answer = timed_set index metadata sequence (length results) in
    let a = set_answered answer in
    (a, results_kept (set_number answer) (set_values answer) results a)

-- ---- header records

-- `element`, `integer` and `text`
pub element_call : (form : Form) (s : List ℕ) (at : ℕ) → Answered (element_number (read 16 form s at)) (element_values (read 16 form s at))
element_call form s at = element_answered (read 16 form s at)

pub integer_call : (s : List ℕ) (at : ℕ) → Answered (integer_number (integer_at s at)) (integer_values (integer_at s at))
integer_call s at = integer_answered (integer_at s at)

pub text_call : (s : List ℕ) (at : ℕ) → Answered (span_number (text_at s at)) (span_values (text_at s at))
text_call s at = span_answered (text_at s at)

module _ (header : List ℕ) (start end : ℕ) where
  -- `check_record`, which returns no values
  pub check_record_call : Numbered (checked_number (check_record header start end))
  check_record_call = checked_answered (check_record header start end)

  -- `title`
  pub title_call : (given : ℕ) → Answered (title_number (title_of header start end given)) (title_values (title_of header start end given))
  title_call given = title_answered (title_of header start end given)

  -- `find_identifier`
  pub identifier_call : (number : ℕ) →
      let answer = identifier_of header start end number in
      Answered (identifier_number answer) (identifier_values answer)
  identifier_call number = identifier_answered (identifier_of header start end number)

  -- `first_title`
  pub first-title_call : Answered (first_number (first_of header start end)) (first_values (first_of header start end))
  first-title_call = first_answered (first_of header start end)

  -- `next_title` and `step_on`: on a refusal the walker's place is as it was
  pub step_call : (given : ℕ) →
      let step = step_of header start end given in
      Answered (step_number step) (step_values step) × (Refuses (step_number step) → step.after ≡ place start end given)
  unfolding step_of
  step_call given = (title_answered (title_of header start end given), place_kept (title_of header start end given))
    where
      place_kept : (x : Result Span Refusal) → Refuses (title_number x) → place_after x start end given ≡ place start end given
      place_kept (Ok t) n = absurd (n refl)
      place_kept (Err r) n = refl

-- `label_number`, `label_part` and `find_label`: on a refusal the part is empty
pub label_call : (index header : List ℕ) (number : ℕ) →
    let answer = label_of index header number in
    Answered (label_number answer) (label_part index header answer)
label_call index header number = label_answered index header (label_of index header number)
