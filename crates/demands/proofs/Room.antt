-- How much room packing takes (request 2026-08): the packing rule gives a shortest run, its length by the number of residues, and that a buffer of
-- so many packets is enough and one of fewer is not. Assumes nothing.
use Rattle.std.specs.Prelude.{Ok}
use mathlib.Core.Path.{◌≡◌, refl, sym, ap, ◌∙◌}
use mathlib.Core.Bool.{true, false}
use mathlib.Core.List.{List, [], ◌∷◌, ◌++◌, append_assoc}
use Prim.Native.Nat.{ℕ, ◌+◌, ◌/◌, ◌^◌, ◌≤◌, ◌<◌}
use native.Mathlib.Omega.{arith}
use lib.Dec.{leb}
use lib.ListN.{length, drop, get_or, replicate, length-append}
use lib.Seq.{take_at}
use borrow.Author.Tests.{leb-true, leb-false}
use Rattle.laws.specs.Digits.{digits, all_below}
use Rattle.laws.specs.Writing.{written_at}
use Rattle.laws.proofs.Tests.{bool_cases}
use Rattle.laws.proofs.Digits.{below_all}
use Rattle.laws.proofs.Rules.{hold-first, hold-second}
use Rattle.fields.specs.Number.{little, unsigned_at}
use Rattle.fields.specs.Written.{little_bytes}
use Rattle.fields.proofs.Laws.{length-little, number_back}
use Rattle.residues.specs.Alphabets.{is_amino, valid_codes}
use Rattle.packets.specs.Packing.{run, sixths, sixes, plain_packets}
use Rattle.packets.specs.Runs.{before_fill, residues, only_fill, valid_tailed, inner, final, formed, well_formed, unpacked}
use Rattle.packets.proofs.Packing.{run-some}
use Rattle.packets.proofs.Rules.{formed_rules, rules_formed}
use Rattle.packets.proofs.Lengths.{run-most, run_amino, run-above, run-plain}
use Rattle.packets.proofs.Shortest.{none_shorter_lem}
use Rattle.runs.specs.declared.RunSize.{RunSize}
use Rattle.runs.specs.Answers.{pack_rules, packed_size, pack_answer, pack_number, pack_values}
use Rattle.runs.specs.Rules.{Packable}
use Rattle.runs.proofs.Answers.{may_pack, pack_done}
use Rattle.runs.proofs.Rules.{rules_pack, rules_full, fits-not_full}
use Rattle.console.specs.Results.{result_bytes}
use Rattle.console.specs.Calls.{console_pack, pack_results, results_rule}
use Rattle.console.proofs.Calls.{pack_room}
use Rattle.demands.specs.Packets.{PackCall, pack_call, pack_bytes_call, gull_pack_call}
use Rattle.demands.specs.Room.{RunOf, ShortestRun, RoundedUp, RoomDecides}
use Rattle.demands.proofs.Order.{pack_order, gull_pack_order}
use Rattle.demands.proofs.LargeFirst.{pack_large}
use Rattle.demands.proofs.Demand2Packets.{residues_packed}
use Rattle.demands.proofs.Demand2Console.{two_fit, two_told}

-- ---- the shortest run

-- No well-formed run that unpacks to the same codes in the same alphabet is shorter than the one that the packing rule gives.
pub no_run_shorter : (alphabet : ℕ) (codes packets : List ℕ) → RunOf alphabet codes packets → length (run alphabet codes) ≤ length packets
no_run_shorter alphabet codes packets r = rw (← r.unpacks) (none_shorter_lem alphabet packets (rules_formed alphabet packets r.well_formed))

-- Of valid codes it is one itself.
pub run_shortest : (alphabet : ℕ) (codes : List ℕ) → valid_codes alphabet codes ≡ true → ShortestRun alphabet codes (run alphabet codes)
run_shortest alphabet codes v =
    let packed = residues_packed alphabet codes v in
    record {
      is_run = record { well_formed = formed_rules alphabet (run alphabet codes) packed.0; unpacks = packed.1 };
      none_shorter = no_run_shorter alphabet codes;
    }

-- Fifteen A's in three 5-bit packets are a run of them too, and a longer one.
pub longer_run : RunOf 1 (replicate 15 0) (0x40000000 ∷ 0x40000000 ∷ 0xC0007FFF ∷ [])
unfolding well_formed formed inner final digits all_below valid_tailed only_fill residues before_fill unpacked
longer_run = record { well_formed = formed_rules 1 (0x40000000 ∷ 0x40000000 ∷ 0xC0007FFF ∷ []) refl; unpacks = refl }

-- Twenty-one A's as six and fifteen, where the rule has fifteen and six: another run, as long as the rule's.
pub run_as_long : RunOf 1 (replicate 21 0) (0x40000000 ∷ 0x80000000 ∷ [])
unfolding well_formed formed inner final digits all_below valid_tailed only_fill residues before_fill unpacked
run_as_long = record { well_formed = formed_rules 1 (0x40000000 ∷ 0x80000000 ∷ []) refl; unpacks = refl }

-- ---- its length

-- L/6 rounded up
pub sixths_rounded : (n : ℕ) → RoundedUp n 6 (sixths n)
sixths_rounded n = record { reaches = omega arith; least = λ m h. omega arith }

-- Protein takes the larger of 1 and L/6 rounded up.
pub protein_takes : (codes : List ℕ) → length (run 3 codes) ≡ sixes (length codes)
protein_takes codes = run_amino 3 codes refl

-- Nucleic takes at most that.
pub nucleic_takes : (alphabet : ℕ) (codes : List ℕ) → length (run alphabet codes) ≤ sixes (length codes)
nucleic_takes = run-most

-- Nucleic codes all below 4, L above 0, take exactly L/15 rounded down plus (L mod 15)/6 rounded up.
pub plain_takes : (alphabet : ℕ) (codes : List ℕ) → is_amino alphabet ≡ false → ((k : ℕ) → k < length codes → get_or codes k 0 < 4) → 0 < length codes
    → length (run alphabet codes) ≡ plain_packets (length codes)
plain_takes alphabet codes nucleic below some = run-plain alphabet nucleic codes (below_all 4 codes below) some

-- No residues take one packet.
pub none_takes : (alphabet : ℕ) → length (run alphabet []) ≡ 1
none_takes alphabet = omega (arith, run-most alphabet [], run-some alphabet [])

-- Codes of which none is below 4, as N, take the most that nucleic codes can: the larger of 1 and L/6 rounded up.
pub most-taken : (alphabet : ℕ) (codes : List ℕ) → ((k : ℕ) → k < length codes → 4 ≤ get_or codes k 0) → length (run alphabet codes) ≡ sixes (length codes)
most-taken = run-above

-- ---- the number reported, and room for it

-- a call whose number and report are those of packing with so much room
module _ (call : PackCall) (codes buffer : List ℕ) (room place : ℕ) where
  abbrev a : ℕ
  a = call.alphabet

  decides : call.number codes buffer place ≡ pack_number (pack_answer a codes room place)
      → ((size : RunSize) → pack_answer a codes room place ≡ Ok size
      → call.returned codes buffer place ≡ call.as_returned (size.packets ∷ size.residues ∷ []))
      → RoomDecides call codes buffer room place
  decides same told = record {
    enough = λ h e. fits-not_full a codes room place h (sym same ∙ e);
    succeeds = λ ok h. same ∙ rw (rules_pack a codes room place (record { packable = ok; fits = h }));
    too_few = λ ok h. same ∙ rw (rules_full a codes room place ok h);
    reports = λ e.
        let may = may_pack a codes room place ((pack_order a codes room place).passes.0 (sym same ∙ e)) in
        told (packed_size a codes) (pack_done a codes room place may);
  }

-- The larger of 1 and L/6 rounded up is enough for any codes.
pub sixes-enough : (call : PackCall) (codes buffer : List ℕ) (room place : ℕ) → RoomDecides call codes buffer room place
    → place + sixes (length codes) ≤ room → call.number codes buffer place ≡ 13 → ⊥
sixes-enough call codes buffer room place d h = d.enough (omega (arith, run-most call.alphabet codes))

-- `pack` into packets, `pack_bytes` into bytes, of which four are a packet
pub pack_room_decides : (alphabet : ℕ) (codes packets : List ℕ) (place : ℕ) → RoomDecides (pack_call alphabet) codes packets (length packets) place
pack_room_decides alphabet codes packets place = decides (pack_call alphabet) codes packets (length packets) place refl (λ size e. rw e)

pub bytes-room_decides : (alphabet : ℕ) (codes bytes : List ℕ) (place : ℕ) → RoomDecides (pack_bytes_call alphabet) codes bytes (length bytes / 4) place
bytes-room_decides alphabet codes bytes place = decides (pack_bytes_call alphabet) codes bytes (length bytes / 4) place refl (λ size e. rw e)

-- `gull_pack`, with a results range of at least 16 bytes; a shorter one is 13 by itself
pub gull_room_decides : (alphabet : ℕ) (codes buffer : List ℕ) (place : ℕ) (results : List ℕ) → 16 ≤ length results
    → RoomDecides (gull_pack_call alphabet results) codes buffer (length buffer / 4) place
gull_room_decides alphabet codes buffer place results enough =
    let same = pack_room alphabet codes buffer place (length results) (two_fit results enough) in
    decides (gull_pack_call alphabet results) codes buffer (length buffer / 4) place (ap pack_number same)
    (λ size e. rw same (two_told results enough _ size.packets size.residues (rw e)))

-- the first of two results, read back
first_read : (n l : ℕ) (results : List ℕ) → 16 ≤ length results → n < 2 ^ 64
    → unsigned_at little 8 (written_at 0 (result_bytes (n ∷ l ∷ [])) results) 0 ≡ n
first_read n l results enough few =
    let more = little_bytes 8 l ++ [] in
    let rest = drop (0 + length (result_bytes (n ∷ l ∷ []))) results in
    let first = little_bytes 8 n in
    let eight : length first ≡ 8 = length-little 8 n in
    let apart : written_at 0 (result_bytes (n ∷ l ∷ [])) results ≡ first ++ (more ++ rest) = append_assoc first more rest in
    rw apart
    (number_back little 8 n (first ++ (more ++ rest)) 0 (omega (arith, length-append first (more ++ rest), eight)) few
    (take_at first (more ++ rest) 8 eight))

-- Where `gull_pack` succeeds, its first result is the length of the run.
pub gull_reports : (alphabet : ℕ) (codes buffer : List ℕ) (place : ℕ) (results : List ℕ) →
    let answer = console_pack alphabet codes buffer place (length results) in
    pack_number answer ≡ 0 → unsigned_at little 8 (pack_results answer results) 0 ≡ length (run alphabet codes)
gull_reports alphabet codes buffer place results e =
    let rules = pack_rules alphabet codes (length buffer / 4) place in
    let all = (gull_pack_order alphabet codes buffer place (length results)).passes.0 e in
    let may = may_pack alphabet codes (length buffer / 4) place (hold-first rules (results_rule 2 (length results)) all) in
    let enough : 16 ≤ length results = leb-true 16 (length results) (hold-second rules (results_rule 2 (length results)) all).0 in
    let n = length (run alphabet codes) in
    let few : n < 2 ^ 64 = omega (arith, run-most alphabet codes, may.small) in
    rw ((gull_room_decides alphabet codes buffer place results enough).reports e) (first_read n (length codes) results enough few)

-- ---- the number without a buffer

-- `pack_answer` with the largest room, at place 0, is never refused with 13.
pub largest-room : (alphabet : ℕ) (codes : List ℕ) → pack_number (pack_answer alphabet codes 18446744073709551615 0) ≡ 13 → ⊥
largest-room alphabet codes e =
    bool_cases (leb (length codes) 2147483647)
    (λ h. fits-not_full alphabet codes 18446744073709551615 0 (omega (arith, run-most alphabet codes, leb-true (length codes) 2147483647 h)) e)
    (λ h. let z : ⊥ = omega (arith, pack_large alphabet codes 18446744073709551615 0 (leb-false (length codes) 2147483647 h)) in absurd z)

-- With an alphabet and codes that packing takes it gives the length of the run, and L.
pub largest-room_gives : (alphabet : ℕ) (codes : List ℕ) → Packable alphabet codes
    → pack_values (pack_answer alphabet codes 18446744073709551615 0) ≡ length (run alphabet codes) ∷ length codes ∷ []
largest-room_gives alphabet codes ok =
    rw (rules_pack alphabet codes 18446744073709551615 0 (record { packable = ok; fits = omega (arith, run-most alphabet codes, ok.input_size) }))
