-- Demand 2 for the console's packing and unpacking: with results ranges of at least 16 bytes they do what `pack_bytes` and `unpack_bytes` do, and leave
-- both values in those ranges. Assumes nothing.
use mathlib.Core.Path.{◌≡◌, ◌∙◌}
use mathlib.Core.Bool.{true}
use mathlib.Core.List.{List, [], ◌∷◌}
use Prim.Native.Nat.{ℕ, ◌+◌, ◌/◌, ◌≤◌}
use lib.ListN.{length}
use borrow.Author.Tests.{le-leb}
use Rattle.laws.specs.Digits.{all_below}
use Rattle.laws.specs.Writing.{written_at}
use Rattle.fields.specs.Number.{little}
use Rattle.packets.specs.Packing.{run}
use Rattle.packets.specs.Runs.{unpacked}
use Rattle.packets.specs.Bytes.{packets_of, bytes_of}
use Rattle.packets.proofs.Bytes.{length-packets}
use Rattle.runs.specs.Rules.{Packs}
use Rattle.runs.proofs.Rules.{run_must}
use Rattle.byte_runs.specs.Rules.{UnpacksBytes}
use Rattle.console.specs.Results.{result_bytes, room_for, results_put}
use Rattle.console.proofs.Values.{put_room}
use Rattle.console.proofs.Calls.{pack_room, buffer_room, unpack_room, codes-room}
use Rattle.demands.specs.Packets.{gull_pack_call, gull_unpack_call, PacksAndUnpacks, UnpacksAndPacks, UnpacksAgain}
use Rattle.demands.proofs.Demand2Packets.{PackLaws, UnpackLaws, FewBytes, pack_bytes_laws, unpack_bytes_laws, amino_bytes}
use Rattle.demands.proofs.Demand2Packets.{may_of, packs-unpacks, unpacks-packs, unpacks_again}

-- a results range with room for two values
module _ (results : List ℕ) (enough : 16 ≤ length results) where
  pub two_fit : room_for 2 (length results) ≡ true
  two_fit = le-leb 16 (length results) enough

  pub two_told : (values : List ℕ) (packets residues : ℕ) → values ≡ packets ∷ residues ∷ []
      → results_put values results ≡ written_at 0 (result_bytes (packets ∷ residues ∷ [])) results
  two_told values packets residues e = rw e (put_room (packets ∷ residues ∷ []) results enough)

  gull_pack_laws : (a : ℕ) (buffer : List ℕ) → length buffer ≤ 18446744073709551615 → PackLaws (gull_pack_call a results) bytes_of buffer (length buffer / 4)
  gull_pack_laws a buffer short = record {
    packs = λ codes place m.
        let x = (pack_bytes_laws a buffer short).packs codes place m in
        let same = pack_room a codes buffer place (length results) two_fit in
        record {
          succeeds = rw same x.succeeds;
          returns = rw same (two_told _ (length (run a codes)) (length codes) x.returns);
          leaves = buffer_room a codes buffer place (length results) two_fit ∙ x.leaves;
        };
    there = λ codes place m. rw (buffer_room a codes buffer place (length results) two_fit) ((pack_bytes_laws a buffer short).there codes place m);
  }

  gull_unpack_laws : (a : ℕ) → UnpackLaws a (gull_unpack_call a results) bytes_of FewBytes
  gull_unpack_laws a = record {
    unpacks = λ bytes out few m.
        let x = (unpack_bytes_laws a).unpacks bytes out few m in
        let same = unpack_room a bytes (length out) (length results) two_fit in
        record {
          succeeds = rw same x.succeeds;
          returns = rw same (two_told _ (length (packets_of bytes)) (length (unpacked (packets_of bytes))) x.returns);
          leaves = codes-room a bytes out (length results) two_fit ∙ x.leaves;
        };
    allowed = (unpack_bytes_laws a).allowed;
    read_back = (unpack_bytes_laws a).read_back;
  }

-- Valid codes, packed into a buffer with room and unpacked into an output with room, come back.
pub gull_pack_unpack : (a : ℕ) (codes buffer : List ℕ) (place : ℕ) (results out results' : List ℕ) → length codes ≤ length out
    → length buffer ≤ 18446744073709551615 → 16 ≤ length results → 16 ≤ length results' → Packs a codes (length buffer / 4) place
    → PacksAndUnpacks (gull_pack_call a results) (gull_unpack_call a results') codes buffer place out
gull_pack_unpack a codes buffer place results out results' h short k k' r =
    packs-unpacks (gull_pack_call a results) bytes_of buffer (length buffer / 4) place (gull_pack_laws results k a buffer short)
    (gull_unpack_call a results') FewBytes (gull_unpack_laws results' k' a) codes out (may_of a codes (length buffer / 4) place r) h

-- A well-formed amino run, unpacked and packed again into a buffer with room, comes back byte for byte.
pub gull_unpack_pack : (bytes out results buffer : List ℕ) (place : ℕ) (results' : List ℕ) → all_below 256 bytes ≡ true → UnpacksBytes 3 bytes (length out)
    → length (unpacked (packets_of bytes)) ≤ 2147483647 → length buffer ≤ 18446744073709551615 → place + length bytes / 4 ≤ length buffer / 4
    → 16 ≤ length results → 16 ≤ length results' → UnpacksAndPacks (gull_unpack_call 3 results) (gull_pack_call 3 results') bytes out buffer place
gull_unpack_pack bytes out results buffer place results' b r small short h k k' =
    let whole = amino_bytes bytes (length out) b r in
    unpacks-packs (gull_pack_call 3 results') bytes_of buffer (length buffer / 4) place (gull_pack_laws results' k' 3 buffer short)
    (gull_unpack_call 3 results) FewBytes (gull_unpack_laws results k 3)
    bytes out (r.input_size, r.whole) (run_must 3 (packets_of bytes) (length out) r.run) small whole.0 whole.1 (rw (length-packets little bytes) h)

-- The residues of any well-formed run, packed into a buffer with room and unpacked again, come back: nucleic runs too.
pub gull_unpack_again : (a : ℕ) (bytes out results buffer : List ℕ) (place : ℕ) (results' again results'' : List ℕ) → UnpacksBytes a bytes (length out)
    → length (unpacked (packets_of bytes)) ≤ 2147483647 → length buffer ≤ 18446744073709551615
    → place + length (run a (unpacked (packets_of bytes))) ≤ length buffer / 4 → length (unpacked (packets_of bytes)) ≤ length again
    → 16 ≤ length results → 16 ≤ length results' → 16 ≤ length results''
    → UnpacksAgain (gull_unpack_call a results) (gull_pack_call a results') (gull_unpack_call a results'') bytes out buffer place again
gull_unpack_again a bytes out results buffer place results' again results'' r small short h enough k k' k'' =
    unpacks_again (gull_pack_call a results') bytes_of buffer (length buffer / 4) place (gull_pack_laws results' k' a buffer short)
    (gull_unpack_call a results) FewBytes (gull_unpack_laws results k a)
    bytes out (r.input_size, r.whole) (run_must a (packets_of bytes) (length out) r.run) small
    (gull_unpack_call a results'') FewBytes (gull_unpack_laws results'' k'' a) again h enough
