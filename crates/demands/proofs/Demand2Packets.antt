-- Demand 2 for packing and unpacking, over packets and over bytes; the console's calls are in Demand2Console. The round trips are proved once, for any
-- calls that do what packing and unpacking do (`PackLaws`, `UnpackLaws`). Assumes nothing.
use mathlib.Core.Path.{◌≡◌, refl, ap, ◌∙◌}
use mathlib.Core.Bool.{true}
use mathlib.Core.List.{List, ◌++◌, append_assoc}
use Prim.Native.Nat.{ℕ, ◌+◌, ◌/◌, ◌%◌, ◌^◌, ◌≤◌}
use native.Mathlib.Omega.{arith}
use lib.ListN.{length, take, drop}
use lib.Seq.{take_at, drop_at, length-take-le}
use Rattle.laws.specs.Digits.{all_below}
use Rattle.laws.specs.Writing.{written_at}
use Rattle.residues.specs.Alphabets.{valid_codes}
use Rattle.fields.specs.Number.{little}
use Rattle.packets.specs.Positions.{byte_of}
use Rattle.packets.specs.Packing.{run}
use Rattle.packets.specs.Runs.{well_formed, unpacked}
use Rattle.packets.specs.Bytes.{packets_of, bytes_of}
use Rattle.packets.proofs.Round.{run-formed, unpacked-run, run-below}
use Rattle.packets.proofs.Shapes.{unpacked-valid}
use Rattle.packets.proofs.Back.{amino_back}
use Rattle.packets.proofs.Lengths.{run-most}
use Rattle.packets.proofs.Bytes.{length-packets, length-bytes, packets-below, packets-bytes}
use Rattle.packets.proofs.Packing.{run-some}
use Rattle.runs.specs.Answers.{packed_size, unpacked_size}
use Rattle.runs.specs.Rules.{Packs, Unpacks}
use Rattle.runs.proofs.Answers.{MayPack, MayUnpack, pack_done, packed_may, packets_written, unpack_as, run-done, codes_written}
use Rattle.runs.proofs.Rules.{rules_pack, run_must}
use Rattle.byte_runs.specs.Rules.{UnpacksBytes}
use Rattle.byte_runs.proofs.Answers.{bytes_written, unpack_bytes_as, codes-bytes_written}
use Rattle.byte_runs.proofs.Stores.{bytes-packets}
use Rattle.demands.specs.Packets.{PackCall, pack_call, pack_bytes_call, UnpackCall, unpack_call, unpack_bytes_call, PacksAs, UnpacksAs}
use Rattle.demands.specs.Packets.{range_packed, codes_unpacked, PacksAndUnpacks, UnpacksAndPacks, UnpacksAgain}

-- ---- over the definitions

-- Valid residues give a well-formed run that unpacks to them.
pub residues_packed : (alphabet : ℕ) (codes : List ℕ) → valid_codes alphabet codes ≡ true
    → (well_formed alphabet (run alphabet codes) ≡ true) × (unpacked (run alphabet codes) ≡ codes)
residues_packed alphabet codes v = (run-formed alphabet codes v, unpacked-run alphabet codes v)

-- A well-formed amino run packs back to itself.
pub amino_packed_back : (packets : List ℕ) → all_below (2 ^ 32) packets ≡ true → well_formed 3 packets ≡ true → run 3 (unpacked packets) ≡ packets
amino_packed_back packets b e = amino_back 3 packets refl b e

-- A well-formed run's residues, packed, unpack to the same residues: nucleic runs too.
pub residues_again : (alphabet : ℕ) (packets : List ℕ) → well_formed alphabet packets ≡ true → unpacked (run alphabet (unpacked packets)) ≡ unpacked packets
residues_again alphabet packets e = unpacked-run alphabet (unpacked packets) (unpacked-valid alphabet packets e)

-- ---- over any calls

-- what was written at a place stands there
written_there : (place : ℕ) (new old : List ℕ) → place + length new ≤ length old → take (length new) (drop place (written_at place new old)) ≡ new
written_there place new old h =
    let rest = drop (place + length new) old in
    let l : length (take place old) ≡ place = length-take-le place old (omega arith) in
    let d : drop place (written_at place new old) ≡ new ++ rest =
    ap (λ (x : List ℕ). drop place x) (append_assoc (take place old) new rest) ∙ drop_at (take place old) (new ++ rest) place l in
    rw d (take_at new rest (length new) refl)

pub may_of : (a : ℕ) (codes : List ℕ) (room place : ℕ) → Packs a codes room place → MayPack a codes room place
may_of a codes room place r = packed_may a codes room place (packed_size a codes) (rules_pack a codes room place r)

-- A packing call that does what packing does, into one buffer with so many packets of room; `lent` are packets as the buffer holds them.
pub record PackLaws (call : PackCall) (lent : List ℕ → List ℕ) (buffer : List ℕ) (room : ℕ) : Type 0 where
  pub packs : (codes : List ℕ) (place : ℕ) → MayPack call.alphabet codes room place
      → PacksAs call codes buffer place (length (run call.alphabet codes)) (lent (run call.alphabet codes))
  pub there : (codes : List ℕ) (place : ℕ) → MayPack call.alphabet codes room place → range_packed call codes buffer place ≡ lent
      (run call.alphabet codes)

-- An unpacking call that does what unpacking does, on ranges of a length that is allowed.
pub record UnpackLaws (alphabet : ℕ) (call : UnpackCall) (lent : List ℕ → List ℕ) (Allowed : List ℕ → Type 0) : Type 0 where
  pub unpacks : (range out : List ℕ) → Allowed range → MayUnpack alphabet (call.packets_in range) (length out)
      → UnpacksAs call range out (length (call.packets_in range)) (unpacked (call.packets_in range))
  pub allowed : (codes : List ℕ) → length codes ≤ 2147483647 → Allowed (lent (run alphabet codes))
  pub read_back : (packets : List ℕ) → all_below (2 ^ 32) packets ≡ true → call.packets_in (lent packets) ≡ packets

module _ (p : PackCall) (lent : List ℕ → List ℕ) (buffer : List ℕ) (room place : ℕ) (P : PackLaws p lent buffer room) where
  abbrev a : ℕ
  a = p.alphabet

  -- codes packed and unpacked come back
  module _ (u : UnpackCall) (Allowed : List ℕ → Type 0) (U : UnpackLaws a u lent Allowed) (codes out : List ℕ) where
    pub packs-unpacks : MayPack a codes room place → length codes ≤ length out → PacksAndUnpacks p u codes buffer place out
    packs-unpacks m h =
        let L = lent (run a codes) in
        let there = P.there codes place m in
        let again = unpacked-run a codes m.valid in
        let back = U.read_back (run a codes) (run-below a codes m.valid) in
        let may : MayUnpack a (u.packets_in L) (length out) =
        record { known = m.known; formed = rw back (run-formed a codes m.valid); fits = rw (back, again) h } in
        let x : UnpacksAs u L out (length (run a codes)) codes = rw (back, again) at (U.unpacks L out (U.allowed codes m.small) may) in
        record { packs = rw there (P.packs codes place m); unpacks = rw there x }

  -- what was unpacked stands at the start of the output
  module _ (u : UnpackCall) (Allowed : List ℕ → Type 0) (U : UnpackLaws a u lent Allowed) (range out : List ℕ) (ok : Allowed range)
      (m : MayUnpack a (u.packets_in range) (length out)) (small : length (unpacked (u.packets_in range)) ≤ 2147483647) where
    abbrev residues : List ℕ
    residues = unpacked (u.packets_in range)

    codes-there : codes_unpacked u range out ≡ residues
    codes-there = rw (U.unpacks range out ok m).leaves (written_there 0 residues out (omega (arith, m.fits)))

    may_again : place + length (run a residues) ≤ room → MayPack a residues room place
    may_again h = record { small = small; known = m.known; valid = unpacked-valid a (u.packets_in range) m.formed; fits = h }

    -- a run that packs back to itself comes back
    pub unpacks-packs : run a residues ≡ u.packets_in range → lent (u.packets_in range) ≡ range → place + length (u.packets_in range) ≤ room
        → UnpacksAndPacks u p range out buffer place
    unpacks-packs back whole h =
        let x : PacksAs p residues buffer place (length (u.packets_in range)) range =
        rw (back, whole) at (P.packs residues place (may_again (rw back h))) in
        record { unpacks = U.unpacks range out ok m; packs = rw codes-there x }

    -- the residues of any run come back
    pub unpacks_again : (v : UnpackCall) (Allowed' : List ℕ → Type 0) → UnpackLaws a v lent Allowed' → (again : List ℕ) → place + length
        (run a residues) ≤ room
        → length residues ≤ length again → UnpacksAgain u p v range out buffer place again
    unpacks_again v Allowed' W again h enough = record {
      unpacks = U.unpacks range out ok m;
      comes_back = rw codes-there (packs-unpacks v Allowed' W residues again (may_again h) enough);
    }

-- ---- over `pack` and `unpack`

pub pack_laws : (a : ℕ) (buffer : List ℕ) → PackLaws (pack_call a) (λ ps. ps) buffer (length buffer)
pack_laws a buffer = record {
  packs = λ codes place m.
      let e = pack_done a codes (length buffer) place m in
      record { succeeds = rw e; returns = rw e; leaves = packets_written a codes buffer place (packed_size a codes) e };
  there = λ codes place m.
      rw (packets_written a codes buffer place (packed_size a codes) (pack_done a codes (length buffer) place m))
      (written_there place (run a codes) buffer m.fits);
}

abbrev pub FewPackets : List ℕ → Type 0
FewPackets packets = length packets ≤ 536870912

pub unpack_laws : (a : ℕ) → UnpackLaws a (unpack_call a) (λ ps. ps) FewPackets
unpack_laws a = record {
  unpacks = λ packets out few m.
      let e = unpack_as a packets (length out) few ∙ run-done a packets (length out) m in
      record { succeeds = rw e; returns = rw e; leaves = codes_written a packets out (unpacked_size packets) e };
  allowed = λ codes small. omega (arith, run-most a codes);
  read_back = λ packets b. refl;
}

-- Valid codes, packed into a buffer with room and unpacked into an output with room, come back.
pub pack_unpack : (a : ℕ) (codes buffer : List ℕ) (place : ℕ) (out : List ℕ) → length codes ≤ length out → Packs a codes (length buffer) place
    → PacksAndUnpacks (pack_call a) (unpack_call a) codes buffer place out
pack_unpack a codes buffer place out h r =
    packs-unpacks (pack_call a) (λ ps. ps) buffer (length buffer) place (pack_laws a buffer) (unpack_call a) FewPackets (unpack_laws a) codes out
    (may_of a codes (length buffer) place r) h

-- A well-formed amino run, unpacked and packed again into a buffer with room, comes back packet for packet.
pub unpack_pack : (packets out buffer : List ℕ) (place : ℕ) → all_below (2 ^ 32) packets ≡ true → Unpacks 3 packets (length out)
    → length (unpacked packets) ≤ 2147483647 → place + length packets ≤ length buffer → UnpacksAndPacks (unpack_call 3) (pack_call 3) packets out buffer place
unpack_pack packets out buffer place b r small h =
    let m = run_must 3 packets (length out) r.run in
    unpacks-packs (pack_call 3) (λ ps. ps) buffer (length buffer) place (pack_laws 3 buffer) (unpack_call 3) FewPackets (unpack_laws 3)
    packets out r.input_size m small (amino_packed_back packets b m.formed) refl h

-- The residues of any well-formed run, packed into a buffer with room and unpacked again, come back: nucleic runs too.
pub unpack_again : (a : ℕ) (packets out buffer : List ℕ) (place : ℕ) (again : List ℕ) → Unpacks a packets (length out) → length (unpacked packets) ≤ 2147483647
    → place + length (run a (unpacked packets)) ≤ length buffer → length (unpacked packets) ≤ length again
    → UnpacksAgain (unpack_call a) (pack_call a) (unpack_call a) packets out buffer place again
unpack_again a packets out buffer place again r small h enough =
    unpacks_again (pack_call a) (λ ps. ps) buffer (length buffer) place (pack_laws a buffer) (unpack_call a) FewPackets (unpack_laws a)
    packets out r.input_size (run_must a packets (length out) r.run) small (unpack_call a) FewPackets (unpack_laws a) again h enough

-- ---- over `pack_bytes` and `unpack_bytes`: a buffer's length is one that a 64-bit machine can count

pub pack_bytes_laws : (a : ℕ) (buffer : List ℕ) → length buffer ≤ 18446744073709551615 → PackLaws (pack_bytes_call a) bytes_of buffer (length buffer / 4)
pack_bytes_laws a buffer short = record {
  packs = λ codes place m.
      let e = pack_done a codes (length buffer / 4) place m in
      record { succeeds = rw e; returns = rw e; leaves = bytes_written a codes buffer place (packed_size a codes) e };
  there = λ codes place m.
      let R = run a codes in
      let some = run-some a codes in
      let lb = length-bytes R in
      let fits : byte_of 0 place + length (bytes_of R) ≤ length buffer = omega (arith, m.fits) in
      rw (bytes_written a codes buffer place (packed_size a codes) (pack_done a codes (length buffer / 4) place m), ← lb)
      (written_there (byte_of 0 place) (bytes_of R) buffer fits);
}

abbrev pub FewBytes : List ℕ → Type 0
FewBytes bytes = (length bytes ≤ 2147483647) × (length bytes % 4 ≡ 0)

pub unpack_bytes_laws : (a : ℕ) → UnpackLaws a (unpack_bytes_call a) bytes_of FewBytes
unpack_bytes_laws a = record {
  unpacks = λ bytes out few m.
      let ps = packets_of bytes in
      let e = unpack_bytes_as a bytes (length out) few.0 few.1 ∙ run-done a ps (length out) m in
      record { succeeds = rw e; returns = rw e; leaves = codes-bytes_written a bytes out (unpacked_size ps) e };
  allowed = λ codes small.
      let lb = length-bytes (run a codes) in
      (omega (arith, run-most a codes), omega arith);
  read_back = packets-bytes;
}

-- Valid codes come back.
pub pack_unpack_bytes : (a : ℕ) (codes buffer : List ℕ) (place : ℕ) (out : List ℕ) → length codes ≤ length out → length buffer ≤ 18446744073709551615
    → Packs a codes (length buffer / 4) place → PacksAndUnpacks (pack_bytes_call a) (unpack_bytes_call a) codes buffer place out
pack_unpack_bytes a codes buffer place out h short r =
    packs-unpacks (pack_bytes_call a) bytes_of buffer (length buffer / 4) place (pack_bytes_laws a buffer short) (unpack_bytes_call a) FewBytes
    (unpack_bytes_laws a)
    codes out (may_of a codes (length buffer / 4) place r) h

-- whole bytes of an amino run: the run packs back to itself, and to these bytes
pub amino_bytes : (bytes : List ℕ) (room : ℕ) → all_below 256 bytes ≡ true → UnpacksBytes 3 bytes room
    → (run 3 (unpacked (packets_of bytes)) ≡ packets_of bytes) × (bytes_of (packets_of bytes) ≡ bytes)
amino_bytes bytes room b r = (
  amino_packed_back (packets_of bytes) (packets-below bytes b) (run_must 3 (packets_of bytes) room r.run).formed,
  bytes-packets bytes r.whole b,
)

-- A well-formed amino run comes back byte for byte.
pub unpack_pack_bytes : (bytes out buffer : List ℕ) (place : ℕ) → all_below 256 bytes ≡ true → UnpacksBytes 3 bytes (length out)
    → length (unpacked (packets_of bytes)) ≤ 2147483647 → length buffer ≤ 18446744073709551615 → place + length bytes / 4 ≤ length buffer / 4
    → UnpacksAndPacks (unpack_bytes_call 3) (pack_bytes_call 3) bytes out buffer place
unpack_pack_bytes bytes out buffer place b r small short h =
    let k = amino_bytes bytes (length out) b r in
    unpacks-packs (pack_bytes_call 3) bytes_of buffer (length buffer / 4) place (pack_bytes_laws 3 buffer short) (unpack_bytes_call 3) FewBytes
    (unpack_bytes_laws 3)
    bytes out (r.input_size, r.whole) (run_must 3 (packets_of bytes) (length out) r.run) small k.0 k.1 (rw (length-packets little bytes) h)

-- The residues of any well-formed run come back.
pub unpack_again_bytes : (a : ℕ) (bytes out buffer : List ℕ) (place : ℕ) (again : List ℕ) → UnpacksBytes a bytes (length out)
    → length (unpacked (packets_of bytes)) ≤ 2147483647 → length buffer ≤ 18446744073709551615
    → place + length (run a (unpacked (packets_of bytes))) ≤ length buffer / 4 → length (unpacked (packets_of bytes)) ≤ length again
    → UnpacksAgain (unpack_bytes_call a) (pack_bytes_call a) (unpack_bytes_call a) bytes out buffer place again
unpack_again_bytes a bytes out buffer place again r small short h enough =
    unpacks_again (pack_bytes_call a) bytes_of buffer (length buffer / 4) place (pack_bytes_laws a buffer short) (unpack_bytes_call a) FewBytes
    (unpack_bytes_laws a)
    bytes out (r.input_size, r.whole) (run_must a (packets_of bytes) (length out) r.run) small (unpack_bytes_call a) FewBytes (unpack_bytes_laws a)
    again h enough
