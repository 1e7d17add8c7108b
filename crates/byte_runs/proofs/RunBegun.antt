-- Nucleic runs: both nucleic alphabets pack alike, and a run that is written in part goes on. Assumes nothing.
use mathlib.Core.Path.{◌≡◌, refl, sym, ap, subst, ◌∙◌}
use mathlib.Core.Bool.{true, false}
use mathlib.Core.List.{List, [], ◌∷◌, ◌++◌}
use Prim.Native.Nat.{ℕ, zero, suc, pred, ◌+◌, ◌*◌, ◌-◌, ◌/◌, ◌^◌, ◌≤◌, ◌<◌}
use native.Mathlib.Omega.{arith}
use borrow.Author.Tests.{eqb-true}
use borrow.Rule.Slice.PartMut.{mid_of, put_mid}
use lib.ListN.{length, take, drop, length-drop, take-append-drop}
use lib.Seq.{drop-drop, length-take-le}
use Rattle.laws.specs.Writing.{written_at}
use Rattle.laws.proofs.Digits.{below-drop}
use Rattle.laws.proofs.Parts.{part_rest}
use Rattle.laws.proofs.Writing.{length_written, written_twice}
use Rattle.laws.proofs.Places.{every_at}
use Rattle.residues.specs.Alphabets.{is_amino, valid_codes}
use Rattle.std.specs.Prelude.{Some, None}
use Rattle.packets.specs.Packing.{plain, is_two_bit, size_of, packet_of, two_bit_part, next_two_bit, five_bit_part, size, packet, later, run}
use Rattle.packets.specs.Positions.{byte_of}
use Rattle.packets.specs.Bytes.{bytes_of}
use Rattle.packets.proofs.Bytes.{length-bytes, bytes-append}
use Rattle.packets.proofs.Lengths.{unpacked-most}
use Rattle.packets.proofs.Packing.{plain_two, found_two, missed_two, run-some}
use Rattle.packets.proofs.Round.{unpacked-run}
use Rattle.byte_runs.specs.Packed.{twos, plain_parts, RunBegun}
use Rattle.byte_runs.proofs.Packed.{length_parts, part_long, part_put, put_none, put_inside, put_more, put_rest, put_length, put_behind}
use Rattle.byte_runs.proofs.Runs.{run_parts, two_goes, five_goes}

-- ---- both nucleic alphabets

module _ (a : ℕ) (e : is_amino a ≡ false) where
  two_same : (cs : List ℕ) → is_two_bit a cs ≡ is_two_bit 1 cs
  two_same cs = plain_two a cs e ∙ sym (plain_two 1 cs refl)

  size_same : (cs : List ℕ) → size a cs ≡ size 1 cs
  unfolding size_of
  size_same cs = rw (two_same cs)

  packet-same : (cs : List ℕ) → packet a cs ≡ packet 1 cs
  unfolding packet_of size_of
  packet-same cs = rw (two_same cs)

  later_same : (k : ℕ) (cs : List ℕ) → later a k cs ≡ later 1 k cs
  unfolding later
  later_same k [] = refl
  later_same zero (c ∷ cs) = rw (packet-same (c ∷ cs), size_same (c ∷ cs), later_same (pred (size 1 (c ∷ cs))) cs)
  later_same (suc k) (c ∷ cs) = later_same k cs

  pub run-same : (cs : List ℕ) → run a cs ≡ run 1 cs
  unfolding run
  run-same cs = rw (packet-same cs, size_same cs, later_same (size 1 cs) cs)

  pub valid_same : (cs : List ℕ) → valid_codes a cs ≡ true → valid_codes 1 cs ≡ true
  valid_same cs v = rw e at v

-- ---- a run that is written in part

-- one packet written, and all that is left behind it
pub put_next : (c p : ℕ) (whole rest out : List ℕ) → whole ≡ p ∷ rest → c + length whole ≤ length out / 4
    → written_at (4 * (c + 1)) (bytes_of rest) (written_at (4 * c) (bytes_of (p ∷ [])) out) ≡ written_at (4 * c) (bytes_of whole) out
put_next c p whole rest out e room =
    let l : length (bytes_of (p ∷ [])) ≡ 4 = length-bytes (p ∷ []) in
    let n : 4 * (c + 1) ≡ 4 * c + length (bytes_of (p ∷ [])) = omega arith in
    let k : length whole ≡ 1 + length rest = ap length e ∙ omega arith in
    ap (λ (x : ℕ). written_at x (bytes_of rest) (written_at (4 * c) (bytes_of (p ∷ [])) out)) n
    ∙ (written_twice (4 * c) (bytes_of (p ∷ [])) (bytes_of rest) out (omega (arith, length-bytes rest))
    ∙ (ap (λ (x : List ℕ). written_at (4 * c) x out) (sym (bytes-append (p ∷ []) rest)) ∙ ap (λ (x : List ℕ). written_at (4 * c) (bytes_of x) out) (sym e)))

pub put_one_length : (c p : ℕ) (out new : List ℕ) → new ≡ written_at (4 * c) (bytes_of (p ∷ [])) out → c < length out / 4 → length new ≡ length out
put_one_length c p out new e h = ap length e ∙ length_written (4 * c) (bytes_of (p ∷ [])) out (omega (arith, length-bytes (p ∷ [])))

pub begun-none : (cs d : List ℕ) → RunBegun cs d 0 0 d
begun-none cs d = (omega arith, omega arith, refl, put_none (run 1 cs) d, refl)

-- fifteen codes to a packet are the most
run-least : (cs : List ℕ) → valid_codes 1 cs ≡ true → length cs ≤ 15 * length (run 1 cs)
run-least cs v = omega (arith, unpacked-most (run 1 cs), ap length (unpacked-run 1 cs v))

module _ (cs d : List ℕ) (count at : ℕ) (out : List ℕ) (b : RunBegun cs d count at out) (room : length (run 1 cs) ≤ length d / 4) where
  left : length (run 1 cs) - count ≡ length (run 1 (drop at cs))
  left = sym (length-drop count (run 1 cs)) ∙ ap length b.4

  pub begun-place : count < length out / 4
  begun-place = omega (arith, left, run-some 1 (drop at cs), b.2)

  -- some packets more
  module _ (ps : List ℕ) (s : ℕ) (step : run 1 (drop at cs) ≡ ps ++ run 1 (drop (at + s) cs)) (more : at + s ≤ length cs - 1) where
    here : drop count (run 1 cs) ≡ ps ++ run 1 (drop (at + s) cs)
    here = b.4 ∙ step

    pub begun_more : (new : List ℕ) → new ≡ written_at (4 * count) (bytes_of ps) out → RunBegun cs d (count + length ps) (at + s) new
    begun_more new w =
        let rest = run 1 (drop (at + s) cs) in
        let i = put_inside (run 1 cs) d count out b.3 b.1 (omega arith) count ps rest here (omega arith) (omega arith) in
        let e = w ∙ put_more (run 1 cs) d count out b.3 b.1 (omega arith) count ps rest here (omega arith) (omega arith) in (
          more,
          i,
          put_length (run 1 cs) d new (count + length ps) e (omega (arith, i)),
          e,
          put_rest (run 1 cs) d count out b.3 b.1 (omega arith) count ps rest here (omega arith) (omega arith),
        )

  -- all that is left, written behind, is the whole run
  pub begun-whole : written_at (4 * count) (bytes_of (run 1 (drop at cs))) out ≡ written_at 0 (bytes_of (run 1 cs)) d
  begun-whole =
      let R = run 1 cs in
      let l : length (take count R) ≡ count = length-take-le count R b.1 in
      ap (λ (x : List ℕ). written_at (4 * count) (bytes_of x) out) (sym b.4)
      ∙ (put_behind (take count R) (drop count R) d out count b.3 (sym l) (omega (arith, l, length-drop count R))
      ∙ ap (λ (x : List ℕ). written_at 0 (bytes_of x) d) (take-append-drop count R))

  pub begun-length : count + length (run 1 (drop at cs)) ≡ length (run 1 cs)
  begun-length = omega (arith, left, b.1)

  -- a 2-bit packet, and a 5-bit packet, by what is found next
  pub begun_two : (p : ℕ) (new : List ℕ) → next_two_bit (mid_of at (length cs - at) cs) ≡ Some p → 15 < length cs - at
      → new ≡ written_at (4 * count) (bytes_of (p ∷ [])) out → RunBegun cs d (count + 1) (at + 15) new
  begun_two p new e h =
      let f = found_two (drop at cs) p (ap next_two_bit (sym (part_rest cs at)) ∙ e) in
      begun_more (p ∷ []) 15 (two_goes 1 cs at (plain_two 1 (drop at cs) refl ∙ f.0) h ∙ ap (λ (x : ℕ). x ∷ run 1 (drop (at + 15) cs)) (sym f.1))
      (omega arith) new

  pub begun_five : (p : ℕ) (new : List ℕ) → next_two_bit (mid_of at (length cs - at) cs) ≡ None → p ≡ five_bit_part (drop at cs) → 6 < length cs - at
      → new ≡ written_at (4 * count) (bytes_of (p ∷ [])) out → RunBegun cs d (count + 1) (at + 6) new
  begun_five p new e q h =
      let f = missed_two (drop at cs) (ap next_two_bit (sym (part_rest cs at)) ∙ e) in
      begun_more (p ∷ []) 6 (five_goes 1 cs at (plain_two 1 (drop at cs) refl ∙ f) h ∙ ap (λ (x : ℕ). x ∷ run 1 (drop (at + 6) cs)) (sym q)) (omega arith) new

  -- blocks of 2-bit packets, made of a part of the codes, and written at the start of a part of the output
  pub begun-room : (start : ℕ) → valid_codes 1 cs ≡ true → start ≡ 4 * count
      → length (mid_of at (length cs - at) cs) ≤ 15 * (length (mid_of start (length out - start) out) / 4)
  begun-room start v q =
      let l : length (mid_of at (length cs - at) cs) ≡ length (drop at cs) = ap length (part_rest cs at) in
      let o : length (mid_of start (length out - start) out) ≡ length out - start = ap length (part_rest out start) ∙ length-drop start out in
      omega (arith, run-least (drop at cs) (below-drop 16 at cs v), left, b.2)

  pub begun_block : (n start : ℕ) (last : List ℕ) → start ≡ 4 * count → 15 * n < length (mid_of at (length cs - at) cs)
      → plain_parts (mid_of at (length cs - at) cs) n ≡ true
      → last ≡ written_at 0 (bytes_of (twos (mid_of at (length cs - at) cs) n)) (mid_of start (length out - start) out)
      → RunBegun cs d (count + n) (at + 15 * n) (put_mid start (length out - start) out last)
  begun_block n start last q h f w =
      let ds = drop at cs in
      let l : length ds ≡ length cs - at = length-drop at cs in
      let k : 15 * n < length ds = rw (part_rest cs at) at h in
      let g : plain_parts ds n ≡ true = rw (part_rest cs at) at f in
      let c : length (twos ds n) ≡ n = length_parts (λ next. two_bit_part next) 15 ds n in
      let step : run 1 ds ≡ twos ds n ++ run 1 (drop (at + 15 * n) cs) =
      run_parts 1 (λ next. two_bit_part next) 15 ds n
      (λ i j. two_goes 1 ds (15 * i) (plain_two 1 (drop (15 * i) ds) refl ∙ every_at (λ m. plain 15 (drop (15 * m) ds)) n i j g) (omega arith))
      ∙ ap (λ (x : List ℕ). twos ds n ++ run 1 x) (drop-drop (15 * n) at cs) in
      let e = part_put start out last (bytes_of (twos (mid_of at (length cs - at) cs) n)) w (omega (arith, begun-place))
      ∙ (ap (λ (x : ℕ). written_at x (bytes_of (twos (mid_of at (length cs - at) cs) n)) out) q
      ∙ ap (λ (x : List ℕ). written_at (4 * count) (bytes_of (twos x n)) out) (part_rest cs at)) in
      ap_count c (begun_more (twos ds n) (15 * n) step (omega arith) (put_mid start (length out - start) out last) e)
    where
      ap_count : {m n : ℕ} {t : ℕ} {new : List ℕ} → m ≡ n → RunBegun cs d (count + m) t new → RunBegun cs d (count + n) t new
      ap_count {t = t} {new = new} e x = subst (λ (k : ℕ). RunBegun cs d (count + k) t new) e x

-- ---- a run that is written at the start of a part of the output

-- an amino run is packed as alphabet 3, and every other as alphabet 1
pub run_three : (a : ℕ) → is_amino a ≡ true → (cs : List ℕ) → run 3 cs ≡ run a cs
run_three a t cs = ap (λ (x : ℕ). run x cs) (sym (eqb-true a 3 t))

module _ (R S d : List ℕ) (place at : ℕ) (e : R ≡ S) (room : place + length S ≤ length d / 4) (q : at ≡ 4 * place) where
  pub placed_room : length R ≤ length (mid_of at (length d - at) d) / 4
  placed_room = omega (arith, ap length e, part_long at (4 * length S) d (omega arith))

  pub placed : (last : List ℕ) → length d < 2 ^ 64 → last ≡ written_at 0 (bytes_of R) (mid_of at (length d - at) d)
      → put_mid at (length d - at) d last ≡ written_at (byte_of 0 place) (bytes_of S) d
  placed last h w =
      let p : at ≡ byte_of 0 place = omega arith in
      part_put at d last (bytes_of R) w (omega arith)
      ∙ (ap (λ (n : ℕ). written_at n (bytes_of R) d) p ∙ ap (λ (x : List ℕ). written_at (byte_of 0 place) (bytes_of x) d) e)
