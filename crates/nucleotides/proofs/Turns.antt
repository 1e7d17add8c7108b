-- The loop that writes both parts: what holds before a block, what a block asks, and what holds behind it. Assumes nothing.
use mathlib.Core.Path.{◌≡◌, sym, ap, ap₂, ◌∙◌}
use mathlib.Core.List.{List, [], ◌∷◌, ◌++◌}
use mathlib.Core.Logic.{◌⊎◌, inl, inr}
use Prim.Native.Nat.{ℕ, ◌+◌, ◌*◌, ◌-◌, ◌/◌, ◌^◌, ◌≤◌, ◌<◌}
use native.Mathlib.Omega.{arith}
use lib.Dec.{ltb}
use lib.ListN.{length, take, drop, set, length-append}
use borrow.Author.Tests.{ltb-false}
use Rattle.laws.specs.Places.{list_to}
use Rattle.laws.specs.Writing.{written_at}
use Rattle.laws.proofs.Places.{length-list_to, list_to-append}
use Rattle.laws.proofs.Storing.{set_written}
use Rattle.laws.proofs.Tests.{bool_cases}
use Rattle.sequence.specs.declared.Correction.{Correction}
use Rattle.nucleotides.specs.TwoBit.{two_bit_byte, last_byte, two_bit_bytes}
use Rattle.nucleotides.specs.declared.width.Width.{Width}
use Rattle.nucleotides.specs.Pieces.{bytes_of, limit_of, piece_length, pieces_from, most_narrow, width_of, most_repeat, corrections_of}
use Rattle.nucleotides.specs.Table.{entry_bytes, word_bytes, word_size, table_bytes}
use Rattle.nucleotides.specs.Scan.{code_at, bytes_from, Met}
use Rattle.nucleotides.specs.Write.{sequence_bytes, bytes_needed}
use Rattle.nucleotides.proofs.Stretches.{met_more, met_join, met_all}
use Rattle.nucleotides.proofs.Entries.{width_either, limit-positive, entry_room}
use Rattle.nucleotides.proofs.Both.{both, both_bytes, both_entries, both_whole}

-- the width and the places of as many codes
pub width_is : (l : ℕ) → (width_of l ≡ 4) ⊎ (width_of l ≡ 8)
width_is l = bool_cases (ltb most_narrow l) (λ e. inr (rw e)) (λ e. inl (rw e))

pub places_fit : (l : ℕ) → l ≤ 8589934592 → l ≤ 2 ^ (6 * width_of l)
places_fit l h =
    bool_cases (ltb most_narrow l) (λ e. rw e (omega arith)) (λ e. let n = ltb-false most_narrow l e in rw e (omega arith))

-- the next piece of a scan has an entry, and there is room for it
pub entry_fits : (width : Width) (codes : List ℕ) (k n m length' at room : ℕ) →
    let w = bytes_of width in
    let limit = limit_of width in
    Met limit codes k n m → m < length codes → 4 ≤ code_at codes m → length' ≡ piece_length limit (code_at codes m) (drop (m + 1) codes)
    → at + w * length (pieces_from limit codes k) ≤ room → (n < length (pieces_from limit codes k)) × (at + w * n + w ≤ room)
entry_fits width codes k n m length' at room met inside high told fits =
    let more = met_more (limit_of width) codes k n m length' met (limit-positive width) inside high told in
    (more, entry_room (bytes_of width) at n _ room (width_either width) more fits)

-- the bytes needed, by the width and the count that were told
pub needed_is : (codes : List ℕ) (w n : ℕ) → w ≡ width_of (length codes) → n ≡ length (corrections_of codes)
    → bytes_needed codes ≡ length codes / 4 + 1 + (word_size n + w * n)
needed_is codes w n e f = rw (f, e)

module _ (codes old : List ℕ) (w limit n : ℕ) where
  abbrev L : ℕ
  L = length codes

  abbrev all : List Correction
  all = pieces_from limit codes 0

  -- where the entries begin, behind the two-bit bytes and the word
  abbrev place : ℕ
  place = L / 4 + 1 + word_size n

  -- how far the output is: m two-bit bytes and `done` entries; the other pieces begin at `next` or behind it
  pub record Going (out : List ℕ) (next done m : ℕ) : Type 0 where
    pub bytes : m ≤ L / 4
    pub passed : 4 * m ≤ next
    pub met : Met limit codes 0 done next
    pub size : length out ≡ length old
    pub holds : out ≡ both w place all old (list_to (two_bit_byte codes) m) done

  module _ (width : w ≡ width_of L) (limited : limit ≡ most_repeat w) (counted : n ≡ length (corrections_of codes)) (room : bytes_needed codes ≤ length old) where
    these : corrections_of codes ≡ all
    these = rw (← width, ← limited)

    pub count-is : n ≡ length all
    count-is = counted ∙ ap length these

    room-is : place + w * length all ≤ length old
    room-is =
        let e = needed_is codes w n width counted in
        let f : w * n ≡ w * length all = ap (λ (k : ℕ). w * k) count-is in
        omega arith

    module _ (out : List ℕ) (next done m : ℕ) (g : Going out next done m) where
      -- a block of two-bit bytes, and the entries of the pieces that begin in it
      pub going_on : (end pieces after at : ℕ) (mid out' : List ℕ) → m ≤ end → end ≤ L / 4 → mid ≡ written_at m (bytes_from codes m (end - m)) out
          → at ≡ place + w * done → out' ≡ written_at at (entry_bytes w (take pieces (pieces_from limit codes next))) mid
          → length out' ≡ length old → Met limit codes next pieces after → 4 * end ≤ after → Going out' after (done + pieces) end
      going_on end pieces after at mid out' h l b p o s a f =
          let j = met_join limit codes 0 done next pieces after g.met a in
          let t = j.some in
          let bytes = list_to (two_bit_byte codes) m in
          let x = length-list_to (two_bit_byte codes) m in
          let y = length-list_to (λ (k : ℕ). two_bit_byte codes (m + k)) (end - m) in
          let k : m + (end - m) ≡ end = omega arith in
          let z = length-list_to (two_bit_byte codes) end in
          let c : bytes ++ bytes_from codes m (end - m) ≡ list_to (two_bit_byte codes) end =
          sym (list_to-append (two_bit_byte codes) m (end - m)) ∙ ap (list_to (two_bit_byte codes)) k in
          let u : mid ≡ both w place all old (list_to (two_bit_byte codes) end) done =
          b
          ∙ ap (written_at m (bytes_from codes m (end - m))) g.holds
          ∙ both_bytes w place all old room-is bytes (bytes_from codes m (end - m)) m done (sym x) (omega arith) g.met.some
          ∙ ap (λ (v : List ℕ). both w place all old v done) c in
          record {
            bytes = l;
            passed = f;
            met = j;
            size = s;
            holds = o
                ∙ ap (written_at at (entry_bytes w (take pieces (pieces_from limit codes next)))) u
                ∙ both_entries w place all old room-is (list_to (two_bit_byte codes) end) at done pieces (pieces_from limit codes next) (omega arith) p t
                g.met.others;
          }

      -- the last byte, the entries left, and the word: both parts are there
      pub going_done : (whole byte pieces after at : ℕ) (mid out' : List ℕ) → whole ≡ L / 4 → byte ≡ last_byte codes → m ≡ L / 4 → at ≡ place + w * done
          → mid ≡ written_at at (entry_bytes w (take pieces (pieces_from limit codes next))) (set out whole byte)
          → Met limit codes next pieces after → L ≤ after → out' ≡ written_at (whole + 1) (word_bytes w n) mid → out' ≡ written_at 0 (sequence_bytes codes) old
      going_done whole byte pieces after at mid out' d y i p o a f q =
          let r = room-is in
          let s = g.size in
          let j = met_join limit codes 0 done next pieces after g.met a in
          let t = j.some in
          let all-met : done + pieces ≡ length all = met_all limit codes (done + pieces) after j f in
          let bytes = list_to (two_bit_byte codes) (L / 4) in
          let x = length-list_to (two_bit_byte codes) (L / 4) in
          let b : length (two_bit_bytes codes) ≡ L / 4 + 1 = length-append bytes (last_byte codes ∷ []) ∙ omega arith in
          let c : word_size n ≡ word_size (length all) = ap word_size count-is in
          let v : out ≡ both w place all old bytes done = g.holds ∙ ap (λ (k : ℕ). both w place all old (list_to (two_bit_byte codes) k) done) i in
          let u : set out whole byte ≡ both w place all old (two_bit_bytes codes) done =
          ap₂ (set out) d y
          ∙ set_written out (L / 4) (last_byte codes) (omega arith)
          ∙ ap (written_at (L / 4) (last_byte codes ∷ [])) v
          ∙ both_bytes w place all old r bytes (last_byte codes ∷ []) (L / 4) done (sym x) (omega arith) g.met.some in
          let z : mid ≡ both w place all old (two_bit_bytes codes) (length all) =
          o
          ∙ ap (written_at at (entry_bytes w (take pieces (pieces_from limit codes next)))) u
          ∙ both_entries w place all old r (two_bit_bytes codes) at done pieces (pieces_from limit codes next) (omega arith) p t g.met.others
          ∙ ap (both w place all old (two_bit_bytes codes)) all-met in
          let k : whole + 1 ≡ length (two_bit_bytes codes) = omega arith in
          q
          ∙ ap₂ (λ (c e : ℕ). written_at e (word_bytes w c) mid) count-is k
          ∙ ap (written_at (length (two_bit_bytes codes)) (word_bytes w (length all))) z
          ∙ both_whole w place all old r (two_bit_bytes codes) (omega arith)
          ∙ ap (λ (l : List ℕ). written_at 0 (two_bit_bytes codes ++ l) old) (ap₂ table_bytes width (sym these))
