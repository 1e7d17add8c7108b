-- A turn of a loop that packs: the next packet, and the run of the codes behind it. Assumes nothing.
use mathlib.Core.Path.{◌≡◌, sym, ap, ◌∙◌}
use mathlib.Core.Bool.{true}
use mathlib.Core.List.{List, [], ◌∷◌, ◌++◌, append_assoc, append-nil}
use Prim.Native.Nat.{ℕ, ◌+◌, ◌-◌, ◌%◌, ◌^◌, ◌≤◌, ◌<◌}
use native.Mathlib.Nat.{mod-eq_of_lt, zero-add}
use native.Mathlib.Omega.{arith}
use lib.ListN.{length, take, drop, set, length-drop, drop_of_length-le}
use lib.Seq.{paste, drop-drop}
use borrow.Rule.Slice.PartMut.{put_mid, post_of}
use Rattle.laws.specs.Writing.{written_at}
use Rattle.laws.proofs.Parts.{part_rest}
use Rattle.laws.proofs.Writing.{paste_whole, write_step, rest_step}
use Rattle.laws.proofs.Digits.{below-drop}
use Rattle.residues.specs.Alphabets.{code_limit, valid_codes}
use Rattle.residues.proofs.Alphabets.{valid-below}
use Rattle.packets.specs.Packing.{size_of, packet_of, size, packet, run}
use Rattle.packets.proofs.Packing.{size-some, size-inner, packet-inner, packet-below, run-last, run_more}

-- what `encode` says of the codes from a place on
module _ (a : ℕ) (codes : List ℕ) (at : ℕ) where
  abbrev pub Part : List ℕ
  Part = take (length codes - at) (drop at codes)

  left_is : length codes - at ≡ length (drop at codes)
  left_is = sym (length-drop at codes)

  pub size_is : (s : ℕ) → s ≡ size_of a Part (length codes - at) → s ≡ size a (drop at codes)
  size_is s e = e ∙ rw (part_rest codes at, left_is)

  pub packet-is : (p : ℕ) → valid_codes a codes ≡ true → p ≡ packet_of a Part (length codes - at) % 2 ^ 32 → p ≡ packet a (drop at codes)
  packet-is p v e =
      let w : valid_codes a (drop at codes) ≡ true = below-drop (code_limit a) at codes v in
      let l = packet-below a (drop at codes) (length (drop at codes)) (valid-below a (drop at codes) w) in
      e ∙ (rw (part_rest codes at, left_is) (mod-eq_of_lt l))

  -- the same where more than fifteen are left, and `encode` is told of sixteen
  module _ (h : 15 < length codes - at) where
    pub size_told : (s : ℕ) → s ≡ size_of a Part 16 → s ≡ size a (drop at codes)
    size_told s e = size_is s (e ∙ size-inner a Part (length codes - at) h)

    pub packet_told : (p : ℕ) → valid_codes a codes ≡ true → p ≡ packet_of a Part 16 % 2 ^ 32 → p ≡ packet a (drop at codes)
    packet_told p v e = packet-is p v (e ∙ ap (λ (x : ℕ). x % 2 ^ 32) (packet-inner a Part (length codes - at) h))

  module _ (s : ℕ) (e : s ≡ size a (drop at codes)) where
    -- the packet takes all that is left
    pub run_ends : length codes - at ≤ s → run a (drop at codes) ≡ packet a (drop at codes) ∷ []
    run_ends h = run-last a (drop at codes) (omega (arith, left_is))

    -- it doesn't
    pub run_goes : s < length codes - at → run a (drop at codes) ≡ packet a (drop at codes) ∷ run a (drop (at + s) codes)
    run_goes h =
        run_more a (drop at codes) (omega (arith, left_is))
        ∙ ap (λ (l : List ℕ). packet a (drop at codes) ∷ run a l) (rw (← e) (drop-drop s at codes))

    -- the packets counted so far
    module _ (count : ℕ) (so_far : length (run a codes) ≡ count + length (run a (drop at codes))) where
      pub count-ends : length codes - at ≤ s → count + 1 ≡ length (run a codes)
      count-ends h = omega (arith, ap length (run_ends h))

      pub count_goes : s < length codes - at → length (run a codes) ≡ count + 1 + length (run a (drop (at + s) codes))
      count_goes h = omega (arith, ap length (run_goes h))

-- ---- the codes that are left, in place of a place

module _ (a : ℕ) (rest : List ℕ) (s : ℕ) (e : s ≡ size a rest) where
  -- the packet takes all that is left
  pub rest_ends : length rest ≤ s → run a rest ≡ packet a rest ∷ []
  rest_ends h = run-last a rest (omega arith)

  -- it doesn't: the run goes on behind what it takes, and that is less
  pub rest_goes : s < length rest → run a rest ≡ packet a rest ∷ run a (take (length rest - s) (drop s rest))
  rest_goes h = rw (part_rest rest s, e) (run_more a rest (omega arith))

  pub rest-less : s < length rest → length (take (length rest - s) (drop s rest)) < length rest
  rest-less h = rw (part_rest rest s) (omega (arith, size-some a rest (omega arith), length-drop s rest))

-- what `search` and `grind` are handed to take turns
pub ruleset turns = (rest_ends, rest_goes, rest-less)

pub rest_valid : (a : ℕ) (rest : List ℕ) (s : ℕ) → valid_codes a rest ≡ true → valid_codes a (take (length rest - s) (drop s rest)) ≡ true
rest_valid a rest s v = rw (part_rest rest s) (below-drop (code_limit a) s rest v)

-- what is written for it
pub rest_packet : (a : ℕ) (rest : List ℕ) (p : ℕ) → valid_codes a rest ≡ true → p ≡ packet a rest % 2 ^ 32 → p ≡ packet a rest
rest_packet a rest p v e = e ∙ mod-eq_of_lt (packet-below a rest (length rest) (valid-below a rest v))

-- the packets written so far: R is the run, d the buffer at first
module _ (R d : List ℕ) (count : ℕ) (out : List ℕ) (so_far : out ≡ paste d 0 R count) (p : ℕ) (more : List ℕ)
    (rest : drop count R ≡ p ∷ more) (room : length R ≤ length d) where
  pub within : count < length d
  within = omega (arith, length-drop count R, ap length rest)

  pub store_goes : set out count p ≡ paste d 0 R (count + 1)
  store_goes =
      let z : count ≡ 0 + count = omega arith in
      ap (λ (k : ℕ). set out k p) z ∙ ap (λ (x : List ℕ). set x (0 + count) p) so_far ∙ write_step d 0 R count p more (omega (arith, within)) rest

  pub store_rest : drop (count + 1) R ≡ more
  store_rest = rest_step R count p more rest

  pub store_count : more ≡ [] → count + 1 ≡ length R
  store_count e = omega (arith, length-drop count R, ap length rest, ap length e)

  pub store_ends : more ≡ [] → set out count p ≡ written_at 0 R d
  store_ends e = store_goes ∙ (rw (store_count e) (paste_whole 0 R d))

-- written at the start of what follows a place
pub written_rest : (place : ℕ) (new old : List ℕ) → take place old ++ written_at 0 new (drop place old) ≡ written_at place new old
written_rest place new old =
    let e : drop (0 + length new) (drop place old) ≡ drop (place + length new) old = rw (zero-add (length new)) (drop-drop (length new) place old) in
    ap (λ (l : List ℕ). take place old ++ (new ++ l)) e ∙ sym (append_assoc (take place old) new (drop (place + length new) old))

-- the same as the code has it, which lends what follows the place: ys is what was lent, after
pub part_written : (place : ℕ) (new old ys : List ℕ) → place + length new ≤ length old → ys ≡ written_at 0 new (take (length old - place) (drop place old))
    → put_mid place (length old - place) old ys ≡ written_at place new old
part_written place new old ys h y =
    let e : post_of place (length old - place) old ≡ [] = drop_of_length-le (drop place old) {i = length old - place} (omega (arith, length-drop place old)) in
    rw (y, part_rest old place, e, append-nil) (written_rest place new old)
