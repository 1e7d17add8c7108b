-- How many packets a run has. Assumes nothing.
use mathlib.Core.Path.{◌≡◌, sym, ap, ◌∙◌}
use mathlib.Core.Bool.{true, false}
use mathlib.Core.List.{List, [], ◌∷◌}
use Prim.Native.Nat.{ℕ, ◌+◌, ◌*◌, ◌≤◌, ◌<◌, min}
use native.Mathlib.Omega.{arith}
use lib.Dec.{leb, lit<}
use lib.ListN.{length, take, drop, get_or, length-drop, length-append}
use lib.Seq.{drop-drop, get_or-take, get_or-drop}
use borrow.Author.Tests.{leb-true, leb-false}
use Rattle.laws.specs.Digits.{all_below}
use Rattle.laws.proofs.Tests.{bool_cases}
use Rattle.laws.proofs.Digits.{below_at, below-take, below-drop}
use Rattle.residues.specs.Alphabets.{is_amino}
use Rattle.packets.specs.Packing.{is_two_bit, size, run, sixes, plain_packets}
use Rattle.packets.specs.Runs.{residues, unpacked}
use Rattle.packets.proofs.Packing.{plain-below, below_plain, two_plain, plain_two, two_long, amino_five, short_five}
use Rattle.packets.proofs.Packing.{size_two, size_five, size_six, run-last, run_more}
use Rattle.packets.proofs.Codes.{residues-most}
use Rattle.packets.proofs.Round.{unpacked-cons, unpacked-nil, packets-run}

pub length_last : (a : ℕ) (cs : List ℕ) → length cs ≤ size a cs → length (run a cs) ≡ 1
length_last a cs h = ap length (run-last a cs h)

pub length_more : (a : ℕ) (cs : List ℕ) → size a cs < length cs → length (run a cs) ≡ 1 + length (run a (drop (size a cs) cs))
length_more a cs h = ap length (run_more a cs h) ∙ omega arith

-- A run never has more packets than six residues to each take.
pub run-most : (a : ℕ) (cs : List ℕ) → length (run a cs) ≤ sixes (length cs)
run-most a cs =
    packets-run a (λ xs. Unit) (λ k xs u. tt) (λ xs ps. length ps ≤ sixes (length xs))
    (λ xs u h. omega arith)
    (λ xs u h rec. omega (arith, rec, size_six a xs h, length-drop (size a xs) xs))
    cs tt

-- what `search` and `grind` are handed to use it
pub ruleset at_most = (run-most)

-- without 2-bit packets it has exactly so many
run-fives : (a : ℕ) (cs : List ℕ) → ((k : ℕ) → is_two_bit a (drop k cs) ≡ false) → length (run a cs) ≡ sixes (length cs)
run-fives a cs five =
    packets-run a (λ xs. (k : ℕ) → is_two_bit a (drop k xs) ≡ false) (λ k xs q j. rw (drop-drop j k xs) (q (k + j)))
    (λ xs ps. length ps ≡ sixes (length xs))
    (λ xs q h. omega (arith, size_five a xs (length xs) (q 0)))
    (λ xs q h rec. omega (arith, rec, size_five a xs (length xs) (q 0), length-drop (size a xs) xs))
    cs five

-- An amino run has exactly so many.
pub run_amino : (a : ℕ) (cs : List ℕ) → is_amino a ≡ true → length (run a cs) ≡ sixes (length cs)
run_amino a cs m = run-fives a cs (λ k. amino_five a (drop k cs) m)

-- So has a run of codes of which none is below 4.
pub run-above : (a : ℕ) (cs : List ℕ) → ((k : ℕ) → k < length cs → 4 ≤ get_or cs k 0) → length (run a cs) ≡ sixes (length cs)
run-above a cs above = run-fives a cs (λ k. five (drop k cs) (λ h. rw (get_or-drop k cs 0 0) (above (k + 0) (omega (arith, length-drop k cs)))))
  where
    five : (xs : List ℕ) → (0 < length xs → 4 ≤ get_or xs 0 0) → is_two_bit a xs ≡ false
    five xs h =
        bool_cases (is_two_bit a xs)
        (λ t.
        let long = two_long a xs t in
        let first = below_at 4 0 (take 15 xs) (lit< tt) (plain-below 15 xs (two_plain a xs t).1) in
        let z : ⊥ = omega (arith, h (omega arith), first, sym (get_or-take 15 xs 0 0 (lit< tt))) in absurd z)
        (λ f. f)

-- ---- nucleic codes that are all below 4

short_six : (a : ℕ) (cs : List ℕ) → length cs < 15 → size a cs ≡ min 6 (length cs)
short_six a cs h = size_five a cs (length cs) (short_five a cs h)

module _ (a : ℕ) (nucleic : is_amino a ≡ false) where
  plain_fifteen : (cs : List ℕ) → all_below 4 cs ≡ true → 15 ≤ length cs → size a cs ≡ 15
  plain_fifteen cs v h = size_two a cs (length cs) (plain_two a cs nucleic ∙ below_plain 15 cs h (below-take 4 15 cs v))

  -- One or more take exactly L/15 rounded down plus (L mod 15)/6 rounded up.
  pub run-plain : (cs : List ℕ) → all_below 4 cs ≡ true → 0 < length cs → length (run a cs) ≡ plain_packets (length cs)
  run-plain =
      packets-run a (λ xs. all_below 4 xs ≡ true) (below-drop 4) (λ xs ps. 0 < length xs → length ps ≡ plain_packets (length xs))
      (λ xs v h some.
      bool_cases (leb 15 (length xs))
      (λ e. omega (arith, plain_fifteen xs v (leb-true 15 (length xs) e), leb-true 15 (length xs) e))
      (λ e. omega (arith, short_six a xs (leb-false 15 (length xs) e), leb-false 15 (length xs) e)))
      (λ xs v h rec some.
      let d = length-drop (size a xs) xs in
      let r = rec (omega arith) in
      bool_cases (leb 15 (length xs))
      (λ e. omega (arith, plain_fifteen xs v (leb-true 15 (length xs) e)))
      (λ e. omega (arith, short_six a xs (leb-false 15 (length xs) e), leb-false 15 (length xs) e)))

-- A run has at most fifteen residues to a packet.
pub unpacked-most : (ps : List ℕ) → length (unpacked ps) ≤ 15 * length ps
unpacked-most [] = omega (arith, ap length unpacked-nil)
unpacked-most (p ∷ ps) = omega (arith, ap length (unpacked-cons p ps), length-append (residues p) (unpacked ps), residues-most p, unpacked-most ps)
