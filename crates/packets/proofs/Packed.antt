-- A packet of the packing rule read back: its bits, its codes, its residues. Assumes nothing.
use mathlib.Core.Path.{◌≡◌, refl}
use mathlib.Core.Bool.{Bool, true, false, not, cond}
use mathlib.Core.List.{List, [], ◌∷◌}
use Prim.Native.Nat.{ℕ, zero, suc, ◌+◌, ◌*◌, ◌/◌, ◌%◌, ◌^◌, ◌≤◌, ◌<◌}
use native.Mathlib.Omega.{arith}
use lib.Dec.{leb, eqb}
use lib.ListN.{length, take}
use lib.Seq.{length-take-le}
use borrow.Author.Tests.{eq-eqb, ne_eqb, lt-ltb, le-leb, lt-leb}
use Rattle.laws.specs.Digits.{digits, value, all_below}
use Rattle.laws.proofs.Tests.{bool_cases}
use Rattle.laws.proofs.Digits.{below_parts, below-take, digits_value}
use Rattle.laws.proofs.Numbers.{take_min}
use Rattle.residues.specs.Alphabets.{is_amino, code_limit, valid_codes}
use Rattle.residues.proofs.Alphabets.{limit_most, valid-below}
use Rattle.packets.specs.Packing.{is_two_bit, filled, two_bit_part, five_bit_part, end_bit, packet_of, size, packet}
use Rattle.packets.specs.Runs.{ends_run, is_five_bit, before_fill, residues, only_fill, valid_tailed, inner, final}
use Rattle.packets.proofs.Packing.{two_plain, two_long, two_below, five_below, plain-below}
use Rattle.packets.proofs.Packing.{filled-below, filled-whole, length-filled, size_two, size_five}
use Rattle.packets.proofs.Codes.{residues-is, inner-is, final-is}

-- ---- the filled codes

pub before-filled : (n : ℕ) (cs : List ℕ) → all_below 28 cs ≡ true → before_fill (filled n cs) ≡ take n cs
unfolding before_fill filled
before-filled zero cs e = refl
before-filled (suc n) [] e = refl
before-filled (suc n) (c ∷ cs) e =
    let p = below_parts 28 c cs e in
    let ne : eqb c 31 ≡ false = ne_eqb c 31 (λ h. omega arith) in
    rw (ne, before-filled n cs p.1)

only_filled : (n : ℕ) → only_fill (filled n []) ≡ true
unfolding only_fill filled
only_filled zero = refl
only_filled (suc n) = only_filled n

tailed_filled : (n m : ℕ) (cs : List ℕ) → m ≤ 28 → all_below m cs ≡ true → valid_tailed m (filled n cs) ≡ true
unfolding valid_tailed filled
tailed_filled zero m cs h e = refl
tailed_filled (suc n) m [] h e = only_filled n
tailed_filled (suc n) m (c ∷ cs) h e =
    let p = below_parts m c cs e in
    let ne : eqb c 31 ≡ false = ne_eqb c 31 (λ q. omega arith) in
    rw (ne, lt-ltb c m p.0) (tailed_filled n m cs h p.1)

-- ---- bit 31, bit 30 and a value v below them

module _ (b : Bool) (v : ℕ) (h : v < 2 ^ 30) where
  two_sum : end_bit b + v ≡ cond b 2 0 * 2 ^ 30 + v
  two_sum = elim b as (λ (x : Bool). end_bit x + v ≡ cond x 2 0 * 2 ^ 30 + v) [ true ↦ refl | false ↦ refl ]

  five_sum : end_bit b + (2 ^ 30 + v) ≡ cond b 3 1 * 2 ^ 30 + v
  five_sum = elim b as (λ (x : Bool). end_bit x + (2 ^ 30 + v) ≡ cond x 3 1 * 2 ^ 30 + v) [ true ↦ omega arith | false ↦ omega arith ]

  two_ends : ends_run (end_bit b + v) ≡ b
  two_ends =
      elim b as (λ (x : Bool). ends_run (end_bit x + v) ≡ x)
      [ true ↦ eq-eqb ((2 ^ 31 + v) / 2 ^ 31 % 2) 1 (omega arith) | false ↦ ne_eqb ((0 + v) / 2 ^ 31 % 2) 1 (λ q. omega arith) ]

  five_ends : ends_run (end_bit b + (2 ^ 30 + v)) ≡ b
  five_ends =
      elim b as (λ (x : Bool). ends_run (end_bit x + (2 ^ 30 + v)) ≡ x)
      [ true ↦ eq-eqb ((2 ^ 31 + (2 ^ 30 + v)) / 2 ^ 31 % 2) 1 (omega arith) | false ↦ ne_eqb ((0 + (2 ^ 30 + v)) / 2 ^ 31 % 2) 1 (λ q. omega arith) ]

  two_kind : is_five_bit (end_bit b + v) ≡ false
  two_kind =
      elim b as (λ (x : Bool). is_five_bit (end_bit x + v) ≡ false)
      [ true ↦ ne_eqb ((2 ^ 31 + v) / 2 ^ 30 % 2) 1 (λ q. omega arith) | false ↦ ne_eqb ((0 + v) / 2 ^ 30 % 2) 1 (λ q. omega arith) ]

  five_kind : is_five_bit (end_bit b + (2 ^ 30 + v)) ≡ true
  five_kind =
      elim b as (λ (x : Bool). is_five_bit (end_bit x + (2 ^ 30 + v)) ≡ true)
      [ true ↦ eq-eqb ((2 ^ 31 + (2 ^ 30 + v)) / 2 ^ 30 % 2) 1 (omega arith) | false ↦ eq-eqb ((0 + (2 ^ 30 + v)) / 2 ^ 30 % 2) 1 (omega arith) ]

-- ---- the next packet of valid codes

module _ (a : ℕ) (cs : List ℕ) (ok : valid_codes a cs ≡ true) where
  abbrev last : Bool
  last = leb (length cs) (size a cs)

  below28 : all_below 28 cs ≡ true
  below28 = valid-below a cs ok

  two_is : is_two_bit a cs ≡ true → packet a cs ≡ end_bit last + two_bit_part cs
  unfolding packet_of
  two_is e = rw e

  five_is : is_two_bit a cs ≡ false → packet a cs ≡ end_bit last + five_bit_part cs
  unfolding packet_of
  five_is e = rw e

  two_digits : is_two_bit a cs ≡ true → digits 2 15 (packet a cs) ≡ take 15 cs
  two_digits e =
      let p = (two_plain a cs e).1 in
      let l : length (take 15 cs) ≡ 15 = length-take-le 15 cs (two_long a cs e) in
      rw (two_is e, two_sum last (two_bit_part cs) (two_below cs p))
      (rw l at (digits_value 2 (cond last 2 0) (take 15 cs) (plain-below 15 cs p)))

  five_digits : is_two_bit a cs ≡ false → digits 5 6 (packet a cs) ≡ filled 6 cs
  five_digits e =
      rw (five_is e, five_sum last (value 5 0 (filled 6 cs)) (five_below cs below28))
      (rw (length-filled 6 cs) at (digits_value 5 (cond last 3 1) (filled 6 cs) (filled-below 6 cs below28)))

  -- only the last packet has bit 31
  pub packet-ends : ends_run (packet a cs) ≡ last
  packet-ends =
      bool_cases (is_two_bit a cs)
      (λ e. rw (two_is e) (two_ends last (two_bit_part cs) (two_below cs (two_plain a cs e).1)))
      (λ e. rw (five_is e) (five_ends last (value 5 0 (filled 6 cs)) (five_below cs below28)))

  pub packet_two_bit : is_two_bit a cs ≡ true → is_five_bit (packet a cs) ≡ false
  packet_two_bit e = rw (two_is e) (two_kind last (two_bit_part cs) (two_below cs (two_plain a cs e).1))

  pub packet_five_bit : is_two_bit a cs ≡ false → is_five_bit (packet a cs) ≡ true
  packet_five_bit e = rw (five_is e) (five_kind last (value 5 0 (filled 6 cs)) (five_below cs below28))

  -- its residues are those that it takes
  pub packet-residues : residues (packet a cs) ≡ take (size a cs) cs
  packet-residues =
      bool_cases (is_two_bit a cs)
      (λ e. rw (residues-is, packet_two_bit e, two_digits e, size_two a cs (length cs) e))
      (λ e. rw (residues-is, packet_five_bit e, five_digits e, before-filled 6 cs below28, size_five a cs (length cs) e) (take_min 6 cs))

  nucleic : is_two_bit a cs ≡ true → not (is_amino a) ≡ true
  nucleic e = rw (two_plain a cs e).0

  -- it may be a run's last where it takes all, and stand before the last where it doesn't
  pub packet-final : length cs ≤ size a cs → final a (packet a cs) ≡ true
  packet-final h =
      bool_cases (is_two_bit a cs)
      (λ e. rw (final-is, packet-ends, packet_two_bit e, le-leb (length cs) (size a cs) h) (nucleic e))
      (λ e. rw (final-is, packet-ends, packet_five_bit e, five_digits e, le-leb (length cs) (size a cs) h) (tailed_filled 6 (code_limit a) cs (limit_most a) ok))

  pub packet-inner : size a cs < length cs → inner a (packet a cs) ≡ true
  packet-inner h =
      bool_cases (is_two_bit a cs)
      (λ e. rw (inner-is, packet-ends, packet_two_bit e, lt-leb (length cs) (size a cs) h) (nucleic e))
      (λ e.
      let six : 6 ≤ length cs = omega (arith, size_five a cs (length cs) e) in
      rw (inner-is, packet-ends, packet_five_bit e, five_digits e, lt-leb (length cs) (size a cs) h, filled-whole 6 cs six) (below-take (code_limit a) 6 cs ok))
