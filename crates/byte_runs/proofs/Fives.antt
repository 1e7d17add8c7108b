-- The 5-bit packet of six codes that are the bytes of two numbers. Assumes nothing.
use mathlib.Core.Path.{◌≡◌, ◌∙◌}
use mathlib.Core.Bool.{true}
use mathlib.Core.List.{List}
use Prim.Native.Nat.{ℕ, ◌+◌, ◌*◌, ◌/◌, ◌%◌, ◌≤◌, ◌<◌}
use native.Mathlib.Omega.{arith}
use lib.ListN.{length, get_or}
use Rattle.laws.specs.Digits.{all_below}
use Rattle.laws.proofs.Digits.{below_at}
use Rattle.laws.proofs.Numbers.{bytes_of}
use Rattle.packets.specs.Packing.{four_from, five_bit_part}
use Rattle.packets.proofs.Filled.{code_inside, five_sum}
use Rattle.byte_runs.specs.Packed.{SixCodes, six_packet}

-- the two bytes of a number
two_bytes : (n a b : ℕ) → n ≡ a + b * 256 → a < 256 → b < 256 → (n % 256 ≡ a) × (n / 256 ≡ b)
two_bytes n a b e ha hb = (omega arith, omega arith)

module _ (cs : List ℕ) (more : 6 ≤ length cs) (valid : all_below 28 cs ≡ true) (four two : ℕ) (f : four ≡ four_from cs 0)
    (t : two ≡ get_or cs 4 0 + get_or cs 5 0 * 256) where
  small : (k : ℕ) → get_or cs k 0 < 28
  small k = below_at 28 k cs (omega arith) valid

  byte : (k : ℕ) → get_or cs k 0 < 256
  byte k = omega (arith, small k)

  fours : (four % 256 ≡ get_or cs 0 0) × (four / 256 % 256 ≡ get_or cs 1 0) × (four / 65536 % 256 ≡ get_or cs 2 0) × (four / 16777216 ≡ get_or cs 3 0)
  fours = bytes_of four (get_or cs 0 0) (get_or cs 1 0) (get_or cs 2 0) (get_or cs 3 0) f (byte 0) (byte 1) (byte 2) (byte 3)

  twos : (two % 256 ≡ get_or cs 4 0) × (two / 256 ≡ get_or cs 5 0)
  twos = two_bytes two (get_or cs 4 0) (get_or cs 5 0) t (byte 4) (byte 5)

  pub six_codes : SixCodes four two
  six_codes = (
    omega (arith, fours.0, small 0),
    omega (arith, fours.1, small 1),
    omega (arith, fours.2, small 2),
    omega (arith, fours.3, small 3),
    omega (arith, twos.0, small 4),
    omega (arith, twos.1, small 5),
  )

  pub six_packet_lem : six_packet four two ≡ five_bit_part cs
  six_packet_lem =
      let inside : (k c : ℕ) → k < 6 → c ≡ get_or cs k 0 → c ≡ get_or cs k 31 = λ k c h e. e ∙ code_inside cs k (omega arith) in
      five_sum cs (four % 256) (four / 256 % 256) (four / 65536 % 256) (four / 16777216) (two % 256) (two / 256)
      (inside 0 _ (omega arith) fours.0) (inside 1 _ (omega arith) fours.1) (inside 2 _ (omega arith) fours.2) (inside 3 _ (omega arith) fours.3)
      (inside 4 _ (omega arith) twos.0) (inside 5 _ (omega arith) twos.1)
