-- A number that a loop reads digit by digit from a part of a list. Assumes nothing.
use mathlib.Core.Path.{◌≡◌}
use mathlib.Core.List.{List}
use Prim.Native.Nat.{ℕ, suc, ◌+◌, ◌*◌, ◌-◌, ◌^◌, ◌<◌}
use native.Mathlib.Omega.{arith}
use lib.ListN.{length, get_or, take, drop}
use lib.Seq.{drop-cons}
use Rattle.laws.specs.Digits.{value}

-- one digit more: what is left of n digits after i of them
pub value-more : (k : ℕ) (s : List ℕ) (at i n x b : ℕ) → i < n → at + i < length s → b ≡ get_or s (at + i) 0
    → value k (x * 2 ^ k + b) (take (n - (i + 1)) (drop (at + (i + 1)) s)) ≡ value k x (take (n - i) (drop (at + i) s))
unfolding value
value-more k s at i n x b h l e =
    let f : n - i ≡ suc (n - (i + 1)) = omega arith in
    let g : at + (i + 1) ≡ suc (at + i) = omega arith in
    rw (f, g, e, drop-cons s (at + i) 0)

-- no digit left
pub value-done : (k : ℕ) (s : List ℕ) (at n x : ℕ) → n ≡ 0 → value k x (take n (drop at s)) ≡ x
unfolding value
value-done k s at n x e = rw e
