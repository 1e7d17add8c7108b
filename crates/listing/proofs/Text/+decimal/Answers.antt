-- `listing::Text::decimal`: the digits of a tenth, and behind them the last one. Assumes nothing.
use mathlib.Core.Path.{◌≡◌, ap, ◌∙◌}
use mathlib.Core.List.{[], ◌∷◌, ◌++◌}
use Prim.Native.Nat.{ℕ, ◌+◌, ◌/◌, ◌%◌, ◌≤◌, ◌<◌}
use native.Mathlib.Omega.{arith}
use lib.ListN.{length, length-append}
use Rattle.listing.specs.Listing.{digit_of, decimal}
use Rattle.listing.proofs.Texts.{decimal-last, decimal-more, put_size, put_then}
use borrow.Author.Rules.{rules}
use Rattle.listing.proofs.Text.+decimal.Goals as goal

-- how many digits a tenth of the number has
more : (n : ℕ) → 10 ≤ n → n < 18446744073709551616 → length (decimal n) ≡ length (decimal (n / 10)) + 1
more n h k = ap length (decimal-more n h k) ∙ length-append (decimal (n / 10)) (digit_of (n % 10) ∷ [])

pub byte-requires : goal.byte-requires
byte-requires t c = omega (arith, ap length (decimal-last c.args.n (search rules)))

pub decimal-requires : goal.decimal-requires
decimal-requires t c = let m = more c.args.n (search rules) (search rules) in (omega arith, omega arith)

pub byte-requires-else-n-lt10 : goal.byte-requires-else-n-lt10
byte-requires-else-n-lt10 t c =
    let m = more c.args.n (search rules) (search rules) in
    omega (arith, c.decimal.ensures.put.place, put_size c.decimal.ensures.put (omega arith))

pub returns-then-n-lt10-clause-put : goal.returns-then-n-lt10-clause-put
returns-then-n-lt10-clause-put t c = rw (decimal-last c.args.n (search rules), ← c.digit.ensures) c.byte.ensures.put

pub returns-else-n-lt10-clause-put : goal.returns-else-n-lt10-clause-put
returns-else-n-lt10-clause-put t c =
    let n = c.args.n in
    let e = decimal-more n (search rules) (search rules) in
    let h : c.args.self.now.at + length (decimal (n / 10) ++ (digit_of (n % 10) ∷ [])) ≤ length c.args.self.now.out.now = rw (← e) (search rules) in
    rw e (put_then h c.decimal.ensures.put (rw (← c.digit-else-n-lt10.ensures) c.byte-else-n-lt10.ensures.put))
