-- Integers of a file written in the other byte order.
-- Assumes nothing.
use Rattle.std.specs.Prelude.{ℕ, zero, suc, Bool, cond, List}
use Rattle.fields.specs.declared.Order.{Order}
use Rattle.fields.specs.declared.Order.TheVariants.{Big, Little}
use Rattle.fields.specs.Number.{unsigned_at}
use Rattle.fields.specs.Written.{number_put}

-- The other order.
abbrev pub other : Order → Order
other Big = Little
other Little = Big

-- A file with the integers of w bytes at the first n of some places turned: read in an order and written in the other, where `there` says that
-- one stands at the place, and where it fits. Every other byte stays.
abbrev pub turned_to : Order → ℕ → (ℕ → Bool) → (ℕ → ℕ) → ℕ → List ℕ → List ℕ
turned_to order w there place zero file = file
turned_to order w there place (suc n) file =
    cond (there n) (number_put (other order) w (place n) (unsigned_at order w file (place n)) (turned_to order w there place n file))
    (turned_to order w there place n file)
