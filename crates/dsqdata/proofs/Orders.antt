-- The byte order of a set, by the magic that its index begins with. Assumes nothing.
use mathlib.Core.Path.{◌≡◌, sym, ◌∙◌}
use mathlib.Core.List.{List}
use Prim.Native.Nat.{ℕ}
use native.Mathlib.Omega.{arith}
use borrow.Author.Tests.{eq-eqb, ne_eqb, eqb-true}
use Rattle.laws.specs.Digits.{value}
use Rattle.laws.specs.Rules.{AllHold}
use Rattle.fields.specs.declared.Order.{Order}
use Rattle.fields.specs.declared.Order.TheVariants.{Big, Little}
use Rattle.fields.specs.Number.{big, little}
use Rattle.fields.specs.Turned.{other}
use Rattle.fields.proofs.Laws.{unsigned_bytes}
use Rattle.dsqdata.specs.Header.{set_magic, set_order, magic_of}
use Rattle.dsqdata.specs.Check.{file_rules}
use Rattle.dsqdata.proofs.Named.{file_tests}

-- the number of four bytes in one order and in the other, added up, is a multiple of 257, and twice the magic is none
both_magics : (index : List ℕ) → magic_of big index ≡ set_magic → magic_of little index ≡ set_magic → ⊥
unfolding value
both_magics index e f =
    omega (arith, sym (unsigned_bytes big 4 index 0) ∙ e, sym (unsigned_bytes little 4 index 0) ∙ f)

-- No file begins with the magic in both orders ..
pub one_magic : (order : Order) (file : List ℕ) → magic_of order file ≡ set_magic → magic_of (other order) file ≡ set_magic → ⊥
one_magic Big file e f = both_magics file e f
one_magic Little file e f = both_magics file f e

-- .. so an index that begins with it in an order shows that order ..
pub order_shown : (order : Order) (index : List ℕ) → magic_of order index ≡ set_magic → set_order index ≡ order
unfolding set_order
order_shown Big index e = rw (eq-eqb (magic_of big index) set_magic e)
order_shown Little index e = rw (ne_eqb (magic_of big index) set_magic (one_magic Little index e))

-- .. and one that keeps the rules of the files in an order does.
pub order_asked : (order : Order) (i m s : List ℕ) → AllHold (file_rules order i m s) → set_order i ≡ order
order_asked order i m s h = order_shown order i (eqb-true _ _ (file_tests order i m s h).index_start.magic)
