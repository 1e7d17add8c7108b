-- What the answer of a test says of the value that was tested. Assumes nothing.
use mathlib.Core.Path.{◌≡◌, sym, ap, ◌∙◌}
use mathlib.Core.Bool.{Bool, true, false, not}
use borrow.Author.Tests.{not-true, not-false}

-- what a call told of x, for the value that x is: the call's test passed, or failed
module _ {A : Type 0} (f : A → Bool) {x y : A} {r : Bool} (e : x ≡ y) (told : r ≡ f x) where
  pub told_true : r ≡ true → f y ≡ true
  told_true t = sym (ap f e) ∙ sym told ∙ t

  pub told_false : r ≡ false → f y ≡ false
  told_false t = sym (ap f e) ∙ sym told ∙ t

  -- as `if !..` leaves it
  pub not_taken : not r ≡ true → f y ≡ false
  not_taken t = told_false (not-true r t)

  pub not_left : not r ≡ false → f y ≡ true
  not_left t = told_true (not-false r t)
