-- What holds of a choice, by its test. Assumes nothing.
use mathlib.Core.Path.{◌≡◌, refl}
use mathlib.Core.Bool.{Bool, true, false, cond}

module _ {A : Type 0} where
  -- what holds of either side holds of the choice
  pub cond_elim : (P : A → Type 0) (b : Bool) {x y : A} → (b ≡ true → P x) → (b ≡ false → P y) → P (cond b x y)
  cond_elim P true f g = f refl
  cond_elim P false f g = g refl
