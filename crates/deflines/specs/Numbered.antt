-- Number k of a list.
-- Assumes nothing.
use Rattle.std.specs.Prelude.{ℕ, zero, suc, List, [], ◌∷◌}
use Rattle.std.specs.declared.ops.ControlFlow.{ControlFlow}
use Rattle.std.specs.declared.ops.ControlFlow.TheVariants.{Break, Continue}

-- Number k of a list, from 0: what `found` makes of it; where the list is shorter, what `left` makes of how many are left to pass.
abbrev pub numbered : {X Y : Type 0} → List X → ℕ → (X → Y) → (ℕ → Y) → Y
numbered [] k found left = left k
numbered (x ∷ xs) zero found left = found x
numbered (x ∷ xs) (suc k) found left = numbered xs k found left

-- Item k of a list, or how many are left to pass.
abbrev pub item_from : {X : Type 0} → List X → ℕ → ControlFlow X ℕ
item_from xs k = numbered xs k Break Continue
