-- What a test asked by `if !..` says of the rule that a call told, and tests of values that are known by another name. Assumes nothing.
use mathlib.Core.Path.{◌≡◌, sym, ◌∙◌}
use mathlib.Core.Bool.{Bool, true, false, not}
use borrow.Author.Tests.{not-true, not-false}

pub passes : {r b : Bool} → r ≡ b → not r ≡ false → b ≡ true
passes {r = r} e t = sym e ∙ not-false r t

pub fails : {r b : Bool} → r ≡ b → not r ≡ true → b ≡ false
fails {r = r} e t = sym e ∙ not-true r t
