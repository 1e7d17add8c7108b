-- The number of a refusal whose case is known, and what `search` is handed to use it. Assumes nothing.
use mathlib.Core.Path.{◌≡◌, sym, ap, ◌∙◌}
use Prim.Native.Nat.{ℕ}
use borrow.Author.Rules as author
use Rattle.answers.specs.declared.Refusal.{Refusal}
use Rattle.answers.specs.Numbers.{number_of}

pub told : (n : ℕ) (r s : Refusal) → r ≡ s → n ≡ number_of s → n ≡ number_of r
told n r s e f = f ∙ sym (ap number_of e)

pub ruleset needs = (told, author.rules)
