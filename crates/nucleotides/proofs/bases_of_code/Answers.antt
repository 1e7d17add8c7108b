-- `nucleotides::bases_of_code`: by the code. Assumes nothing.
use mathlib.Core.Path.{ap, ◌∙◌}
use Prim.Native.Nat.{ℕ}
use native.Mathlib.Omega.{arith}
use lib.Count.{ones}
use borrow.Author.Tests.{lt-ltb, le-ltb}
use Rattle.std.specs.Prelude.{Ok}
use Rattle.nucleotides.specs.Write.{bases_answer, base_count}
use Rattle.nucleotides.proofs.bases_of_code.Goals as goal

pub returns-then-code-gt15 : goal.returns-then-code-gt15
unfolding bases_answer base_count
returns-then-code-gt15 c = rw (le-ltb c.args.code 16 c.if-code-gt15.true)

pub returns : goal.returns
unfolding bases_answer base_count
returns c = rw (lt-ltb c.args.code 16 (omega arith)) (ap (λ (x : ℕ). Ok (ones x)) (c.from.ensures ∙ c.ambiguity_value.ensures))
