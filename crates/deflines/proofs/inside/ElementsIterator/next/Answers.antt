-- `deflines::inside::Elements`: a call gives the first place of what is left, and leaves the others. Assumes nothing.
use mathlib.Core.Path.{◌≡◌, sym, ap, ◌∙◌}
use Prim.Native.Nat.{suc}
use native.Mathlib.Omega.{arith}
use lib.ListN.{length}
use Rattle.deflines.specs.Fields.{elements_left}
use Rattle.deflines.proofs.Walks.{left-none, left-next}
use Rattle.deflines.proofs.inside.ElementsIterator.next.Goals as goal

pub returns-in_err-self-clause-steps : goal.returns-in_err-self-clause-steps
returns-in_err-self-clause-steps c =
    let none = left-none _ _ (sym c.next_element.ensures ∙ c.in_err-self.was) in
    rw c.from_residual.ensures (none, none)

pub returns-clause-steps : goal.returns-clause-steps
returns-clause-steps c = left-next _ _ _ (sym c.next_element.ensures ∙ c.in_ok-self.was)

pub returns-clause-goes : goal.returns-clause-goes
returns-clause-goes c =
    let it = c.args.self.now in
    let e : length (elements_left it.s.now it.at) ≡ suc (length (elements_left it.s.now c.in_ok-self.field-0)) =
    ap length (left-next _ _ _ (sym c.next_element.ensures ∙ c.in_ok-self.was)) in
    record { on = λ _. (tt, tt, omega arith); keeps = tt; rests = λ _. tt }
