-- `elements::element_within`: an inner element is read with one depth less. The loop's invariant says that the rest of the list, read from p on, gives the
-- answer for the whole element. Assumes nothing.
use Prim.Native.Nat.{◌-◌}
use lib.ListN.{length}
use Rattle.elements.specs.Reading.{read}
use Rattle.elements.proofs.Reading.{Inner}
use Rattle.elements.proofs.Reading.{Rest}
use Rattle.elements.proofs.+element_within.Given as goal

abbrev pub invariant-loop-inner : goal.invariant-loop-inner
invariant-loop-inner l = Rest (Inner l.depth l.inner l.s) l.form l.low l.s l.p (read l.depth l.form l.s l.at)

abbrev pub decreases-loop-inner : goal.decreases-loop-inner
decreases-loop-inner l = length l.s - l.p

abbrev pub decreases-element_within : goal.decreases-element_within
decreases-element_within l = l.depth
