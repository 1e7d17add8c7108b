-- `pages::fetch_all`: what is left of the list, from how far the page is, comes to what the whole list comes to. Assumes nothing.
use mathlib.Core.Path.{◌≡◌}
use mathlib.Core.List.{List}
use Prim.Native.Nat.{ℕ, ◌≤◌}
use lib.ListN.{length, drop}
use Rattle.pages.specs.Page.{Progress, begun, fetch_all}
use Rattle.pages.proofs.fetch_all.Given as goal

abbrev at : List ℕ → List ℕ → ℕ → ℕ → Progress
at out ends filled done = record { output = out; ends = ends; filled = filled; done = done }

abbrev pub invariant-loop-done : goal.invariant-loop-done
invariant-loop-done l =
    (l.filled ≤ length l.out) × (length l.out ≡ length l.initial.out) × (length l.ends ≡ length l.initial.ends)
    × (fetch_all l.index l.sequence l.numbers (begun l.initial.out l.initial.ends) ≡ fetch_all l.index l.sequence (drop l.done-counter l.numbers) (at l.out l.ends l.filled l.done-counter))
