-- `sequence::corrections::check_table`: the two rules in their order. Assumes nothing.
use mathlib.Core.Path.{◌≡◌, refl, sym, ◌∙◌}
use Prim.Native.Nat.{◌+◌}
use native.Mathlib.Omega.{arith}
use Rattle.laws.specs.Places.{every}
use Rattle.sequence.specs.Corrections.{entry_width, entry_count, entry_fits}
use Rattle.sequence.proofs.Ranges.{by_width, entries-lie, table_some}
use Rattle.sequence.proofs.corrections.check_table.Goals as goal

pub entries_fit-requires : goal.entries_fit-requires
entries_fit-requires c =
    let a = c.args in
    let told = table_some a.sequence.now a.place a.end _ (sym c.entries_of.ensures ∙ c.in-Some.is) in
    rw told.1 (entries-lie a.sequence.now a.place a.end told.0 (omega arith))

pub returns-then-not-entries_fit : goal.returns-then-not-entries_fit
returns-then-not-entries_fit c =
    let a = c.args in
    let s = a.sequence.now in
    let told = table_some s a.place a.end _ (sym c.entries_of.ensures ∙ c.in-Some.is) in
    let fit : c.entries_fit.result ≡ every (entry_fits s (a.place + 4) (entry_width s a.place) a.l) (entry_count s a.place a.end) =
    rw told.1 at c.entries_fit.ensures ∙ by_width s a.place a.end (λ w. every (entry_fits s (a.place + 4) w a.l)) (λ v w. refl) in
    rw (told.0, ← fit, c.if-not-entries_fit.true) refl

pub returns : goal.returns
returns c =
    let a = c.args in
    let s = a.sequence.now in
    let told = table_some s a.place a.end _ (sym c.entries_of.ensures ∙ c.in-Some.is) in
    let fit : c.entries_fit.result ≡ every (entry_fits s (a.place + 4) (entry_width s a.place) a.l) (entry_count s a.place a.end) =
    rw told.1 at c.entries_fit.ensures ∙ by_width s a.place a.end (λ w. every (entry_fits s (a.place + 4) w a.l)) (λ v w. refl) in
    rw (told.0, ← fit, c.if-not-entries_fit.false, told.1) refl
