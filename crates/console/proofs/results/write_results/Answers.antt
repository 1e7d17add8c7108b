-- `console::results::write_results`: the values passed so far stand at the range's start. Assumes nothing.
use mathlib.Core.Path.{refl, ap, ◌∙◌}
use native.Mathlib.Omega.{arith}
use lib.ListN.{length}
use Rattle.laws.specs.Writing.{written_at}
use Rattle.fields.specs.Number.{little}
use Rattle.fields.proofs.Laws.{length_put}
use Rattle.console.proofs.Values.{results_next, results_all}
use Rattle.console.proofs.results.write_results.Goals as goal

pub loop-k-init : goal.loop-k-init
loop-k-init c = (omega arith, refl, refl)

pub loop-k-preserved : goal.loop-k-preserved
loop-k-preserved c =
    let a = c.args in
    let l = c.loop-k in (
      omega arith,
      ap length c.put.ensures ∙ (length_put little 8 _ _ _ ∙ l.invariant.1),
      c.put.ensures ∙ results_next a.values.now a.results.now l.results l.k _ (omega arith)
          c.requires refl l.invariant.2 l.invariant.1,
    )

pub returns : goal.returns
returns c =
    let a = c.args in
    let l = c.loop-k in
    l.invariant.2 ∙ ap (λ x. written_at 0 x a.results.now) (results_all a.values.now l.k (omega arith))
