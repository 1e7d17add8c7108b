-- `console::results::put_results`: by the test of the room. Assumes nothing.
use mathlib.Core.Path.{sym, ◌∙◌}
use native.Mathlib.Omega.{arith}
use Rattle.console.proofs.Values.{put_room, put_none}
use Rattle.console.proofs.results.put_results.Goals as goal

pub returns-then-results-values : goal.returns-then-results-values
returns-then-results-values c = let a = c.args in sym (put_none a.values.now a.results.now (omega arith))

pub returns : goal.returns
returns c = let a = c.args in c.write_results.ensures ∙ sym
    (put_room a.values.now a.results.now (omega arith))
