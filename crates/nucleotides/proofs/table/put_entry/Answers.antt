-- `nucleotides::table::put_entry`: by the width. Assumes nothing.
use mathlib.Core.Path.{◌∙◌}
use Rattle.fields.specs.Number.{big}
use Rattle.fields.proofs.Laws.{put_fits}
use Rattle.nucleotides.proofs.table.put_entry.Goals as goal

pub returns-in-Narrow : goal.returns-in-Narrow
returns-in-Narrow c = let a = c.args in let h = c.requires.0 in rw c.in-Narrow.is (c.put.ensures ∙ put_fits big 4 a.at a.entry a.out.now (rw c.in-Narrow.is at h))

pub returns-in-Wide : goal.returns-in-Wide
returns-in-Wide c = let a = c.args in let h = c.requires.0 in rw c.in-Wide.is (c.put-in-Wide.ensures ∙ put_fits big 8 a.at a.entry a.out.now (rw c.in-Wide.is at h))
