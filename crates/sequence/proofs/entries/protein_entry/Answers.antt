-- `sequence::entries::protein_entry`: the two offsets, read at their places in the table. Assumes nothing.
use Rattle.volume.proofs.Reading.{numbers_are}
use Rattle.sequence.proofs.Own.{protein-read}
use Rattle.sequence.proofs.entries.protein_entry.Goals as goal

pub returns : goal.returns
returns c =
    let a = c.args in
    let n = numbers_are a.index.now a.x c.requires.0 in
    protein-read a.index.now a.i _ _ _ _ n.starts_is c.natural_at-start.ensures.value c.natural_at-next.ensures.value c.saturating_sub-end.ensures
