-- `sequence::entries::dna_entry`: the three offsets, read at their places in the tables. Assumes nothing.
use Rattle.volume.proofs.Reading.{numbers_are}
use Rattle.sequence.proofs.Own.{dna-read}
use Rattle.sequence.proofs.entries.dna_entry.Goals as goal

pub returns : goal.returns
returns c =
    let a = c.args in
    let n = numbers_are a.index.now a.x c.requires.0 in
    dna-read a.index.now a.i _ _ _ _ n.starts_is c.natural_at-start.ensures.value c.natural_at-next.ensures.value _ n.ambiguities_is
    c.natural_at-end.ensures.value
