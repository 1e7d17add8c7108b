-- `sequence::corrections::entries_fit`: each entry passed fits, and `low` is the end of the last. Assumes nothing.
use mathlib.Core.Path.{sym}
use Rattle.laws.proofs.Places.{every_more, every-fails}
use Rattle.sequence.specs.Corrections.{entry_fits}
use Rattle.sequence.specs.Tabled.{width_bytes}
use Rattle.sequence.proofs.Ranges.{fits-not-after, fits-not-within, fits_both, end_next}
use Rattle.sequence.proofs.corrections.entries_fit.Goals as goal
use Rattle.sequence.proofs.corrections.entries_fit.Goals.{then-c-low-via-then-c-low, then-c-low-via-else-c-low+then-l-end}

pub returns-then-c-low : goal.returns-then-c-low
returns-then-c-low c =
    let a = c.args in
    let l = c.loop-j in
    let s = a.sequence.now in
    let x = c.correction_at-c in
    let fails = every-fails (entry_fits s a.entries.start (width_bytes a.entries.width) a.l) a.entries.count l.j c.loop-j-test.true in
    elim c.then-c-low.branch [
      | then-c-low-via-then-c-low w ↦
          sym (fails (fits-not-after s a.entries.start (width_bytes a.entries.width) a.l l.j l.low x.result x.ensures.value l.invariant.0 w.if-c-low.true))
      | then-c-low-via-else-c-low+then-l-end w ↦
          sym (fails (fits-not-within s a.entries.start (width_bytes a.entries.width) a.l l.j l.low x.result x.ensures.value l.invariant.0 w.if-l-end.true))
    ]

pub loop-j-preserved : goal.loop-j-preserved
loop-j-preserved c =
    let a = c.args in
    let l = c.loop-j in
    let s = a.sequence.now in
    let x = c.correction_at-c in
    let e = fits_both s a.entries.start (width_bytes a.entries.width) a.l l.j l.low x.result x.ensures.value l.invariant.0 c.if-c-low.false c.if-l-end.false in (
      end_next s a.entries.start (width_bytes a.entries.width) a.l l.j l.low x.result x.ensures.value l.invariant.0,
      every_more
          (entry_fits s a.entries.start (width_bytes a.entries.width) a.l) l.j l.invariant.1 e,
    )
