-- `listing::write_listing`: by the check's answer; each text fits in the output. Assumes nothing.
use mathlib.Core.Path.{sym, ap, ◌∙◌}
use native.Mathlib.Omega.{arith}
use Rattle.listing.specs.Listing.{refused_text, listing_text}
use Rattle.listing.proofs.Texts.{listing_put}
use Rattle.listing.proofs.Room.{refused-fits, volume_fits}
use Rattle.listing.proofs.write_listing.Goals as goal
use Rattle.listing.proofs.write_listing.Goals.{in-Ok, in-Err}

pub refused-requires : goal.refused-requires
refused-requires c = omega (arith, refused-fits c.from.result)

pub volume-requires : goal.volume-requires
volume-requires c =
    let a = c.args in
    let f = volume_fits a.index.now a.sequence.now a.header.now _ (sym c.check_listed.ensures ∙ c.in-Ok.is) in
    omega arith

pub returns-clause-len : goal.returns-clause-len
unfolding listing_text
returns-clause-len c =
    let a = c.args in
    elim c.match-check_listed.branch [
      | in-Ok w ↦
          let e = sym c.check_listed.ensures ∙ w.in-Ok.is in
          rw w.text-is (listing_put a.index.now a.sequence.now a.header.now (rw e) w.volume.ensures.put).0
      | in-Err w ↦
          let e = sym c.check_listed.ensures ∙ w.in-Err.is in
          rw w.text-is (listing_put a.index.now a.sequence.now a.header.now (rw e (ap refused_text (sym w.from.ensures))) w.refused.ensures.put).0
    ]

pub returns-clause-out : goal.returns-clause-out
unfolding listing_text
returns-clause-out c =
    let a = c.args in
    elim c.match-check_listed.branch [
      | in-Ok w ↦
          let e = sym c.check_listed.ensures ∙ w.in-Ok.is in
          rw w.text-is (listing_put a.index.now a.sequence.now a.header.now (rw e) w.volume.ensures.put).1
      | in-Err w ↦
          let e = sym c.check_listed.ensures ∙ w.in-Err.is in
          rw w.text-is (listing_put a.index.now a.sequence.now a.header.now (rw e (ap refused_text (sym w.from.ensures))) w.refused.ensures.put).1
    ]
