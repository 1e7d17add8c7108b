-- `listing::Text::head`: the numbers stand behind the type, one after another. Assumes nothing.
use mathlib.Core.List.{◌++◌}
use native.Mathlib.Omega.{arith}
use lib.ListN.{length-append}
use Rattle.listing.specs.Listing.{space, line_feed, number_then, head_text}
use Rattle.listing.proofs.Texts.{put_size, put_then, head_size}
use Rattle.listing.proofs.Text.head.Goals as goal

pub returns-clause-put : goal.returns-clause-put
unfolding head_text
returns-clause-put c =
    let v = c.args.v in
    let r = number_then v.residues space in
    let l = number_then v.longest line_feed in
    let e = length-append (number_then v.sequences space) (r ++ l) in
    let f = length-append r l in
    let w = c.kind.ensures.put in
    let x = c.number.ensures.put in
    let g = head_size v in
    let m = put_size w (omega arith) in
    let n = put_size x (omega (arith, w.place)) in
    put_then c.requires w (put_then (omega (arith, w.place)) x (put_then (omega (arith, w.place, x.place)) c.number-2.ensures.put c.number-3.ensures.put))
