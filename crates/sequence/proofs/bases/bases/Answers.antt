-- `sequence::bases::bases`: the digits of the products are the two-bit digits of the byte. Assumes nothing.
use Rattle.sequence.proofs.FourBases.{four_bases}
use Rattle.sequence.proofs.bases.bases.Goals as goal

pub returns : goal.returns
returns c = rw (c.from-high.ensures, c.from-low.ensures) (four_bases c.args.byte c.ranges.byte.fits)
