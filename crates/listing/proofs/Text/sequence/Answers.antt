-- `listing::Text::sequence`: the length stands behind the number. Assumes nothing.
use Rattle.listing.specs.Listing.{length_text}
use Rattle.listing.proofs.Texts.{put_then}
use Rattle.listing.proofs.Text.sequence.Goals as goal

pub returns-clause-put : goal.returns-clause-put
unfolding length_text
returns-clause-put c = put_then c.requires c.number.ensures.put c.number-2.ensures.put
