-- `listing::Text::refused`: the number stands behind the word. Assumes nothing.
use Rattle.listing.specs.Listing.{refused_text}
use Rattle.listing.proofs.Texts.{put_then}
use Rattle.listing.proofs.Text.refused.Goals as goal

pub returns-clause-put : goal.returns-clause-put
unfolding refused_text
returns-clause-put c = put_then c.requires c.word.ensures.put c.number.ensures.put
