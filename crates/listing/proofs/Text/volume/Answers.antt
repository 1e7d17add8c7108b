-- `listing::Text::volume`: the lines stand behind the first. Assumes nothing.
use Rattle.listing.specs.Listing.{volume_text}
use Rattle.listing.proofs.Texts.{put_then}
use Rattle.listing.proofs.Text.volume.Goals as goal

pub returns-clause-put : goal.returns-clause-put
unfolding volume_text
returns-clause-put c = put_then c.requires c.head.ensures.put c.sequences.ensures.put
