-- `listing::Text::decimal`: a tenth of the number is smaller.
use Rattle.listing.proofs.Text.+decimal.Given as goal

abbrev pub decreases-decimal : goal.decreases-decimal
decreases-decimal l = l.n
