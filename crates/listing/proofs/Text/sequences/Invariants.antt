-- `listing::Text::sequences`: the lines of the sequences so far are put. Assumes nothing.
use mathlib.Core.Path.{◌≡◌}
use Rattle.volume.specs.Tables.{length_of_number}
use Rattle.listing.specs.Listing.{lengths_text, Put}
use Rattle.listing.proofs.Text.sequences.Given as goal

abbrev pub invariant-loop-i : goal.invariant-loop-i
invariant-loop-i l = (l.self.out.ghost_name ≡ l.initial.self.out.ghost_name)
    × Put l.initial.self.out.now l.initial.self.at (lengths_text (length_of_number l.index l.sequence) l.i) l.self.out.now l.self.at
