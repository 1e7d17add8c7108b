-- Of the header file the check of a volume asks its length alone. Assumes nothing.
use mathlib.Core.Path.{◌≡◌}
use mathlib.Core.List.{List}
use Prim.Native.Nat.{ℕ}
use lib.ListN.{length}
use Rattle.volume.specs.Volume.{volume_rules}

pub header_length_alone : (index sequence header other : List ℕ) → length header ≡ length other
    → volume_rules index sequence header ≡ volume_rules index sequence other
unfolding volume_rules
header_length_alone index sequence header other e = rw e
