-- The ends of the runs of a body of packets (document 01, "A dsqdata set").
-- Assumes nothing.
use Rattle.std.specs.Prelude.{◌≡◌, true, List, [], ◌∷◌, ℕ, zero, suc, length, ℤ, pos, negsuc, ◌<ℤ◌}
use Rattle.std.proofs.Math.Seq.{slice}
use Rattle.packets.specs.Runs.{well_formed}

-- The first place after an end that is at least -1.
abbrev pub after : ℤ → ℕ
after (pos n) = suc n
after (negsuc n) = 0

-- The last of so many places; -1 where there is none.
abbrev pub last_place : ℕ → ℤ
last_place zero = negsuc 0
last_place (suc n) = pos n

-- The packets after one end, up to and with the next.
abbrev pub between : List ℕ → ℤ → ℤ → List ℕ
between packets before end = slice (after before) (after end) packets

-- Ends that follow the end `before`: each rises, the last is the body's last place, and each run between is well formed.
abbrev pub MakesAfter : ℕ → List ℕ → ℤ → List ℤ → Type 0
MakesAfter alphabet packets before [] = before ≡ last_place (length packets)
MakesAfter alphabet packets before (e ∷ ends) =
    (before <ℤ e) × (well_formed alphabet (between packets before e) ≡ true) × MakesAfter alphabet packets e ends

-- A list of ends makes a body of packets well formed in an alphabet: before the first end stands -1.
abbrev pub Makes : ℕ → List ℕ → List ℤ → Type 0
Makes alphabet packets ends = MakesAfter alphabet packets (negsuc 0) ends
