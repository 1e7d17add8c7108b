-- How much room packing takes (request 2026-08), over the definitions that the contracts of packing and unpacking cite.
-- Assumes nothing.
use Rattle.std.specs.Prelude.{◌≡◌, List, [], ◌∷◌, ℕ, ◌+◌, ◌*◌, ◌≤◌, ◌<◌, length}
use Rattle.packets.specs.Packing.{run}
use Rattle.packets.specs.Runs.{unpacked}
use Rattle.packets.specs.Rules.{WellFormed}
use Rattle.runs.specs.Rules.{Packable}
use Rattle.demands.specs.Packets.{PackCall}

-- ---- the shortest run

-- Packets hold codes in an alphabet: they are a well-formed run, rule by rule, that unpacks to them.
pub record RunOf (alphabet : ℕ) (codes packets : List ℕ) : Type 0 where
  pub well_formed : WellFormed alphabet packets
  pub unpacks : unpacked packets ≡ codes

-- Packets are a run of the codes, and no run of the same codes in the same alphabet is shorter.
pub record ShortestRun (alphabet : ℕ) (codes packets : List ℕ) : Type 0 where
  pub is_run : RunOf alphabet codes packets
  pub none_shorter : (others : List ℕ) → RunOf alphabet codes others → length packets ≤ length others

-- A number is n/d rounded up: the least of which d times is at least n.
pub record RoundedUp (n d quotient : ℕ) : Type 0 where
  pub reaches : n ≤ d * quotient
  pub least : (m : ℕ) → n ≤ d * m → quotient ≤ m

-- ---- room for it

-- What the room decides of a packing call into a buffer of so many packets.
pub record RoomDecides (call : PackCall) (codes buffer : List ℕ) (room place : ℕ) : Type 0 where
  -- with the packets of the run from the place on the call is never refused with 13, whatever else is wrong
  pub enough : place + length (run call.alphabet codes) ≤ room → call.number codes buffer place ≡ 13 → ⊥
  -- and it succeeds if packing takes the alphabet and the codes
  pub succeeds : Packable call.alphabet codes → place + length (run call.alphabet codes) ≤ room → call.number codes buffer place ≡ 0
  -- with one packet fewer, or fewer still, it is then always refused with 13
  pub too_few : Packable call.alphabet codes → room < place + length (run call.alphabet codes) → call.number codes buffer place ≡ 13
  -- the numbers that it reports where it succeeds are the length of the run, and L
  pub reports : call.number codes buffer place ≡ 0
      → call.returned codes buffer place ≡ call.as_returned (length (run call.alphabet codes) ∷ length codes ∷ [])
