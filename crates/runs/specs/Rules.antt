-- When packing and unpacking succeed, rule by rule as document 01 words them.
-- Assumes nothing.
use Rattle.std.specs.Prelude.{List, ℕ, ◌+◌, ◌≤◌, ◌<◌, length, get_or}
use Rattle.residues.specs.Alphabets.{code_limit}
use Rattle.packets.specs.Packing.{run}
use Rattle.packets.specs.Runs.{unpacked}
use Rattle.packets.specs.Rules.{WellFormed}

-- What packing asks of an alphabet and codes, whatever the buffer.
pub record Packable (alphabet : ℕ) (codes : List ℕ) : Type 0 where
  -- an input byte range has at most 2,147,483,647 bytes
  pub input_size : length codes ≤ 2147483647
  -- the alphabet is 1, 2 or 3
  pub known : (1 ≤ alphabet) × (alphabet ≤ 3)
  -- every code is valid
  pub valid : (k : ℕ) → k < length codes → get_or codes k 0 < code_limit alphabet

pub record Packs (alphabet : ℕ) (codes : List ℕ) (room place : ℕ) : Type 0 where
  pub packable : Packable alphabet codes
  -- the run fits from its place on
  pub fits : place + length (run alphabet codes) ≤ room

-- What unpacking asks of a run and its output.
pub record RunUnpacks (alphabet : ℕ) (packets : List ℕ) (room : ℕ) : Type 0 where
  pub known : (1 ≤ alphabet) × (alphabet ≤ 3)
  pub well_formed : WellFormed alphabet packets
  -- the output has room for the residues
  pub fits : length (unpacked packets) ≤ room

pub record Unpacks (alphabet : ℕ) (packets : List ℕ) (room : ℕ) : Type 0 where
  -- an input packet range has at most 536,870,912 packets
  pub input_size : length packets ≤ 536870912
  pub run : RunUnpacks alphabet packets room
