-- When unpacking bytes succeeds, rule by rule as document 01 words them. Packing succeeds where `Packs` of crate runs holds, with a quarter of
-- the bytes as room. Assumes nothing.
use Rattle.std.specs.Prelude.{◌≡◌, List, ℕ, ◌%◌, ◌≤◌, length}
use Rattle.packets.specs.Bytes.{packets_of}
use Rattle.runs.specs.Rules.{RunUnpacks}

pub record UnpacksBytes (alphabet : ℕ) (bytes : List ℕ) (room : ℕ) : Type 0 where
  pub input_size : length bytes ≤ 2147483647
  -- a multiple of 4 bytes
  pub whole : length bytes % 4 ≡ 0
  pub run : RunUnpacks alphabet (packets_of bytes) room
