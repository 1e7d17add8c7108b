-- What decoding can answer for a sequence of a volume that passes the volume check. proofs/Checked.antt shows it.
-- Assumes nothing.
use Rattle.std.specs.Prelude.{◌≡◌, List, ◌⊎◌, ℕ, ◌<◌, Ok, Err}
use Rattle.answers.specs.declared.Refusal.TheVariants.{BadProteinByte, BadAmbiguity, NoRoom}
use Rattle.volume.specs.Tables.{sequence_length}
use Rattle.sequence.specs.Sequence.{decode_answer}

-- L, the length that the check summed; 11 or 12; or 13, and that only where the room is below L.
abbrev pub OnlyResidues : List ℕ → List ℕ → ℕ → ℕ → Type 0
OnlyResidues index sequence i room =
    (decode_answer index sequence i room ≡ Ok (sequence_length index sequence i))
    ⊎ ((decode_answer index sequence i room ≡ Err BadProteinByte)
    ⊎ ((decode_answer index sequence i room ≡ Err BadAmbiguity)
    ⊎ ((decode_answer index sequence i room ≡ Err NoRoom) × (room < sequence_length index sequence i))))
