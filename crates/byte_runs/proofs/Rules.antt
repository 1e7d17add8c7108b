-- Unpacking bytes succeeds exactly when document 01's rules hold, one by one. Assumes nothing.
use mathlib.Core.Path.{◌≡◌, ◌∙◌}
use mathlib.Core.List.{List}
use Prim.Native.Nat.{ℕ}
use Rattle.packets.specs.Bytes.{packets_of}
use Rattle.std.specs.Prelude.{Ok}
use Rattle.runs.specs.Answers.{unpacked_size}
use Rattle.runs.specs.declared.RunSize.{RunSize}
use Rattle.runs.proofs.Answers.{run-done}
use Rattle.runs.proofs.Rules.{run_must, run_may}
use Rattle.byte_runs.specs.Bytes.{unpack_bytes_answer}
use Rattle.byte_runs.specs.Rules.{UnpacksBytes}
use Rattle.byte_runs.proofs.Answers.{unpack_bytes_as, unpacked-bytes_may}

module _ (a : ℕ) (bytes : List ℕ) (room : ℕ) where
  -- Where the rules hold unpacking answers 0, the run's packets and L.
  pub rules_unpack_bytes : UnpacksBytes a bytes room
      → unpack_bytes_answer a bytes room ≡ Ok (unpacked_size (packets_of bytes))
  rules_unpack_bytes r =
      unpack_bytes_as a bytes room r.input_size r.whole ∙ run-done a (packets_of bytes) room (run_must a (packets_of bytes) room r.run)

  -- Where unpacking answers 0 the rules hold.
  pub unpacked-bytes_rules : (size : RunSize) → unpack_bytes_answer a bytes room ≡ Ok size → UnpacksBytes a bytes room
  unpacked-bytes_rules size e =
      let m = unpacked-bytes_may a bytes room size e in
      record { input_size = m.0; whole = m.1; run = run_may a (packets_of bytes) room m.2 }
