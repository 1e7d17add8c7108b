-- `byte_runs::packing::write_amino_run`: the whole packets, and the last one behind them. Assumes nothing.
use mathlib.Core.Path.{ap, ◌∙◌}
use native.Mathlib.Omega.{arith}
use Prim.Native.Nat.{ℕ, ◌-◌, ◌*◌}
use Rattle.runs.proofs.Turns.{packet-is}
use Rattle.byte_runs.proofs.Runs.{amino_count, amino_bytes}
use Rattle.byte_runs.proofs.packing.write_amino_run.Goals as goal

pub put_packet-requires : goal.put_packet-requires
put_packet-requires c = omega (
  arith,
  c.requires.1,
  amino_count c.args.codes.now
      (c.sixes_of-whole.result - 1) (ap (λ (n : ℕ). n - 1)
      c.sixes_of-whole.ensures),
)

pub write_fives-requires : goal.write_fives-requires
write_fives-requires c = (
  omega (arith, c.sixes_of-whole.ensures),
  c.requires.0,
  omega (
    arith,
    c.requires.1,
    amino_count c.args.codes.now (c.sixes_of-whole.result - 1)
        (ap (λ (n : ℕ). n - 1) c.sixes_of-whole.ensures),
  ),
)

pub returns : goal.returns
returns c = record {
  count = amino_count c.args.codes.now
      (c.sixes_of-whole.result - 1) (ap (λ (n : ℕ). n - 1)
      c.sixes_of-whole.ensures);
  bytes = c.put_packet.ensures ∙ amino_bytes c.args.codes.now
      (c.sixes_of-whole.result - 1) (ap (λ (n : ℕ). n - 1)
      c.sixes_of-whole.ensures) c.args.out.now _
      c.encode-next.result.packet c.write_fives.ensures
      (packet-is 3 c.args.codes.now (6 *
      (c.sixes_of-whole.result - 1))
      c.encode-next.result.packet
      c.requires.0
      c.encode-next.ensures.packet)
      c.requires.1;
}
