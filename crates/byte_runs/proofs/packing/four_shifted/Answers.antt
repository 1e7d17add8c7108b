-- `byte_runs::packing::four_shifted`: every four codes were tried. Assumes nothing.
use native.Mathlib.Omega.{arith}
use Rattle.byte_runs.proofs.Twos.{pairs_low, pairs_high, shifted_moved}
use Rattle.byte_runs.proofs.packing.four_shifted.Goals as goal

pub returns : goal.returns
returns c = record { value = shifted_moved c.args.codes c.requires; small = omega (arith, pairs_low c.args.codes, pairs_high c.args.codes) }
