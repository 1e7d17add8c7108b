-- `byte_runs::unpacking::any_codes`: the numbers of one way or the other. Assumes nothing.
use mathlib.Core.Path.{refl}
use Rattle.byte_runs.proofs.Blocks.{any_front}
use Rattle.byte_runs.proofs.unpacking.any_codes.Goals as goal

pub returns : goal.returns
returns c = record {
  four = refl;
  front =
      rw (c.pick.ensures, c.pick-2.ensures)
      (any_front c.args.packet c.six_codes.result c.fifteen_codes.result c.six_codes.ensures c.fifteen_codes.ensures);
}
