-- `byte_runs::unpacking::fifteen_codes`: the first bytes of the four numbers are the codes. Assumes nothing.
use mathlib.Core.Path.{refl}
use Rattle.byte_runs.proofs.Blocks.{two_front}
use Rattle.byte_runs.proofs.unpacking.fifteen_codes.Goals as goal

pub returns : goal.returns
returns c = record {
  four = refl;
  front = two_front c.args.packet _ _ _ _ c.four_bases.ensures c.four_bases-2.ensures c.four_bases-3.ensures c.four_bases-4.ensures;
}
