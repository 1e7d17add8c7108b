-- `byte_runs::unpacking::four_bases`: two pairs parted at once. Assumes nothing.
use Rattle.byte_runs.proofs.Blocks.{four_bases}
use Rattle.byte_runs.proofs.unpacking.four_bases.Goals as goal

pub returns : goal.returns
returns c = four_bases c.args.bits (c.requires)
