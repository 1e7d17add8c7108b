-- `byte_runs::unpacking::first_four`: four codes, each in its byte. Assumes nothing.
use Rattle.byte_runs.proofs.Blocks.{first_four}
use Rattle.byte_runs.proofs.unpacking.first_four.Goals as goal

pub returns : goal.returns
returns c = first_four c.args.packet
