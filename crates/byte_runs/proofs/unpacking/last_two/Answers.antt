-- `byte_runs::unpacking::last_two`: two codes, each in its byte. Assumes nothing.
use Rattle.byte_runs.proofs.Blocks.{last_two}
use Rattle.byte_runs.proofs.unpacking.last_two.Goals as goal

pub returns : goal.returns
returns c = last_two c.args.packet
