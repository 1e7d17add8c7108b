-- `byte_runs::unpacking::six_codes`: the bytes of the two numbers are the codes. Assumes nothing.
use Rattle.byte_runs.proofs.Blocks.{six_parts}
use Rattle.byte_runs.proofs.unpacking.six_codes.Goals as goal

pub returns : goal.returns
returns c = six_parts c.args.packet c.first_four.result c.last_two.result c.first_four.ensures c.last_two.ensures
