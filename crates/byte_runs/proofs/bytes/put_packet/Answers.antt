-- `byte_runs::bytes::put_packet`: its four bytes. Assumes nothing.
use mathlib.Core.Path.{◌∙◌}
use Rattle.byte_runs.proofs.Stores.{packet_put}
use Rattle.byte_runs.proofs.bytes.put_packet.Goals as goal

pub returns : goal.returns
returns c = c.store.ensures ∙ packet_put c.args.packet c.args.place.0 _ c.args.out.now c.start_of.ensures
