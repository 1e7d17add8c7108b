-- `byte_runs::bytes::packet_by`: the number of its word in the order. Assumes nothing.
use mathlib.Core.Path.{◌∙◌}
use Rattle.byte_runs.proofs.Stores.{word_packet}
use Rattle.byte_runs.proofs.bytes.packet_by.Goals as goal

pub returns : goal.returns
returns c =
    c.number_by.ensures ∙ word_packet c.args.order c.args.bytes.now c.args.place.0 _ c.requires c.word_at.ensures
