-- `byte_runs::packing::five_packet`: the bytes of the two numbers are the codes. Assumes nothing.
use mathlib.Core.Path.{◌∙◌}
use Rattle.byte_runs.proofs.Fives.{six_codes, six_packet_lem}
use Rattle.byte_runs.proofs.packing.five_packet.Goals as goal

pub six_of-requires : goal.six_of-requires
six_of-requires c = six_codes c.args.next.now c.requires.0 c.requires.1 c.four_at.result c.two_at.result c.four_at.ensures.value c.two_at.ensures

pub returns : goal.returns
returns c =
    c.six_of.ensures
    ∙ six_packet_lem c.args.next.now c.requires.0 c.requires.1 c.four_at.result c.two_at.result c.four_at.ensures.value c.two_at.ensures
