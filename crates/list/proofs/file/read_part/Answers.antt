use Rattle.list.proofs.Taken.{taken, taken_again}
use Rattle.list.proofs.file.read_part.Goals as goal

pub returns-clause-first : goal.returns-clause-first
returns-clause-first g c =
    taken_again _ 16385 c.read_to_end.new.buf.items c.truncate.new.self.items c.truncate.ensures.items
    (taken g.R.Read.remaining c.take.result c.args.file 16385 c.new-bytes.result.items c.read_to_end.new.buf.items c.take.ensures.limit c.take.ensures.inner c.new-bytes.ensures.items c.in_ok-read_to_end.ensures.bytes)
