-- `dsqdata::set_runs::read_run`: the bytes of the run's packets, read. Assumes nothing.
use Rattle.dsqdata.proofs.FileBodies.{run_found}
use Rattle.dsqdata.proofs.set_runs.read_run.Goals as goal

pub returns : goal.returns
returns c =
    let a = c.args in
    let p = c.requires in
    let b = c.byte_of-start in
    let e = c.byte_of-end in
    run_found a.set.now.stated.order a.set.now.stated.alphabet a.set.now.files.sequence.now a.from.0 a.to.0 b.result.0 e.result.0 p.0 p.1 a.set.now.short b.ensures e.ensures
    c.read_run.result c.read_run.ensures
