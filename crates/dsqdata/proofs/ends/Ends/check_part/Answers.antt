-- `dsqdata::ends::Ends::check_part`: the tests are the rules of the two ends. Assumes nothing.
use Rattle.dsqdata.proofs.Parts.{part_low, part_falls, part_high, part_passed}
use Rattle.dsqdata.proofs.ends.Ends.check_part.Goals as goal
use Rattle.dsqdata.proofs.ends.Ends.check_part.Goals.{then-before-ltminus1-via-then-before-ltminus1, then-before-ltminus1-via-else-before-ltminus1+then-before-end, then-before-ltminus1-via-else-before-ltminus1+else-before-end+then-end-gt2147483646}

pub returns-then-before-ltminus1 : goal.returns-then-before-ltminus1
returns-then-before-ltminus1 c =
    let a = c.args in let t = c.args.self.now in
    let b = c.before-before in
    let e = c.before-end in
    elim c.then-before-ltminus1.branch [
      | then-before-ltminus1-via-then-before-ltminus1 w ↦ part_low t.order t.index.now t.table a.k b.type_inv e.type_inv b.ensures e.ensures w.if-before-ltminus1.true
      | then-before-ltminus1-via-else-before-ltminus1+then-before-end w ↦ part_falls t.order t.index.now t.table a.k b.type_inv e.type_inv b.ensures e.ensures w.if-before-ltminus1.false w.if-before-end.true
      | then-before-ltminus1-via-else-before-ltminus1+else-before-end+then-end-gt2147483646 w ↦ part_high t.order t.index.now t.table a.k b.type_inv e.type_inv b.ensures e.ensures w.if-before-ltminus1.false w.if-before-end.false w.if-end-gt2147483646.true
    ]

pub returns : goal.returns
returns c =
    let a = c.args in let t = c.args.self.now in
    let b = c.before-before in
    let e = c.before-end in
    part_passed t.order t.index.now t.table a.k b.type_inv e.type_inv b.ensures e.ensures c.if-before-ltminus1.false c.if-before-end.false c.if-end-gt2147483646.false
