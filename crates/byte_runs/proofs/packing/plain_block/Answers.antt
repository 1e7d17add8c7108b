-- `byte_runs::packing::plain_block`: whether the codes so far are below 4. Assumes nothing.
use mathlib.Core.Path.{◌≡◌, sym}
use native.Mathlib.Omega.{arith}
use borrow.Author.Tests.{le-ltb, lt-ltb}
use lib.ListN.{length, take}
use lib.Seq.{get_or-take, length-take-le}
use Rattle.byte_runs.proofs.Twos.{plain-none, plain_step}
use Rattle.byte_runs.proofs.packing.plain_block.Goals as goal

pub returns-then-codes-le240 : goal.returns-then-codes-le240
returns-then-codes-le240 c = rw (le-ltb 240 (length c.args.codes.now) c.if-codes-le240.true)

pub slice_bounds-code-items-end : goal.slice_bounds-code-items-end
slice_bounds-code-items-end c = sym (length-take-le 240 c.args.codes.now (omega arith))

pub loop-code-init : goal.loop-code-init
loop-code-init c = plain-none c.args.codes.now

pub loop-code-preserved : goal.loop-code-preserved
loop-code-preserved c =
    let cs = c.args.codes.now in
    let n : length (take 240 cs) ≡ 240 = length-take-le 240 cs (omega arith) in
    plain_step c.loop-code.code-index c.loop-code.any _ cs c.loop-code.invariant (omega arith) (get_or-take 240 cs c.loop-code.code-index 0 (omega arith))

pub returns : goal.returns
returns c =
    let cs = c.args.codes.now in
    let n : c.loop-code.code-index ≡ 240 = omega (arith, length-take-le 240 cs (omega arith)) in
    rw (lt-ltb 240 (length cs) (omega arith)) (rw n at c.loop-code.invariant)
