-- `dsqdata::ends::Ends::check`: the ends passed rise from -1 on, and `before` is the last of them. Assumes nothing.
use Rattle.std.proofs.Common.{◌≡◌, refl, sym, ap, ◌∙◌, arith, true, false}
use mir.Syntax.{w64}
use borrow.Author.Tests.{eq-eqb, ne_eqb}
use Rattle.laws.specs.Places.{every}
use Rattle.laws.proofs.Places.{every_more, every-fails}
use Rattle.laws.proofs.Signed.{again}
use Rattle.packets.specs.Ends.{after}
use Rattle.dsqdata.specs.Ends.{end_before, rises_at}
use Rattle.dsqdata.specs.Check.{ends_rules}
use Rattle.dsqdata.proofs.Rising.{end_zero, end_next, rises-is}
use Rattle.dsqdata.proofs.ends.Ends.check.Goals as goal

pub loop-k-init : goal.loop-k-init
loop-k-init c = let a = c.args in let t = c.args.self.now in (sym (end_zero t.order t.index.now t.table 0 refl), refl)

pub returns-then-before-end : goal.returns-then-before-end
unfolding ends_rules
returns-then-before-end c =
    let l = c.loop-k in
    let a = c.args in let t = c.args.self.now in
    let z = c.read-end in
    let f = rises-is t.order t.index.now t.table l.k true l.invariant.0 z.type_inv z.ensures c.if-before-end.true in
    rw (every-fails (rises_at t.order t.index.now t.table) a.n l.k (omega arith) f)

pub loop-k-preserved : goal.loop-k-preserved
loop-k-preserved c =
    let l = c.loop-k in
    let a = c.args in let t = c.args.self.now in
    let z = c.read-end in
    let f = rises-is t.order t.index.now t.table l.k false l.invariant.0 z.type_inv z.ensures c.if-before-end.false in (
      again w64 _ _ z.type_inv z.ensures ∙ sym (end_next t.order t.index.now t.table l.k),
      every_more (rises_at t.order t.index.now t.table) l.k l.invariant.1 f,
    )

pub returns-then-count_to-size : goal.returns-then-count_to-size
unfolding ends_rules
returns-then-count_to-size c =
    let l = c.loop-k in
    let a = c.args in let t = c.args.self.now in
    let n : l.k ≡ a.n = omega arith in
    let f : every (rises_at t.order t.index.now t.table) a.n ≡ true = rw n at l.invariant.1 in
    let m : c.count_to.result ≡ after (end_before t.order t.index.now t.table a.n) = c.count_to.ensures.value ∙ ap after (rw n at l.invariant.0) in
    rw (f, ne_eqb _ _ (λ e. c.if-count_to-size.true (m ∙ e)))

pub returns : goal.returns
unfolding ends_rules
returns c =
    let l = c.loop-k in
    let a = c.args in let t = c.args.self.now in
    let n : l.k ≡ a.n = omega arith in
    let f : every (rises_at t.order t.index.now t.table) a.n ≡ true = rw n at l.invariant.1 in
    let m : c.count_to.result ≡ after (end_before t.order t.index.now t.table a.n) = c.count_to.ensures.value ∙ ap after (rw n at l.invariant.0) in
    rw (f, eq-eqb _ _ (sym m ∙ c.if-count_to-size.false))
