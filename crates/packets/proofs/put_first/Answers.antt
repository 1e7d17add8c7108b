-- `packets::put_first`: one code more is written in each turn. Assumes nothing.
use mathlib.Core.Path.{◌≡◌, sym, ap, ◌∙◌}
use mathlib.Core.List.{List, ◌∷◌}
use Prim.Native.Nat.{ℕ, ◌+◌, ◌≤◌, ◌<◌}
use native.Mathlib.Omega.{arith}
use borrow.Author.Tests.{leb-true}
use lib.ListN.{length, take, drop, get_or, set}
use lib.Seq.{length-take-le}
use Rattle.laws.specs.Digits.{digits}
use Rattle.laws.proofs.Digits.{length_digits}
use Rattle.laws.proofs.Writing.{drop-step, write_step}
use Rattle.packets.proofs.Codes.{put_not, code_place}
use Rattle.packets.proofs.put_first.Goals as goal

pub loop-i-preserved : goal.loop-i-preserved
loop-i-preserved c =
    let a = c.args in
    let l = c.loop-i in
    let S = digits 5 6 a.packet in
    let n = length_digits 5 6 a.packet in
    let h : l.i < 6 = omega (arith, c.requires) in
    let room : a.at + a.count ≤ length a.out.now = leb-true _ _ (sym c.has_room.ensures ∙ c.if-has_room.true) in
    let x : c.code_at.result ≡ get_or S l.i 0 = c.code_at.ensures ∙ code_place a.packet l.i _ h (omega arith) in
    ap (λ (o : List ℕ). set o (a.at + l.i) c.code_at.result) l.invariant
    ∙ write_step a.out.now a.at S l.i c.code_at.result (drop (l.i + 1) S) (omega arith)
    (drop-step S l.i 0 (omega arith) ∙ ap (λ (v : ℕ). v ∷ drop (l.i + 1) S) (sym x))

pub returns-else-has_room : goal.returns-else-has_room
returns-else-has_room c =
    let a = c.args in
    let S = digits 5 6 a.packet in
    let n : length (take a.count S) ≡ a.count = length-take-le a.count S (omega (arith, c.requires, length_digits 5 6 a.packet)) in
    sym (put_not (take a.count S) a.at a.out.now (rw n (sym c.has_room.ensures ∙ c.if-has_room.false)))
