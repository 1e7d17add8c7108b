-- `nucleotides::pieces::piece_length`: the codes passed are one code; where the loop ends, the piece does. Assumes nothing.
use mathlib.Core.Path.{◌≡◌, sym, ◌∙◌}
use mathlib.Core.Logic.{inl, inr}
use Prim.Native.Nat.{◌+◌, ◌≤◌}
use native.Mathlib.Omega.{arith}
use lib.ListN.{length}
use Rattle.nucleotides.specs.Pieces.{limit_of}
use Rattle.nucleotides.proofs.Entries.{limit-positive}
use Rattle.nucleotides.proofs.Stretches.{piece_told, alike_one}
use Rattle.nucleotides.proofs.pieces.piece_length.Goals as goal
use Rattle.nucleotides.proofs.pieces.piece_length.Goals.{then-codes-at-via-then-codes-at, then-codes-at-via-else-codes-at+then-codes-at-2}

pub loop-n-init : goal.loop-n-init
loop-n-init c = let a = c.args in (omega (arith, c.requires), alike_one a.codes.now a.at)

pub returns-then-codes-at-clause-value : goal.returns-then-codes-at-clause-value
returns-then-codes-at-clause-value c =
    let a = c.args in
    let n = c.loop-n.n in
    let v = c.loop-n.invariant in
    let most : n ≤ limit_of a.width = omega (arith, c.loop-n-test.true, c.most_repeat-limit.ensures.value) in
    let told = piece_told (limit_of a.width) a.codes.now a.at n (limit-positive a.width) c.requires in
    elim c.then-codes-at.branch [
      | then-codes-at-via-then-codes-at w ↦
          let e : a.at + n ≡ length a.codes.now = omega (arith, v.0, w.if-codes-at.true) in
          (told (record { some = omega (arith, c.loop-n.auto); most = most; inside = v.0; one = v.1; whole = inr (inl e) })).0
      | then-codes-at-via-else-codes-at+then-codes-at-2 w ↦
          (told (record { some = omega (arith, c.loop-n.auto); most = most; inside = v.0; one = v.1; whole = inr (inr w.if-codes-at-2.true) })).0
    ]

pub returns-clause-value : goal.returns-clause-value
returns-clause-value c =
    let a = c.args in
    let n = c.loop-n.n in
    let v = c.loop-n.invariant in
    let limit = c.most_repeat-limit.ensures in
    let e : n ≡ limit_of a.width = omega (arith, c.loop-n.auto, c.loop-n-test.false, limit) in
    let told = piece_told (limit_of a.width) a.codes.now a.at n (limit-positive a.width) c.requires
    (record { some = omega (arith, c.loop-n.auto); most = omega (arith, e); inside = v.0; one = v.1; whole = inl e }) in
    limit.value ∙ sym e ∙ told.0
