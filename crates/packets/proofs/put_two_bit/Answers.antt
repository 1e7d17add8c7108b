-- `packets::put_two_bit`: four numbers of four codes each. Assumes nothing.
use mathlib.Core.Path.{refl, sym, ap, ◌∙◌}
use mathlib.Core.List.{List}
use Prim.Native.Nat.{ℕ, ◌+◌, ◌≤◌}
use borrow.Author.Tests.{leb-true}
use lib.ListN.{length}
use Rattle.laws.specs.Digits.{digits}
use Rattle.laws.proofs.Digits.{length_digits}
use Rattle.fields.specs.Number.{little}
use Rattle.fields.specs.Written.{number_put}
use Rattle.packets.proofs.Codes.{put_fits, put_not}
use Rattle.packets.proofs.Fours.{fours_written}
use Rattle.packets.proofs.put_two_bit.Goals as goal

pub returns-then-has_room : goal.returns-then-has_room
returns-then-has_room c =
    let a = c.args in
    let x₁ = c.four_codes in
    let x₂ = c.four_codes-then-has_room in
    let x₃ = c.four_codes-then-has_room-2 in
    let x₄ = c.four_codes-then-has_room-3 in
    let room : a.at + 15 ≤ length a.out.now = leb-true _ _ (sym c.has_room.ensures ∙ c.if-has_room.true) in
    c.store-then-has_room-3.ensures
    ∙ ap (λ (l : List ℕ). number_put little 4 (a.at + 11) x₄.result l)
    (c.store-then-has_room-2.ensures
    ∙ ap (λ (l : List ℕ). number_put little 4 (a.at + 8) x₃.result l)
    (c.store-then-has_room.ensures
    ∙ ap (λ (l : List ℕ). number_put little 4 (a.at + 4) x₂.result l) c.store.ensures))
    ∙ fours_written a.at a.out.now a.packet x₁.result x₂.result x₃.result x₄.result room x₁.ensures.codes x₂.ensures.codes x₃.ensures.codes x₄.ensures.codes
    ∙ sym (put_fits (digits 2 15 a.packet) (digits 2 15 a.packet) a.at a.out.now refl (rw (length_digits 2 15 a.packet) room))

pub returns-else-has_room : goal.returns-else-has_room
returns-else-has_room c =
    let a = c.args in
    sym (put_not (digits 2 15 a.packet) a.at a.out.now (rw (length_digits 2 15 a.packet) (sym c.has_room.ensures ∙ c.if-has_room.false)))
