-- `elements::integer`: a byte 02 stands within the slice, and its bytes are those of the part. Assumes nothing.
use native.Mathlib.Omega.{arith}
use mathlib.Core.Path.{sym, ap, ◌∙◌}
use mir.Syntax.{w64}
use mir.ValLaws.{to_z-of_z}
use Rattle.std.specs.Prelude.{Ok}
use Rattle.std.proofs.Common.{rules}
use Rattle.elements.specs.Parts.{integer_at}
use Rattle.elements.proofs.Parts.{integer-is, integer-read, part_length, part_number}
use Rattle.elements.proofs.integer.Goals as goal

pub returns-then-byte-ne2 : goal.returns-then-byte-ne2
unfolding integer_at
returns-then-byte-ne2 c = search rules

pub returns-in_err-part : goal.returns-in_err-part
unfolding integer_at
returns-in_err-part c = search rules

pub overflow_add-part : goal.overflow_add-part
overflow_add-part c = let r = integer-read _ _ _ (sym c.in_ok-part.ensures) in omega (arith, r.fits)

pub slice_bounds-signed-end : goal.slice_bounds-signed-end
slice_bounds-signed-end c = let r = integer-read _ _ _ (sym c.in_ok-part.ensures) in omega (arith, r.fits)

pub signed-requires : goal.signed-requires
signed-requires c =
    let r = integer-read _ _ _ (sym c.in_ok-part.ensures) in
    let e = part_length _ _ _ r.fits in
    (omega (arith, e, r.some), omega (arith, e, r.few))

pub returns : goal.returns
returns c =
    let r = integer-read _ _ _ (sym c.in_ok-part.ensures) in
    ap Ok (to_z-of_z w64 _ (record { sfits = c.signed.type_inv }) ∙ c.signed.ensures ∙ part_number _ _ _ r.fits)
    ∙ integer-is _ _ _ c.byte.ensures c.if-byte-ne2.false c.integer_part.ensures c.in_ok-part.was
