-- `elements::signed`: the upper half of the numbers of so many bytes are the negative ones. Assumes nothing.
use Prim.Native.Nat.{◌-◌, ◌*◌, ◌/◌, ◌^◌}
use lib.ListN.{length}
use Rattle.laws.proofs.Digits.{below_all}
use Rattle.elements.proofs.Parts.{Counted, largest, value-small, signed_low, signed_high}
use Rattle.elements.proofs.signed.Goals as goal

pub returns-then-x-most : goal.returns-then-x-most
returns-then-x-most c =
    let counted : Counted c.args.bytes.now c.number-x.result (18446744073709551615 / 2 ^ (64 - 8 * length c.args.bytes.now)) = record {
      some = c.requires.0;
      few = c.requires.1;
      small = below_all 256 c.args.bytes.now (λ i _. (c.type_inv.bytes i).fits);
      is = c.number-x.ensures;
      top = largest _ c.requires.1;
    } in
    signed_low counted c.if-x-most.true

pub overflow_sub-result : goal.overflow_sub-result
overflow_sub-result c =
    let counted : Counted c.args.bytes.now c.number-x.result (18446744073709551615 / 2 ^ (64 - 8 * length c.args.bytes.now)) = record {
      some = c.requires.0;
      few = c.requires.1;
      small = below_all 256 c.args.bytes.now (λ i _. (c.type_inv.bytes i).fits);
      is = c.number-x.ensures;
      top = largest _ c.requires.1;
    } in
    value-small counted

pub returns : goal.returns
returns c =
    let counted : Counted c.args.bytes.now c.number-x.result (18446744073709551615 / 2 ^ (64 - 8 * length c.args.bytes.now)) = record {
      some = c.requires.0;
      few = c.requires.1;
      small = below_all 256 c.args.bytes.now (λ i _. (c.type_inv.bytes i).fits);
      is = c.number-x.ensures;
      top = largest _ c.requires.1;
    } in
    signed_high counted c.if-x-most.false
