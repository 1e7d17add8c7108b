-- `byte_runs::unpacking::put_block`: sixteen packets of one kind, or of both. Assumes nothing.
use mathlib.Core.Path.{◌≡◌, refl, sym, ◌∙◌}
use mathlib.Core.Bool.{true, false}
use native.Mathlib.Omega.{arith}
use Prim.Native.Nat.{◌+◌}
use Rattle.laws.proofs.Begun.{begun_written, begun_wider}
use Rattle.residues.specs.Alphabets.{is_amino}
use Rattle.packets.specs.Bytes.{packets_of}
use Rattle.packets.specs.Decoded.{codes_from}
use Rattle.packets.proofs.Behind.{no_fives}
use Rattle.byte_runs.specs.Blocks.{margin}
use Rattle.byte_runs.proofs.Blocks.{fives-count, twos-count, front-is, taken_codes, taken_all}
use Rattle.byte_runs.proofs.unpacking.put_block.Goals as goal

pub put_sixes-requires : goal.put_sixes-requires
put_sixes-requires c =
    let ps = packets_of c.args.block.now in
    let all = c.requires.all_of (sym c.is_amino.ensures ∙ c.if-is_amino.true) in
    record {
      in_bounds = (c.requires.in_bounds.0, omega (arith, c.requires.in_bounds.1, fives-count ps 16 16 all (omega arith)));
      all_of = all;
    }

pub overflow_add-result : goal.overflow_add-result
overflow_add-result c =
    let ps = packets_of c.args.block.now in
    let all = c.requires.all_of (sym c.is_amino.ensures ∙ c.if-is_amino.true) in
    omega (arith, c.requires.in_bounds.1, fives-count ps 16 16 all (omega arith))

pub returns-then-is_amino : goal.returns-then-is_amino
returns-then-is_amino c =
    let a = c.args in
    let ps = packets_of a.block.now in
    let t : is_amino a.alphabet ≡ true = sym c.is_amino.ensures ∙ c.if-is_amino.true in
    let n = fives-count ps 16 16 (c.requires.all_of t) (omega arith) in
    record {
      behind = omega arith;
      codes =
          rw (c.put_sixes.ensures, t)
          (begun_written a.place (a.place + 96 + 0) (codes_from ps 0 16) (codes_from ps 0 16) a.out.now (front-is _ _ refl) (omega arith)
          (omega (arith, c.requires.in_bounds.1)));
    }

pub put_bases-requires : goal.put_bases-requires
put_bases-requires c =
    let ps = packets_of c.args.block.now in
    let f : is_amino c.args.alphabet ≡ false = sym c.is_amino.ensures ∙ c.if-is_amino.false in
    let m : margin c.args.alphabet ≡ 10 = rw f in
    let all = no_fives ps 16 (sym c.five_bit_packets.ensures ∙ c.if-five_bit_packets-eq0.true) in
    record {
      in_bounds = omega (arith, c.requires.in_bounds.1, twos-count ps 16 16 all (omega arith));
      all_of = taken_all ps _ c.sixteen_packets-packets.ensures false all;
    }

pub returns-then-five_bit_packets-eq0 : goal.returns-then-five_bit_packets-eq0
returns-then-five_bit_packets-eq0 c =
    let a = c.args in
    let ps = packets_of a.block.now in
    let f : is_amino a.alphabet ≡ false = sym c.is_amino.ensures ∙ c.if-is_amino.false in
    let all = no_fives ps 16 (sym c.five_bit_packets.ensures ∙ c.if-five_bit_packets-eq0.true) in
    let e = taken_codes ps c.sixteen_packets-packets.result c.sixteen_packets-packets.ensures in
    record {
      behind = omega (arith, twos-count ps 16 16 all (omega arith));
      codes =
          rw f
          (begun_wider a.place (a.place + 241) (a.place + 240 + 10) (codes_from ps 0 16) a.out.now _ (omega arith) (rw e at c.put_bases.ensures));
    }

pub put_mixed-requires : goal.put_mixed-requires
put_mixed-requires c =
    let ps = packets_of c.args.block.now in
    let f : is_amino c.args.alphabet ≡ false = sym c.is_amino.ensures ∙ c.if-is_amino.false in
    let m : margin c.args.alphabet ≡ 10 = rw f in
    rw (taken_codes ps c.sixteen_packets-packets.result c.sixteen_packets-packets.ensures) (omega (arith, c.requires.in_bounds.1))

pub returns : goal.returns
returns c =
    let ps = packets_of c.args.block.now in
    let f : is_amino c.args.alphabet ≡ false = sym c.is_amino.ensures ∙ c.if-is_amino.false in
    let e = taken_codes ps c.sixteen_packets-packets.result c.sixteen_packets-packets.ensures in
    record { behind = rw e at c.put_mixed.ensures.behind; codes = rw f (rw e at c.put_mixed.ensures.codes) }
