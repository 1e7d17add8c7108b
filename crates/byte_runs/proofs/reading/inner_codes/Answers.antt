-- `byte_runs::reading::inner_codes`: six codes to each packet of an amino run; otherwise fifteen, less nine to one of 5-bit codes. Assumes nothing.
use mathlib.Core.Path.{sym, ◌∙◌}
use native.Mathlib.Omega.{arith}
use borrow.Author.Tests.{eqb-true}
use Rattle.packets.specs.Bytes.{packets_by}
use Rattle.packets.proofs.Reading.{codes_amino, codes-fives}
use Rattle.byte_runs.proofs.reading.inner_codes.Goals as goal

pub returns-else-is_amino : goal.returns-else-is_amino
returns-else-is_amino c =
    let a = c.args in
    omega (arith, c.five_bit_packets.ensures, codes-fives (packets_by a.order a.bytes.now) a.count)

pub overflow_sub-result : goal.overflow_sub-result
overflow_sub-result c =
    let a = c.args in
    omega (arith, c.five_bit_packets.ensures, codes-fives (packets_by a.order a.bytes.now) a.count)

pub returns-then-is_amino : goal.returns-then-is_amino
returns-then-is_amino c =
    let a = c.args in
    sym (codes_amino a.alphabet (packets_by a.order a.bytes.now) a.count (eqb-true a.alphabet 3 (sym c.is_amino.ensures ∙ c.if-is_amino.true)) c.requires.count_value)

pub five_bit_packets-requires : goal.five_bit_packets-requires
five_bit_packets-requires c = c.requires.count_in_bounds
