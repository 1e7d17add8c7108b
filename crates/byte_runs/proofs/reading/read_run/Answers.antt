-- `byte_runs::reading::read_run`: the packets before the last at once; the last one decides. Assumes nothing.
use mathlib.Core.Path.{◌≡◌, sym, ◌∙◌}
use Prim.Native.Nat.{◌+◌, ◌-◌, ◌/◌}
use native.Mathlib.Omega.{arith}
use borrow.Author.Tests.{eq-eqb, ne_eqb}
use lib.ListN.{length}
use Rattle.packets.specs.Bytes.{packets_by}
use Rattle.packets.proofs.Bytes.{length-packets}
use Rattle.packets.proofs.Reading.{found_none, found_broken, found_open, found_most, found_run}
use Rattle.byte_runs.proofs.Answers.{read_fits, read-large}
use Rattle.byte_runs.proofs.reading.read_run.Goals as goal

pub returns-then-bytes-gt-MOST_BYTES : goal.returns-then-bytes-gt-MOST_BYTES
returns-then-bytes-gt-MOST_BYTES c = read-large c.args.order c.args.alphabet c.args.bytes.now c.if-bytes-gt-MOST_BYTES.true

pub returns-then-count-eq0 : goal.returns-then-count-eq0
returns-then-count-eq0 c =
    let a = c.args in
    rw (read_fits a.order a.alphabet a.bytes.now c.if-bytes-gt-MOST_BYTES.false)
    (found_none a.alphabet (packets_by a.order a.bytes.now) (omega (arith, length-packets a.order a.bytes.now)))

pub returns-then-inner_faults-ne0 : goal.returns-then-inner_faults-ne0
returns-then-inner_faults-ne0 c =
    let a = c.args in
    let f = c.inner_faults in
    let ps = packets_by a.order a.bytes.now in
    let end : length a.bytes.now / 4 - 1 + 1 ≡ length ps = omega (arith, length-packets a.order a.bytes.now) in
    rw (read_fits a.order a.alphabet a.bytes.now c.if-bytes-gt-MOST_BYTES.false)
    (found_broken a.alphabet ps (length a.bytes.now / 4 - 1) end (sym f.ensures ∙ ne_eqb f.result 0 c.if-inner_faults-ne0.true))

pub returns-then-not-is_last : goal.returns-then-not-is_last
returns-then-not-is_last c =
    let a = c.args in
    let f = c.inner_faults in
    let ps = packets_by a.order a.bytes.now in
    let end : length a.bytes.now / 4 - 1 + 1 ≡ length ps = omega (arith, length-packets a.order a.bytes.now) in
    rw (read_fits a.order a.alphabet a.bytes.now c.if-bytes-gt-MOST_BYTES.false)
    (found_open a.alphabet ps (length a.bytes.now / 4 - 1) end (sym f.ensures ∙ eq-eqb f.result 0 c.if-inner_faults-ne0.false) _ c.packet_by-packet.ensures _
    c.is_last.ensures c.if-not-is_last.true)

pub inner_codes-requires : goal.inner_codes-requires
inner_codes-requires c =
    let f = c.inner_faults in
    record { count_in_bounds = (omega arith, omega arith); count_value = sym f.ensures ∙ eq-eqb f.result 0 c.if-inner_faults-ne0.false }

pub overflow_add-result : goal.overflow_add-result
overflow_add-result c =
    let a = c.args in
    let f = c.inner_faults in
    let m = c.inner_codes in
    let k = c.residue_count in
    let ps = packets_by a.order a.bytes.now in
    let end : length a.bytes.now / 4 - 1 + 1 ≡ length ps = omega (arith, length-packets a.order a.bytes.now) in
    let most = found_most a.alphabet ps (length a.bytes.now / 4 - 1) end (sym f.ensures ∙ eq-eqb f.result 0 c.if-inner_faults-ne0.false) _ c.packet_by-packet.ensures _
    c.is_last.ensures m.result k.result m.ensures k.ensures in
    omega (arith, length-packets a.order a.bytes.now)

pub returns : goal.returns
returns c =
    let a = c.args in
    let f = c.inner_faults in
    let ps = packets_by a.order a.bytes.now in
    let end : length a.bytes.now / 4 - 1 + 1 ≡ length ps = omega (arith, length-packets a.order a.bytes.now) in
    rw (read_fits a.order a.alphabet a.bytes.now c.if-bytes-gt-MOST_BYTES.false)
    (found_run a.alphabet ps (length a.bytes.now / 4 - 1) end (sym f.ensures ∙ eq-eqb f.result 0 c.if-inner_faults-ne0.false) _ c.packet_by-packet.ensures _
    c.is_last.ensures _ _ c.inner_codes.ensures c.residue_count.ensures c.if-not-is_last.false)
