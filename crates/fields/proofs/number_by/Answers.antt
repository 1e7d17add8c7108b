-- `fields::number_by`: big-endian, the bytes are turned. Assumes nothing.
use Prim.Native.Nat.{◌/◌, ◌%◌}
use native.Mathlib.Omega.{arith}
use Rattle.fields.proofs.Laws.{big_word}
use Rattle.fields.proofs.number_by.Goals as goal

pub returns-in-Big : goal.returns-in-Big
returns-in-Big c = let n = c.args.bytes in
    let e = c.swap_bytes.ensures in
    rw c.in-Big.is (omega (arith, e, big_word (n % 256) (n / 256 % 256) (n / 256 / 256 % 256) (n / 256 / 256 / 256 % 256)))
