-- `packets::encoding::valid_codes`: the largest code is valid exactly when all are. Assumes nothing.
use Rattle.residues.specs.Alphabets.{code_limit}
use Rattle.laws.proofs.Numbers.{largest-below}
use Rattle.packets.proofs.Packing.{limit_some}
use Rattle.packets.proofs.encoding.valid_codes.Goals as goal

pub returns : goal.returns
returns c =
    let a = c.args in
    rw (c.largest_code.ensures, c.code_limit.ensures) (largest-below (code_limit a.alphabet) a.codes.now (limit_some a.alphabet))
