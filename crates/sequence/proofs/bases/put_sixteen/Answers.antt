-- `sequence::bases::put_sixteen`: the codes are written at their place. Assumes nothing.
use mathlib.Core.Path.{◌≡◌, sym, ◌∙◌}
use native.Mathlib.Omega.{arith}
use Prim.Native.Nat.{ℕ, ◌+◌, ◌-◌}
use lib.ListN.{take, drop, length-take, length-drop}
use Rattle.laws.proofs.Places.{length-list_to}
use Rattle.residues.specs.Tables.{protein_code}
use Rattle.sequence.specs.Sequence.{byte_from, protein_residues}
use Rattle.sequence.specs.Mended.{residues_from}
use Rattle.sequence.proofs.Parts.{from_first, byte_in_part, part_residues_from, part_put}
use Rattle.sequence.proofs.bases.put_sixteen.Goals as goal

pub sixteen_codes-codes-requires : goal.sixteen_codes-codes-requires
sixteen_codes-codes-requires c =
    let a = c.args in
    let bytes = a.bytes.now in
    let n : a.k + 16 - a.k ≡ 16 = omega arith in (
      simp (length-take, length-drop) (omega (arith, c.requires.0)),
      λ i h.
          rw (byte_in_part bytes a.k (a.k + 16 - a.k) i (omega arith), from_first bytes (a.k + i))
          (c.requires.1 (a.k + i) (omega (arith, c.requires.0))),
    )

pub returns : goal.returns
returns c =
    let a = c.args in
    let bytes = a.bytes.now in
    let n : a.k + 16 - a.k ≡ 16 = omega arith in
    let block : protein_residues (take (a.k + 16 - a.k) (drop a.k bytes)) 0 16 ≡ residues_from bytes 0 a.k 16 =
    rw n (part_residues_from bytes a.k 16) in
    part_put a.k (a.k + 16 - a.k) a.out.now _ (residues_from bytes 0 a.k 16) (c.copy_from_slice.ensures.after ∙ c.sixteen_codes-codes.ensures ∙ block)
    (length-list_to (λ (i : ℕ). protein_code (byte_from bytes 0 (a.k + i))) 16 ∙ sym n)
