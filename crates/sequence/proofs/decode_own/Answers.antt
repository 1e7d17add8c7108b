-- `sequence::decode_own`: by the number, then by the type. Assumes nothing.
use mathlib.Core.Path.{refl, ap, ◌∙◌}
use mathlib.Core.Bool.{Bool}
use mathlib.Core.List.{List}
use native.Mathlib.Omega.{arith}
use Prim.Native.Nat.{ℕ, ◌≤◌, ◌<◌}
use lib.ListN.{length}
use Rattle.laws.proofs.Told.{told_false, told_true}
use Rattle.volume.specs.Index.{sequences}
use Rattle.volume.proofs.Reading.{numbers_are}
use Rattle.sequence.specs.Sequence.{written_by}
use Rattle.sequence.proofs.Own.{start_sign}
use Rattle.sequence.proofs.Answers.{kind_protein, kind_dna, own_none, own_negative, own_placed_protein, own_placed_dna}
use Rattle.sequence.proofs.Answers.{placed_protein_lem, placed_dna_lem}
use Rattle.sequence.proofs.decode_own.Goals as goal

pub returns-then-x-number : goal.returns-then-x-number
returns-then-x-number c =
    let a = c.args in
    let n = numbers_are a.index.now a.x c.requires.0 in
    let h : sequences a.index.now ≤ a.number = omega (arith, c.if-x-number.true, n.sequences_is) in
    record { value = own_none a.index.now a.sequence.now a.number (length a.out.now) h; out_after = refl }

pub returns-then-x-eq1 : goal.returns-then-x-eq1
returns-then-x-eq1 c =
    let a = c.args in
    let n = numbers_are a.index.now a.x c.requires.0 in
    let h : a.number < sequences a.index.now = omega (arith, c.if-x-number.false, n.sequences_is) in
    let k = kind_protein a.index.now a.x.kind n.kind_is c.if-x-eq1.true in
    let e = c.protein_entry.ensures in
    let codes = placed_protein_lem a.index.now a.sequence.now a.number k _ e in record { value = c.decode_protein.ensures.value ∙ own_placed_protein a.index.now a.sequence.now a.number (length a.out.now) h k _ e; out_after = c.decode_protein.ensures.out_after ∙ ap (λ (x : List ℕ). written_by c.decode_protein.result x a.out.now) codes }

pub returns-then-not-not_negative_at : goal.returns-then-not-not_negative_at
returns-then-not-not_negative_at c =
    let a = c.args in
    let n = numbers_are a.index.now a.x c.requires.0 in
    let h : a.number < sequences a.index.now = omega (arith, c.if-x-number.false, n.sequences_is) in
    let k = kind_dna a.index.now a.x.kind n.kind_is c.if-x-eq1.false in
    let s = told_false (λ (b : Bool). b) (start_sign a.index.now a.number _ n.starts_is) c.not_negative_at.ensures c.if-not-not_negative_at.true in
    record { value = own_negative a.index.now a.sequence.now a.number (length a.out.now) h k s; out_after = refl }

pub returns : goal.returns
returns c =
    let p = c.requires in
    let if1 = c.if-x-number in
    let not-negative-at = c.not_negative_at in
    let if3 = c.if-not-not_negative_at in
    let a = c.args in
    let n = numbers_are a.index.now a.x p.0 in
    let h : a.number < sequences a.index.now = omega (arith, if1.false, n.sequences_is) in
    let k = kind_dna a.index.now a.x.kind n.kind_is c.if-x-eq1.false in
    let s = told_true (λ (b : Bool). b) (start_sign a.index.now a.number _ n.starts_is) not-negative-at.ensures if3.false in
    let e = c.dna_entry.ensures in
    let codes = placed_dna_lem a.index.now a.sequence.now a.number k _ e in record { value = c.decode_dna.ensures.value ∙ own_placed_dna a.index.now a.sequence.now a.number (length a.out.now) h k s _ e; out_after = c.decode_dna.ensures.out_after ∙ ap (λ (x : List ℕ). written_by c.decode_dna.result x a.out.now) codes }
