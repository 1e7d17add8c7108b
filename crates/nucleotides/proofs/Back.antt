-- The corrections of codes, painted over the bases that stand for them, give the codes back. Assumes nothing.
use mathlib.Core.Path.{◌≡◌, sym, ap, ◌∙◌}
use mathlib.Core.Bool.{true, false}
use mathlib.Core.List.{List}
use Prim.Native.Nat.{ℕ, ◌≤◌, ◌<◌}
use native.Mathlib.Omega.{arith}
use lib.Dec.{leb, ltb}
use lib.ListN.{length}
use borrow.Author.Tests.{leb-true, leb-false, ltb-true, le-leb, lt-ltb}
use Rattle.laws.proofs.Digits.{below_at}
use Rattle.laws.proofs.Tests.{bool_cases, both_pass}
use Rattle.residues.specs.Alphabets.{valid_codes}
use Rattle.residues.specs.Tables.{ambiguity_code}
use Rattle.residues.proofs.Alphabets.{code_of_value}
use Rattle.sequence.specs.declared.Correction.{Correction}
use Rattle.sequence.specs.Corrections.{correction_in, correction_end, covers, corrected_at}
use Rattle.sequence.proofs.Corrected.{covered_at, not_covered_at}
use Rattle.nucleotides.specs.TwoBit.{placeholder_at}
use Rattle.nucleotides.specs.Scan.{code_at}
use Rattle.nucleotides.specs.Write.{dna}
use Rattle.nucleotides.specs.Holds.{PiecesHold}
use Rattle.nucleotides.proofs.Packing.{placeholder-plain}

-- every code of valid codes is below 16
pub code-small : (codes : List ℕ) → valid_codes dna codes ≡ true → (k : ℕ) → code_at codes k < 16
code-small codes v k = below_at 16 k codes (omega arith) v

module _ (limit : ℕ) (codes : List ℕ) (cs : List Correction) (h : PiecesHold limit codes cs) (valid : valid_codes dna codes ≡ true)
    (k : ℕ) (inside : k < length codes) where
  -- a place with a code of 4 or more is covered by a correction with its value
  ambiguous : 4 ≤ code_at codes k → corrected_at cs k (placeholder_at codes k) ≡ code_at codes k
  ambiguous l =
      let c = h.all k inside l in
      let p = correction_in cs c.number in
      let e = h.each c.number c.within in
      let t : covers p k ≡ true = rw (le-leb p.start k c.from, lt-ltb k (correction_end p) c.below) in
      let s : code_at codes k ≡ code_at codes p.start = e.one k c.from c.below in
      covered_at cs k (placeholder_at codes k) c.number h.apart c.within t
      ∙ ap ambiguity_code e.value
      ∙ code_of_value (code_at codes p.start) (code-small codes valid p.start)
      ∙ sym s

  -- a place with a base is covered by none
  plain : code_at codes k < 4 → corrected_at cs k (placeholder_at codes k) ≡ code_at codes k
  plain l = not_covered_at cs k (placeholder_at codes k) none ∙ placeholder-plain (code_at codes k) l
    where
      none : (j : ℕ) → j < length cs → covers (correction_in cs j) k ≡ false
      none j i =
          let p = correction_in cs j in
          bool_cases (covers p k)
          (λ t. let q = both_pass (leb p.start k) (ltb k (correction_end p)) t in
          let e = h.each j i in
          let s = e.one k (leb-true p.start k q.0) (ltb-true k (correction_end p) q.1) in
          let f = e.code in
          absurd (omega arith))
          (λ t. t)

  pub code_back : corrected_at cs k (placeholder_at codes k) ≡ code_at codes k
  code_back = bool_cases (leb 4 (code_at codes k)) (λ e. ambiguous (leb-true 4 (code_at codes k) e)) (λ e. plain (leb-false 4 (code_at codes k) e))
