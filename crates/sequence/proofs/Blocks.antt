-- Residues stored a block at a time, where a block may lie over the end of the one before; and the code of a protein byte, mended.
-- Assumes nothing.
use mathlib.Core.Path.{◌≡◌, refl, sym, ap, ◌∙◌}
use mathlib.Core.List.{List, [], ◌∷◌, ◌++◌, append-nil}
use mathlib.Core.Logic.{⊎_elim}
use Prim.Native.Nat.{ℕ, zero, suc, ◌+◌, ◌-◌, ◌≤◌, ◌<◌}
use native.Mathlib.Nat.{eq-or-lt_of_le, le_of_suc-le-suc}
use native.Mathlib.Omega.{arith}
use borrow.Author.Tests.{eqb-true}
use lib.Dec.{eqb}
use lib.ListN.{length, take, drop, set}
use lib.Seq.{take-append-le, take-length, drop-length}
use Rattle.laws.specs.Places.{list_to}
use Rattle.laws.specs.Writing.{written_at}
use Rattle.laws.proofs.Places.{every_at, length-list_to, list_to-append}
use Rattle.laws.proofs.Storing.{store_front, written_start}
use Rattle.laws.proofs.Writing.{written_again, written_over}
use Rattle.residues.specs.Tables.{protein_code}
use Rattle.sequence.specs.Mended.{where_is}

-- ---- the code of a protein byte

-- what is added to a byte's code, and what it becomes
abbrev lowered : ℕ → ℕ
lowered v = where_is v 22 2 + where_is v 26 5 + where_is v 27 9

abbrev raised : ℕ → ℕ
raised v = v - 2 + (v - 21) + where_is v 0 20 + where_is v 2 21 + where_is v 21 7

-- one test is computed over all protein bytes
pub code_mended : (v : ℕ) → v < 28 → protein_code v + lowered v ≡ raised v
code_mended v h = eqb-true _ _ (every_at (λ (v : ℕ). eqb (protein_code v + lowered v) (raised v)) 28 v h refl)

-- ---- blocks

module _ (f : ℕ → ℕ) where
  -- the first of a list
  pub take-list_to : (k n : ℕ) → k ≤ n → take k (list_to f n) ≡ list_to f k
  take-list_to k zero h = let e : k ≡ 0 = omega arith in rw e
  take-list_to k (suc n) h =
      ⊎_elim
      (λ e. ap (λ (m : ℕ). take m (list_to f (suc n))) (e ∙ sym (length-list_to f (suc n))) ∙ take-length (list_to f (suc n)) ∙ ap (list_to f) (sym e))
      (λ l. take-append-le k (list_to f n) (f n ∷ []) (rw (length-list_to f n) (le_of_suc-le-suc l)) ∙ take-list_to k n (le_of_suc-le-suc l))
      (eq-or-lt_of_le h)

  -- the next one stored in a list that begins with those before
  pub begins-next : (n x : ℕ) (c : List ℕ) → n < length c → x ≡ f n → c ≡ written_at 0 (list_to f n) c
      → set c n x ≡ written_at 0 (list_to f (n + 1)) (set c n x)
  begins-next n x c h g i =
      let new = list_to f (n + 1) in
      let l = length-list_to f (n + 1) in
      let e : set c n x ≡ written_at 0 new c = ap (λ (o : List ℕ). set o n x) i ∙ store_front f n x c h g in
      e ∙ sym (written_again 0 new new c (omega arith) (omega arith)) ∙ ap (λ (o : List ℕ). written_at 0 new o) (sym e)

  -- all of a list stored anew
  pub all_stored : (n : ℕ) (d : List ℕ) → length d ≡ n → written_at 0 (list_to f n) d ≡ list_to f n
  all_stored n d h =
      let e : drop (length (list_to f n)) d ≡ [] = ap (λ (m : ℕ). drop m d) (length-list_to f n ∙ sym h) ∙ drop-length d in
      written_start (list_to f n) d ∙ ap (λ (l : List ℕ). list_to f n ++ l) e ∙ append-nil (list_to f n)

  -- n more stored from place k on, over what stands there of the m before
  pub store_block : (p k m n : ℕ) (d : List ℕ) → k ≤ m → m ≤ k + n → p + k + n ≤ length d
      → written_at (p + k) (list_to (λ i. f (k + i)) n) (written_at p (list_to f m) d) ≡ written_at p (list_to f (k + n)) d
  store_block p k m n d a b h =
      let x = length-list_to f m in
      let y = length-list_to (λ i. f (k + i)) n in
      written_over p k (list_to f m) (list_to (λ i. f (k + i)) n) d (omega arith) (omega arith) (omega arith)
      ∙ ap (λ (l : List ℕ). written_at p (l ++ list_to (λ i. f (k + i)) n) d) (take-list_to k m a)
      ∙ ap (λ (l : List ℕ). written_at p l d) (sym (list_to-append f k n))

  -- the same for an output as a call left it
  pub block_stored : (p k m n t place : ℕ) (d before after : List ℕ) → before ≡ written_at p (list_to f m) d
      → after ≡ written_at place (list_to (λ i. f (k + i)) n) before → place ≡ p + k → k ≤ m → m ≤ t → t ≡ k + n → p + t ≤ length d
      → after ≡ written_at p (list_to f t) d
  block_stored p k m n t place d before after e g i a b l h =
      let new = list_to (λ i. f (k + i)) n in
      g
      ∙ ap (λ (o : List ℕ). written_at place new o) e
      ∙ ap (λ (q : ℕ). written_at q new (written_at p (list_to f m) d)) i
      ∙ store_block p k m n d a (omega arith) (omega arith)
      ∙ ap (λ (q : ℕ). written_at p (list_to f q) d) (sym l)
