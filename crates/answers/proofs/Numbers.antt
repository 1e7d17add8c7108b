-- No refusal has the number 0, which is success, and no two the same number. Assumes nothing.
use mathlib.Core.Path.{◌≡◌, refl, sym, ap, ◌∙◌}
use mathlib.Core.List.{List, [], ◌∷◌}
use Prim.Native.Nat.{ℕ}
use native.Mathlib.Omega.{arith}
use lib.ListN.{get_or}
use Rattle.laws.specs.Rules.{Rule, verdict, AllHold}
use Rattle.laws.proofs.Passing.{passes_with}
use Rattle.answers.specs.declared.Refusal.{Refusal}
use Rattle.answers.specs.declared.Refusal.TheVariants as R
use Rattle.answers.specs.Numbers.{number_of}

-- the refusals by their numbers; nothing has 0 or 16
abbrev causes : List Refusal
causes =
    R.TooShort ∷ R.TooShort ∷ R.WrongVersion ∷ R.WrongKind ∷ R.OutOfRange ∷ R.Misaligned
    ∷ R.Leftover ∷ R.BadOffsets ∷ R.BadSeparator ∷ R.WrongTotals ∷ R.NoSuchSequence ∷ R.BadProteinByte
    ∷ R.BadAmbiguity ∷ R.NoRoom ∷ R.WrongMagic ∷ R.TagsDiffer ∷ R.BadRun ∷ R.BadRun
    ∷ R.BadCode ∷ R.BadMetadata ∷ R.BadHeader ∷ R.TooDeep ∷ R.TooLarge
    ∷ []

cause_at : (r : Refusal) → get_or causes (number_of r) R.TooShort ≡ r
cause_at R.TooShort = refl
cause_at R.WrongVersion = refl
cause_at R.WrongKind = refl
cause_at R.OutOfRange = refl
cause_at R.Misaligned = refl
cause_at R.Leftover = refl
cause_at R.BadOffsets = refl
cause_at R.BadSeparator = refl
cause_at R.WrongTotals = refl
cause_at R.NoSuchSequence = refl
cause_at R.BadProteinByte = refl
cause_at R.BadAmbiguity = refl
cause_at R.NoRoom = refl
cause_at R.WrongMagic = refl
cause_at R.TagsDiffer = refl
cause_at R.BadRun = refl
cause_at R.BadCode = refl
cause_at R.BadMetadata = refl
cause_at R.BadHeader = refl
cause_at R.TooDeep = refl
cause_at R.TooLarge = refl

-- the refusal of a number
by_number : (r : Refusal) (n : ℕ) → number_of r ≡ n → r ≡ get_or causes n R.TooShort
by_number r n e = sym (cause_at r) ∙ ap (λ (k : ℕ). get_or causes k R.TooShort) e

pub number-not-zero : (r : Refusal) → number_of r ≡ 0 → ⊥
number-not-zero r e = let q : number_of r ≡ 1 = ap number_of (by_number r 0 e) in omega arith

pub number_own : (r s : Refusal) → number_of r ≡ number_of s → r ≡ s
number_own r s e = by_number r (number_of s) e ∙ cause_at s

-- A check that answers 0 has passed: every rule of its list holds, and its answer is the one for that.
pub zero-passes : {A : Type 0} (told : Refusal → A) (fine : A) (number : A → ℕ) → ((r : Refusal) → number (told r) ≡ number_of r) → (rules : List (Rule Refusal))
    → number (verdict told fine rules) ≡ 0 → AllHold rules × (verdict told fine rules ≡ fine)
zero-passes told fine number own rules z =
    let p = passes_with told fine (verdict told fine rules) (λ r e. number-not-zero r (sym (own r) ∙ (ap number e ∙ z))) rules refl in
    (p.0, sym p.1)
