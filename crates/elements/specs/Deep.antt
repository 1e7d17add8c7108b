-- The plain statement of 21: reading goes down, element by element, to one for which no depth is left.
-- Assumes nothing.
use Rattle.std.specs.Prelude.{◌≡◌, List, ℕ, zero, suc, ◌+◌, ◌≤◌}
use Rattle.elements.specs.Statement.{Byte, Nested}

-- A byte that begins an element stands at a place: 02, 1A, 30, or A0 to B3.
pub data Begins (s : List ℕ) (at : ℕ) : Type 0 where
  integer : Byte s at 2 → Begins s at
  text : Byte s at 26 → Begins s at
  list : Byte s at 48 → Begins s at
  choice : (tag : ℕ) → 160 ≤ tag → tag ≤ 179 → Byte s at tag → Begins s at

-- Elements one after another, each read to its end, up to one into which reading goes down. `One p q` says that an element stands from p up to q,
-- `Into p` that reading goes down into the one at p.
pub data Leads (One : ℕ → ℕ → Type 0) (Into : ℕ → Type 0) : ℕ → Type 0 where
  into : {p : ℕ} → Into p → Leads One Into p
  past : {p q : ℕ} → One p q → Leads One Into q → Leads One Into p

-- Reading goes down into a list, past some of its elements, or into the one element of a choice.
pub data GoesDown (One : ℕ → ℕ → Type 0) (Into : ℕ → Type 0) (s : List ℕ) (at : ℕ) : Type 0 where
  list : Byte s at 48 → Byte s (at + 1) 128 → Leads One Into (at + 2) → GoesDown One Into s at
  choice : (tag : ℕ) → 160 ≤ tag → tag ≤ 179 → Byte s at tag → Byte s (at + 1) 128 → Into (at + 2) → GoesDown One Into s at

-- With so many depths left at a place, reading goes down from there to p, where an element begins and no depth is left. All that it passes on
-- its way is read to its end.
abbrev pub Deep : ℕ → List ℕ → ℕ → ℕ → Type 0
Deep zero s p at = (at ≡ p) × Begins s at
Deep (suc depth) s p at = GoesDown (Nested depth s) (Deep depth s p) s at

-- Such a place.
abbrev pub TooDeepAt : ℕ → List ℕ → ℕ → Type 0
TooDeepAt depth s at = (p : ℕ) × Deep depth s p at
