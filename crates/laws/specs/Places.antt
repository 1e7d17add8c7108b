-- What holds, or is added up, over the places below n: offsets of a table, numbers of sequences, entries of a list.
-- Assumes nothing.
use Rattle.std.specs.Prelude.{Bool, true, ◌&&◌, List, [], ◌∷◌, ◌++◌, ℕ, zero, suc, ◌+◌, max}

-- The test f passes at every place below n.
abbrev pub every : (ℕ → Bool) → ℕ → Bool
every f zero = true
every f (suc n) = every f n && f n

-- The sum of what f gives at each place below n, 0 where there is none.
abbrev pub sum_to : (ℕ → ℕ) → ℕ → ℕ
sum_to f zero = 0
sum_to f (suc n) = sum_to f n + f n

-- The largest of what f gives at each place below n, 0 where there is none.
abbrev pub largest_to : (ℕ → ℕ) → ℕ → ℕ
largest_to f zero = 0
largest_to f (suc n) = max (largest_to f n) (f n)

-- The list of what f gives at each place below n.
abbrev pub list_to {ℓ} : {A : Type ℓ} → (ℕ → A) → ℕ → List A
list_to f zero = []
list_to f (suc n) = list_to f n ++ (f n ∷ [])
