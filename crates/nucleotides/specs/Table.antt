-- Corrections as the bytes of an ambiguity range: a word, and an entry of w bytes for each. The inverse of what decoding reads (sequence/Corrections).
-- Assumes nothing.
use Rattle.std.specs.Prelude.{cond, List, [], ◌∷◌, ◌++◌, ℕ, ◌+◌, ◌*◌, ◌-◌, ◌^◌, eqb, length}
use Rattle.fields.specs.Number.{big}
use Rattle.fields.specs.Written.{number_bytes}
use Rattle.sequence.specs.declared.Correction.{Correction}

-- The entry of w bytes that states a correction: its value, its length less one, its start.
unfoldable pub entry_of : ℕ → Correction → ℕ
entry_of w c = c.value * 2 ^ (8 * w - 4) + (c.length - 1) * 2 ^ (6 * w) + c.start

-- The entries, big-endian, one after another.
abbrev pub entry_bytes : ℕ → List Correction → List ℕ
entry_bytes w [] = []
entry_bytes w (c ∷ corrections) = number_bytes big w (entry_of w c) ++ entry_bytes w corrections

-- The first word: how many words of four bytes the entries have, and the top bit where an entry has eight.
unfoldable pub table_word : ℕ → ℕ → ℕ
table_word w n = cond (eqb w 8) (2147483648 + 2 * n) n

-- The word, where there are corrections.
abbrev pub word_bytes : ℕ → ℕ → List ℕ
word_bytes w n = cond (eqb n 0) [] (number_bytes big 4 (table_word w n))

-- The range: none without a correction.
abbrev pub table_bytes : ℕ → List Correction → List ℕ
table_bytes w corrections = word_bytes w (length corrections) ++ entry_bytes w corrections

-- The sizes of the word and of the range for n corrections.
abbrev pub word_size : ℕ → ℕ
word_size n = cond (eqb n 0) 0 4

abbrev pub table_size : ℕ → ℕ → ℕ
table_size w n = word_size n + w * n
