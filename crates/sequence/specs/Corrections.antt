-- The ambiguity range of a DNA sequence: its corrections, their rules (12), and the residues with the corrections made.
-- A correction says that so many residues from an offset on have an ambiguity value.
-- Assumes nothing.
use Rattle.std.specs.Prelude.{Bool, true, cond, ◌&&◌, List, [], ◌∷◌, ℕ, zero, suc, ◌+◌, ◌*◌, ◌-◌, ◌/◌, ◌%◌, ◌^◌, ◌≤◌, ◌<◌, leb, ltb, eqb, length, get_or}
use Rattle.laws.specs.Places.{every, list_to}
use Rattle.laws.specs.Rules.{Rule, ask}
use Rattle.laws.specs.Writing.{written_at}
use Rattle.fields.specs.Number.{big, unsigned_at}
use Rattle.answers.specs.declared.Refusal.{Refusal}
use Rattle.answers.specs.declared.Refusal.TheVariants.{BadAmbiguity}
use Rattle.residues.specs.Tables.{ambiguity_code}
use Rattle.sequence.specs.declared.Correction.{Correction}

-- ---- the range, from a place up to an end

-- Its first word, big-endian: the low 31 bits say how many words follow, the top bit that entries have 64 bits.
abbrev pub first_word : List ℕ → ℕ → ℕ
first_word sequence place = unsigned_at big 4 sequence place

abbrev pub stated_words : List ℕ → ℕ → ℕ
stated_words sequence place = first_word sequence place % 2147483648

abbrev pub is_wide : List ℕ → ℕ → Bool
is_wide sequence place = leb 2147483648 (first_word sequence place)

-- The range is empty, or a word and then exactly as many words as it says, an even count where entries have 64 bits.
unfoldable pub is_table : List ℕ → ℕ → ℕ → Bool
is_table sequence place end =
    cond (eqb place end)
    true
    (leb (place + 4) end
    && (eqb (place + 4 + 4 * stated_words sequence place) end && cond (is_wide sequence place) (eqb (stated_words sequence place % 2) 0) true))

-- The bytes of an entry, 4 or 8, and the number of entries.
unfoldable pub entry_width : List ℕ → ℕ → ℕ
entry_width sequence place = cond (is_wide sequence place) 8 4

unfoldable pub entry_count : List ℕ → ℕ → ℕ → ℕ
entry_count sequence place end =
    cond (eqb place end) 0 (cond (is_wide sequence place) (stated_words sequence place / 2) (stated_words sequence place))

-- ---- entries

-- An entry of w bytes: 4 bits value, repeat less one (4 bits of 32, 12 of 64), offset (24 bits of 32, 48 of 64).
unfoldable pub correction_of : ℕ → ℕ → Correction
correction_of w entry =
    record { value = entry / 2 ^ (8 * w - 4); start = entry % 2 ^ (6 * w); length = entry / 2 ^ (6 * w) % 2 ^ (2 * w - 4) + 1 }

-- Entry j of the entries of w bytes from a place on.
unfoldable pub correction_at : List ℕ → ℕ → ℕ → ℕ → Correction
correction_at sequence entries w j = correction_of w (unsigned_at big w sequence (entries + w * j))

abbrev pub correction_end : Correction → ℕ
correction_end c = c.start + c.length

-- The end of the entry before entry j.
abbrev pub end_before : List ℕ → ℕ → ℕ → ℕ → ℕ
end_before sequence entries w zero = 0
end_before sequence entries w (suc j) = correction_end (correction_at sequence entries w j)

-- Each entry starts at or after the end of the one before and ends within L.
unfoldable pub entry_fits : List ℕ → ℕ → ℕ → ℕ → ℕ → Bool
entry_fits sequence entries w l j =
    leb (end_before sequence entries w j) (correction_at sequence entries w j).start
    && leb (correction_end (correction_at sequence entries w j)) l

-- The rules of the range of a sequence of length l.
abbrev pub range_rules : List ℕ → ℕ → ℕ → ℕ → List (Rule Refusal)
range_rules sequence place end l =
    ask (is_table sequence place end) BadAmbiguity
    ∷ ask (every (entry_fits sequence (place + 4) (entry_width sequence place) l) (entry_count sequence place end)) BadAmbiguity
    ∷ []

-- ---- corrections made

-- The corrections that n entries of w bytes from a place on state.
abbrev pub corrections_at : List ℕ → ℕ → ℕ → ℕ → List Correction
corrections_at sequence entries w n = list_to (correction_at sequence entries w) n

-- The corrections of the range from a place up to an end.
abbrev pub range_corrections : List ℕ → ℕ → ℕ → List Correction
range_corrections sequence place end = corrections_at sequence (place + 4) (entry_width sequence place) (entry_count sequence place end)

-- A correction painted over residues.
abbrev pub painted : Correction → List ℕ → List ℕ
painted c residues = written_at c.start (list_to (λ _. ambiguity_code c.value) c.length) residues

-- Corrections painted over residues, one after another.
abbrev pub corrected : List Correction → List ℕ → List ℕ
corrected [] residues = residues
corrected (c ∷ corrections) residues = corrected corrections (painted c residues)

-- The residue at a place k: the code of the last correction that covers k, or the base.
abbrev pub covers : Correction → ℕ → Bool
covers c k = leb c.start k && ltb k (correction_end c)

abbrev pub corrected_at : List Correction → ℕ → ℕ → ℕ
corrected_at [] k base = base
corrected_at (c ∷ corrections) k base = corrected_at corrections k (cond (covers c k) (ambiguity_code c.value) base)

-- ---- corrections as a list

-- Correction j of a list; an empty one where there is none.
abbrev pub correction_in : List Correction → ℕ → Correction
correction_in corrections j = get_or corrections j (record { value = 0; start = 0; length = 0 })

-- Each starts at or after the end of the one before.
abbrev pub Apart : List Correction → Type 0
Apart corrections = (j : ℕ) → suc j < length corrections → correction_end (correction_in corrections j) ≤ (correction_in corrections (suc j)).start

-- Each ends within l.
abbrev pub EndWithin : List Correction → ℕ → Type 0
EndWithin corrections l = (j : ℕ) → j < length corrections → correction_end (correction_in corrections j) ≤ l
