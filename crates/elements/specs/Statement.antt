-- The plain statement of document 01's elements: what stands from a place up to another place of a file.
-- Assumes nothing.
use Rattle.std.specs.Prelude.{◌≡◌, List, ℕ, zero, suc, ◌+◌, ◌-◌, ◌/◌, ◌%◌, ◌^◌, ◌≤◌, ◌<◌, length, get_or, take, drop}
use Rattle.laws.specs.Digits.{value}

-- The byte b stands at a place.
pub record Byte (s : List ℕ) (at b : ℕ) : Type 0 where
  pub there : at < length s
  pub is : get_or s at 0 ≡ b

-- 00 00 stands at a place.
pub record Close (s : List ℕ) (at : ℕ) : Type 0 where
  pub first : Byte s at 0
  pub second : Byte s (at + 1) 0

-- Bit i of some bytes, counted from the highest bit of the first byte.
abbrev pub bit_at : List ℕ → ℕ → ℕ
bit_at bytes i = get_or bytes (i / 8) 0 / 2 ^ (7 - i % 8) % 2

-- A padded integer: it has more than one byte, and its first nine bits are all equal (request 2026-06).
pub record Padded (bytes : List ℕ) : Type 0 where
  pub more : 1 < length bytes
  pub equal : (i : ℕ) → i < 9 → bit_at bytes i ≡ bit_at bytes 0

-- Which integers are allowed, by their bytes: those of 1 to 8 bytes that are not padded.
pub record IntegerBytes (bytes : List ℕ) : Type 0 where
  pub some : 1 ≤ length bytes
  pub few : length bytes ≤ 8
  pub unpadded : Padded bytes → ⊥

-- An integer: 02, a length in one byte, and so many bytes of an allowed integer.
pub record IntegerElement (s : List ℕ) (at n : ℕ) : Type 0 where
  pub tag : Byte s at 2
  pub sized : at + 1 < length s
  pub ends : at + 2 + get_or s (at + 1) 0 ≡ n
  pub fits : n ≤ length s
  pub allowed : IntegerBytes (take (get_or s (at + 1) 0) (drop (at + 2) s))

-- A text: 1A, a length below 128 in one byte, or 81 to 84 and a big-endian length of 1 to 4 bytes, and so many bytes.
pub data TextElement (s : List ℕ) (at n : ℕ) : Type 0 where
  short : Byte s at 26 → at + 1 < length s → get_or s (at + 1) 0 < 128 → at + 2 + get_or s (at + 1) 0 ≡ n → n ≤ length s → TextElement s at n
  long : (k : ℕ) → Byte s at 26 → 1 ≤ k → k ≤ 4 → Byte s (at + 1) (128 + k) → at + 2 + k + value 8 0 (take k (drop (at + 2) s)) ≡ n
      → n ≤ length s → TextElement s at n

-- Elements one after another, up to 00 00. `One p q` says that one of them stands from p up to q.
pub data Items (One : ℕ → ℕ → Type 0) (s : List ℕ) : ℕ → ℕ → Type 0 where
  close : {p n : ℕ} → Close s p → p + 2 ≡ n → Items One s p n
  item : {p q n : ℕ} → One p q → Items One s q n → Items One s p n

-- A list: 30 80, elements, 00 00.
pub record ListElement (One : ℕ → ℕ → Type 0) (s : List ℕ) (at n : ℕ) : Type 0 where
  pub tag : Byte s at 48
  pub opened : Byte s (at + 1) 128
  pub items : Items One s (at + 2) n

-- A choice: its tag, 80, one element, 00 00.
pub record ChoiceElement (One : ℕ → ℕ → Type 0) (s : List ℕ) (tag at n : ℕ) : Type 0 where
  pub tagged : Byte s at tag
  pub opened : Byte s (at + 1) 128
  pub stop : ℕ
  pub one : One (at + 2) stop
  pub closed : Close s stop
  pub ends : stop + 2 ≡ n

-- A choice of two: the first under A0, the second under A1.
pub data EitherElement (First Second : ℕ → ℕ → Type 0) (s : List ℕ) (at n : ℕ) : Type 0 where
  first : ChoiceElement First s 160 at n → EitherElement First Second s at n
  second : ChoiceElement Second s 161 at n → EitherElement First Second s at n

-- One thing and then another: the first stands from p up to a place, and what is more from there up to n.
pub record Then (First More : ℕ → ℕ → Type 0) (p n : ℕ) : Type 0 where
  pub stop : ℕ
  pub first : First p stop
  pub more : More stop n

-- What may be left out.
pub data Maybe (One : ℕ → ℕ → Type 0) (p q : ℕ) : Type 0 where
  given : One p q → Maybe One p q
  absent : p ≡ q → Maybe One p q

-- The fields of a record: one that is required, one that is optional, and 00 00 behind the last. A field is tagged as a choice is; `One` says what it
-- holds, and `More` is the record's next field.
abbrev pub Required : List ℕ → ℕ → (ℕ → ℕ → Type 0) → (ℕ → ℕ → Type 0) → ℕ → ℕ → Type 0
Required s tag One More p n = Then (ChoiceElement One s tag) More p n

abbrev pub Optional : List ℕ → ℕ → (ℕ → ℕ → Type 0) → (ℕ → ℕ → Type 0) → ℕ → ℕ → Type 0
Optional s tag One More p n = Then (Maybe (ChoiceElement One s tag)) More p n

pub record Ended (s : List ℕ) (p n : ℕ) : Type 0 where
  pub close : Close s p
  pub ends : p + 2 ≡ n

-- A record: 30 80, its fields in their order, 00 00.
pub record RecordElement (Fields : ℕ → ℕ → Type 0) (s : List ℕ) (at n : ℕ) : Type 0 where
  pub tag : Byte s at 48
  pub opened : Byte s (at + 1) 128
  pub fields : Fields (at + 2) n

-- An element of any kind; a choice's tag is A0 to B3.
pub data AnyElement (One : ℕ → ℕ → Type 0) (s : List ℕ) (at n : ℕ) : Type 0 where
  integer : IntegerElement s at n → AnyElement One s at n
  text : TextElement s at n → AnyElement One s at n
  list : ListElement One s at n → AnyElement One s at n
  choice : (tag : ℕ) → 160 ≤ tag → tag ≤ 179 → ChoiceElement One s tag at n → AnyElement One s at n

-- An element of any kind with so many depths left, itself counted.
abbrev pub Nested : ℕ → List ℕ → ℕ → ℕ → Type 0
Nested zero s at n = ⊥
Nested (suc depth) s at n = AnyElement (Nested depth s) s at n
