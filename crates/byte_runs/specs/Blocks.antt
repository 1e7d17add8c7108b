-- Packets taken apart into numbers that are then written as bytes. Private contracts alone cite this.
-- Assumes nothing.
use Rattle.std.specs.Prelude.{◌≡◌, Bool, cond, List, ◌++◌, ℕ, ◌<◌, length, take, get_or}
use Rattle.fields.specs.Written.{little_bytes}
use Rattle.residues.specs.Alphabets.{is_amino}
use Rattle.packets.specs.Runs.{is_five_bit}
use Rattle.packets.specs.Bytes.{bytes_of}

-- Whether they hold 5-bit codes is the same for the first n packets.
abbrev pub AllOf : Bool → List ℕ → ℕ → Type 0
AllOf five packets n = (k : ℕ) → k < n → is_five_bit (get_or packets k 0) ≡ five

-- Codes stand at the front of some bytes.
abbrev pub Fronts : List ℕ → List ℕ → Type 0
Fronts codes bytes = take (length codes) bytes ≡ codes

-- Codes stand at the front of the bytes of four numbers.
pub record FrontOfFour (codes numbers : List ℕ) : Type 0 where
  pub four : length numbers ≡ 4
  pub front : Fronts codes (bytes_of numbers)

-- The bytes of two numbers, four of the first and two of the second.
abbrev pub bytes_of_two : List ℕ → List ℕ
bytes_of_two codes = little_bytes 4 (get_or codes 0 0) ++ little_bytes 2 (get_or codes 1 0)

-- Behind a block of nucleic packets so many bytes more may be written ..
abbrev pub margin : ℕ → ℕ
margin alphabet = cond (is_amino alphabet) 0 10

-- .. which the codes of so many packets write again.
abbrev pub spare : ℕ → ℕ
spare alphabet = cond (is_amino alphabet) 0 2
