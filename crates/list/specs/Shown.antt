-- How a byte of a name is shown in a message. Assumes nothing.
use Rattle.std.specs.Prelude.{ℕ, ◌+◌, ◌/◌, ◌%◌, List, [], ◌∷◌, Bool, ◌&&◌, not, nat_le, nat_lt, ◌==◌, if◌then◌else◌}

-- The hexadecimal digit of a number below 16.
abbrev pub hex_digit : ℕ → ℕ
hex_digit n = if nat_lt n 10 then (48 + n) else (87 + n)

-- Whether a byte is shown as it is: it is printable, and neither a quote nor a backslash.
abbrev pub is_plain : ℕ → Bool
is_plain b = nat_le 32 b && (nat_lt b 127 && (not (b == 34) && not (b == 92)))

-- The others are \xNN.
abbrev pub shown_byte : ℕ → List ℕ
shown_byte b = if is_plain b then (b ∷ []) else (92 ∷ 120 ∷ hex_digit (b / 16) ∷ hex_digit (b % 16) ∷ [])
