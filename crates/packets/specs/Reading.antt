-- Packets read as a run: what is asked of those before the last and counted of them, and what reading finds.
-- Assumes nothing.
use Rattle.std.specs.Prelude.{Bool, cond, Option, Some, None, List, ℕ, ◌/◌, ◌%◌, ◌^◌, length, get_or}
use Rattle.laws.specs.Places.{every, sum_to}
use Rattle.packets.specs.Runs.{codes_in, inner, well_formed, unpacked}

-- Each of the first n packets may stand in a run before its last.
abbrev pub inner_to : ℕ → List ℕ → ℕ → Bool
inner_to alphabet packets n = every (λ k. inner alphabet (get_or packets k 0)) n

-- The number of codes of the first n packets, and how many of these packets hold 5-bit codes.
abbrev pub codes_to : List ℕ → ℕ → ℕ
codes_to packets n = sum_to (λ k. length (codes_in (get_or packets k 0))) n

abbrev pub five_bit_to : List ℕ → ℕ → ℕ
five_bit_to packets n = sum_to (λ k. get_or packets k 0 / 2 ^ 30 % 2) n

-- The number of residues of a well-formed run; none where packets are no such run.
unfoldable pub run_length : ℕ → List ℕ → Option ℕ
run_length alphabet packets = cond (well_formed alphabet packets) (Some (length (unpacked packets))) None
