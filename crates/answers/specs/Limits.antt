-- The sizes of input ranges that every call takes (22 for a longer one), and rules with document 01's refusals.
-- Assumes nothing.
use Rattle.std.specs.Prelude.{Bool, List, ℕ, leb, length}
use Rattle.laws.specs.Rules.{Rule, verdict}
use Rattle.answers.specs.declared.Refusal.{Refusal}
use Rattle.std.specs.Prelude.{Result, Ok, Err}

-- An input byte range has at most 2,147,483,647 bytes.
abbrev pub bytes_fit : List ℕ → Bool
bytes_fit bytes = leb (length bytes) 2147483647

-- An input packet range has at most 536,870,912 packets.
abbrev pub packets_fit : List ℕ → Bool
packets_fit packets = leb (length packets) 536870912

-- What a check answers that is a list of rules: Ok, or the first broken rule's refusal.
abbrev pub checked_by : List (Rule Refusal) → Result Unit Refusal
checked_by rules = verdict Err (Ok tt) rules
