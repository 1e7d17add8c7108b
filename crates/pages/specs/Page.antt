-- A page: the sequences of a list of numbers, fetched one after another into one output (request 2026-02). It is single fetches in the order of the
-- list: nothing but what decoding answers and writes is in it.
-- Assumes nothing.
use Rattle.std.specs.Prelude.{List, [], ◌∷◌, ◌++◌, ℕ, ◌+◌, leb, length, set, take, drop, Result, Ok, Err}
use Rattle.laws.specs.Rules.{Rule, ask, verdict}
use Rattle.answers.specs.Limits.{bytes_fit}
use Rattle.answers.specs.Numbers.{number_of}
use Rattle.answers.specs.declared.Refusal.{Refusal}
use Rattle.answers.specs.declared.Refusal.TheVariants.{TooLarge, NoRoom}
use Rattle.sequence.specs.Sequence.{decode_answer, decode_output}
use Rattle.pages.specs.declared.Stop.{Stop}

-- ---- one item

-- How far a page is: the output, the list of ends, how many bytes of the output are filled, and how many items are done.
pub record Progress : Type 0 where
  pub output : List ℕ
  pub ends : List ℕ
  pub filled : ℕ
  pub done : ℕ

-- Before the first item.
abbrev pub begun : List ℕ → List ℕ → Progress
begun output ends = record { output = output; ends = ends; filled = 0; done = 0 }

-- What is left of the output, behind the bytes filled so far.
abbrev pub left : Progress → List ℕ
left p = drop p.filled p.output

-- An item is a single fetch into what is left: its answer ..
abbrev pub item_answer : List ℕ → List ℕ → ℕ → Progress → Result ℕ Refusal
item_answer index sequence number p = decode_answer index sequence number (length (left p))

-- .. and the output behind it.
abbrev pub item_output : List ℕ → List ℕ → ℕ → Progress → List ℕ
item_output index sequence number p = take p.filled p.output ++ decode_output index sequence number (left p)

-- An item that was fetched has its end, how many output bytes are filled by then, at its place of the list; one that was refused has none.
abbrev pub counted : Result ℕ Refusal → List ℕ → Progress → Progress
counted (Ok l) output p = record { output = output; ends = set p.ends p.done (p.filled + l); filled = p.filled + l; done = p.done + 1 }
counted (Err r) output p = record { output = output; ends = p.ends; filled = p.filled; done = p.done }

abbrev pub step : List ℕ → List ℕ → ℕ → Progress → Progress
step index sequence number p = counted (item_answer index sequence number p) (item_output index sequence number p) p

-- ---- the list

-- What a page comes to: its answer, and how far it is.
pub record Outcome : Type 0 where
  pub answer : Result ℕ Stop
  pub progress : Progress

-- Where the page stops, and how many items were done.
abbrev pub stopped_at : Refusal → ℕ → Result ℕ Stop
stopped_at r n = Err (record { refusal = r; done = n })

abbrev pub stopped : Refusal → Progress → Outcome
stopped r p = record { answer = stopped_at r p.done; progress = p }

-- After an item the others follow, unless it was refused.
abbrev pub followed : Result ℕ Refusal → Outcome → Progress → Outcome
followed (Ok l) others p = others
followed (Err r) others p = stopped r p

-- The items of a list one after another, up to the first refusal.
unfoldable pub fetch_all : List ℕ → List ℕ → List ℕ → Progress → Outcome
fetch_all index sequence [] p = record { answer = Ok p.done; progress = p }
fetch_all index sequence (number ∷ numbers) p =
    followed (item_answer index sequence number p) (fetch_all index sequence numbers (step index sequence number p)) (step index sequence number p)

-- ---- the call

-- Before any work: 22 for either file, then 13 for a list of ends that is shorter than the list of numbers.
abbrev pub page_rules : List ℕ → List ℕ → List ℕ → List ℕ → List (Rule Refusal)
page_rules index sequence numbers ends =
    ask (bytes_fit index) TooLarge ∷ ask (bytes_fit sequence) TooLarge ∷ ask (leb (length numbers) (length ends)) NoRoom ∷ []

unfoldable pub page_of : List ℕ → List ℕ → List ℕ → List ℕ → List ℕ → Outcome
page_of index sequence numbers output ends =
    verdict (λ r. stopped r (begun output ends)) (fetch_all index sequence numbers (begun output ends)) (page_rules index sequence numbers ends)

-- What the call answers, and what the output and the list of ends hold afterwards.
abbrev pub page_answer : List ℕ → List ℕ → List ℕ → List ℕ → List ℕ → Result ℕ Stop
page_answer index sequence numbers output ends = (page_of index sequence numbers output ends).answer

abbrev pub page_output : List ℕ → List ℕ → List ℕ → List ℕ → List ℕ → List ℕ
page_output index sequence numbers output ends = (page_of index sequence numbers output ends).progress.output

abbrev pub page_ends : List ℕ → List ℕ → List ℕ → List ℕ → List ℕ → List ℕ
page_ends index sequence numbers output ends = (page_of index sequence numbers output ends).progress.ends

-- Document 01's number of an answer, and how many items were done, which a refusal returns too.
abbrev pub page_number : Result ℕ Stop → ℕ
page_number (Ok n) = 0
page_number (Err stop) = number_of stop.refusal

abbrev pub page_done : Result ℕ Stop → ℕ
page_done (Ok n) = n
page_done (Err stop) = stop.done
