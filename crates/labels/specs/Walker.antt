-- A step of the console's record walker. Its place is a record's start and end and the number of titles already given.
-- Assumes nothing.
use Rattle.std.specs.Prelude.{ℕ, zero, suc, ◌+◌, List, [], ◌∷◌, Result, Ok, Err}
use Rattle.elements.specs.declared.Span.{Span}
use Rattle.answers.specs.declared.Refusal.{Refusal}
use Rattle.deflines.specs.Calls.{title_of}
use Rattle.deflines.specs.Answers.{title_number, title_values}
use Rattle.labels.specs.declared.Place.{Place}
use Rattle.labels.specs.declared.Step.{Step}

abbrev pub place : ℕ → ℕ → ℕ → Place
place start end given = record { start = start; end = end; given = given }

-- The place after a step: one title more was given, or the same place on every refusal, 10 too.
abbrev pub place_after : Result Span Refusal → ℕ → ℕ → ℕ → Place
place_after (Ok t) start end given = place start end (given + 1)
place_after (Err r) start end given = place start end given

-- A step checks the record (22, 1, 20, 21), then gives the next title's start and length, or 10 when none is left.
unfoldable pub step_of : List ℕ → ℕ → ℕ → ℕ → Step
step_of header start end given =
    record { answer = title_of header start end given; after = place_after (title_of header start end given) start end given }

abbrev pub step_number : Step → ℕ
step_number step = title_number step.answer

-- The title's start and length.
abbrev pub step_values : Step → List ℕ
step_values step = title_values step.answer

-- The titles that so many steps give, each from the place that the step before handed back, up to the first refusal.
abbrev pub step_then : Result Span Refusal → List Span → List Span
step_then (Ok t) rest = t ∷ rest
step_then (Err r) rest = []

unfoldable pub walked : ℕ → List ℕ → Place → List Span
walked zero header p = []
walked (suc steps) header p =
    step_then (step_of header p.start p.end p.given).answer (walked steps header (step_of header p.start p.end p.given).after)
