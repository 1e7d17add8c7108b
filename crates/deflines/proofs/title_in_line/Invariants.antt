-- `deflines::title_in_line`: each turn passes one field, stops at a title and steps past any other.
-- What is left of the fields gives the answer. Assumes nothing.
use Rattle.deflines.specs.Fields.{elements_left, field_at, field_titles, titles_in}
use Rattle.deflines.specs.Numbered.{item_from}
use Rattle.deflines.proofs.Walks.{Rest}
use Rattle.deflines.proofs.title_in_line.Given as goal

abbrev pub invariant-loop-p : goal.invariant-loop-p
invariant-loop-p l =
    let it = l.p-iterator in
    Rest (λ q. field_titles (field_at l.s q)) l.s (elements_left it.s.now it.at) l.left (item_from (titles_in l.s l.line) l.k)
