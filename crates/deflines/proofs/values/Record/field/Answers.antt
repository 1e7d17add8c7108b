-- `deflines::values::Record::field`: the first field with the tag; a field has two bytes in the file. Assumes nothing.
use mathlib.Core.Path.{◌≡◌, ◌∙◌}
use lib.ListN.{get_or}
use lib.Dec.{eqb}
use Rattle.std.proofs.Common.{rules}
use Rattle.std.proofs.lemmas.Iterator.Consumers.{YieldsList-from_first}
use Rattle.std.proofs.lemmas.Iterator.Search.{find_from_yields_List}
use Rattle.deflines.specs.Fields.{elements_left}
use Rattle.deflines.specs.Identifiers.{field_in}
use Rattle.deflines.proofs.Identifiers.{field_found, option_same}
use Rattle.deflines.proofs.values.Record.field.Goals as goal

pub returns : goal.returns
unfolding field_in
returns c =
    let a = c.args.self.now in
    let same : c.find.result ≡ field_in a.s.now a.at c.args.tag =
    option_same c.find.result
    ∙ find_from_yields_List {s = c.elements_in.result} (λ p. eqb (get_or a.s.now p 0) c.args.tag) c.find.new.self _ _ c.find.ensures.ran
    (YieldsList-from_first (λ p. p) (λ e. elements_left e.s.now e.at) _ c.elements_in.ensures)
    (λ x b q k. search rules) in
    record { value = same; room = field_found a.s.now a.at c.args.tag _ same }
