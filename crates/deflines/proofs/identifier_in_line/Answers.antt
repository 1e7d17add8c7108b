-- `deflines::identifier_in_line`: each call looks through one field. Assumes nothing.
use Rattle.std.proofs.Common.{rules}
use Rattle.deflines.specs.Fields.{field_at, field_identifiers, identifiers_in}
use Rattle.deflines.proofs.Folds.{walk_callable, walk_gives}
use Rattle.deflines.proofs.identifier_in_line.Goals as goal

pub try_fold-requires-clause-callable : goal.try_fold-requires-clause-callable
try_fold-requires-clause-callable c =
    walk_callable (λ b x v h k. search rules) c.args.s.now c.args.line c.elements_in.ensures (λ b x h. search rules)

pub returns : goal.returns
unfolding identifiers_in
returns c =
    walk_gives (λ b x v h k. search rules) c.args.s.now c.args.line (λ p. field_identifiers c.args.s.now (field_at c.args.s.now p)) (λ b x v h r k. search rules) c.elements_in.result
    c.try_fold.new.self _ _ c.elements_in.ensures c.try_fold.ensures.ran
