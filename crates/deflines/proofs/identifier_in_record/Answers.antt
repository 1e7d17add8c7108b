-- `deflines::identifier_in_record`: each call looks through one def-line. Assumes nothing.
use Rattle.std.proofs.Common.{rules}
use Rattle.deflines.specs.Fields.{identifiers_in, identifiers_of}
use Rattle.deflines.proofs.Folds.{walk_callable, walk_gives}
use Rattle.deflines.proofs.identifier_in_record.Goals as goal

pub try_fold-requires-clause-callable : goal.try_fold-requires-clause-callable
try_fold-requires-clause-callable c =
    walk_callable (λ b x v h k. search rules) c.args.s.now c.args.start c.elements_in.ensures (λ b x h. search rules)

pub returns : goal.returns
unfolding identifiers_of
returns c =
    walk_gives (λ b x v h k. search rules) c.args.s.now c.args.start (identifiers_in c.args.s.now) (λ b x v h r k. search rules) c.elements_in.result
    c.try_fold.new.self _ _ c.elements_in.ensures c.try_fold.ensures.ran
