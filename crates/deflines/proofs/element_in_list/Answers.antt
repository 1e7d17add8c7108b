-- `deflines::element_in_list`: each call looks at one element. Assumes nothing.
use mathlib.Core.Path.{ap, ◌∙◌}
use mathlib.Core.List.{[], ◌∷◌}
use Rattle.std.proofs.Common.{rules}
use Rattle.deflines.specs.Numbered.{item_from}
use Rattle.deflines.proofs.Walks.{each_held}
use Rattle.deflines.proofs.Folds.{walk_gives}
use Rattle.deflines.proofs.element_in_list.Goals as goal

pub returns : goal.returns
returns c =
    walk_gives (λ b x v h k. search rules) c.args.s.now c.args.list (λ p. p ∷ []) (λ b x v h r k. search rules) c.elements_in.result
    c.try_fold.new.self _ _ c.elements_in.ensures c.try_fold.ensures.ran
    ∙ ap (λ ps. item_from ps c.args.k) (each_held _)
