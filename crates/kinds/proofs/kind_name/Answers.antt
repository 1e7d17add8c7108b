-- `kinds::kind_name`: the kind is tested first, and its name is put. Assumes nothing.
use Rattle.std.proofs.Common.{rules}
use Rattle.kinds.specs.Names.{name_answer, name_output}
use Rattle.kinds.proofs.kind_name.Goals as goal

pub returns-then-not-contains-clause-value : goal.returns-then-not-contains-clause-value
unfolding name_answer
returns-then-not-contains-clause-value c = search rules

pub returns-then-not-contains-clause-out_after : goal.returns-then-not-contains-clause-out_after
unfolding name_output name_answer
returns-then-not-contains-clause-out_after c = search rules

pub returns-clause-value : goal.returns-clause-value
unfolding name_answer
returns-clause-value c = search rules

pub returns-clause-out_after : goal.returns-clause-out_after
unfolding name_output name_answer
returns-clause-out_after c = search rules
