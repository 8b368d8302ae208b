-- `network::rules::join` meets its contract. Assumes nothing.
use Rattle.std.proofs.Common.{rules, ◌∙◌}
use Rattle.sets.specs.Set.{puts}
use Rattle.lists.specs.laws.Visit.{visiting_none, visiting_more, visiting_done, visits_edit}
use Rattle.network.specs.Tests.{joined_to}
use Rattle.network.proofs.rules.join.Goals as goal

pub loop-t-init : goal.loop-t-init
loop-t-init c = visiting_none (search rules) (search rules)

pub loop-t-preserved : goal.loop-t-preserved
unfolding puts
loop-t-preserved c = visiting_more c.loop-t.invariant c.in-Some.ensures.steps c.with.ensures

pub returns : goal.returns
unfolding joined_to
returns c = visiting_done c.loop-t.invariant c.in-None.ensures.steps.0 ∙ visits_edit _ 32 _ _ (search rules)
