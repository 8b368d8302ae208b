-- `floodnet::arrays::give` meets its contract. Assumes nothing.
use Rattle.std.proofs.Common.{rules}
use Rattle.sets.specs.Set.{puts}
use Rattle.lists.specs.laws.Visit.{visiting_none, visiting_wide, visiting_done}
use Rattle.floodnet.proofs.arrays.give.Goals as goal

pub loop-q-init : goal.loop-q-init
loop-q-init c = visiting_none (search rules) (search rules)

pub loop-q-preserved : goal.loop-q-preserved
unfolding puts
loop-q-preserved c =
    visiting_wide c.loop-q.invariant c.in-Some.ensures.steps
    c.with.ensures

pub returns : goal.returns
returns c = visiting_done c.loop-q.invariant c.in-None.ensures.steps.0
