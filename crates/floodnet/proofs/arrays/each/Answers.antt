-- `floodnet::arrays::each` meets its contract. Assumes nothing.
use Rattle.std.proofs.Common.{rules, ◌∙◌}
use Rattle.lists.specs.laws.Visit.{visiting_none, visiting_more, visiting_done, visits_edit}
use Rattle.floodnet.proofs.arrays.each.Goals as goal

pub loop-q-init : goal.loop-q-init
loop-q-init g c h made = visiting_none (search rules) (search rules)

pub loop-q-preserved : goal.loop-q-preserved
loop-q-preserved g c h made =
    visiting_more (c.loop-q.invariant h made) c.in-Some.ensures.steps
    (made _ _ (search rules) c.f.ensures)

pub returns : goal.returns
returns g c h made = visiting_done (c.loop-q.invariant h made) c.in-None.ensures.steps.0 ∙ visits_edit _ 32 _ _ (search rules)
