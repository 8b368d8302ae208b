-- `drain::sorted::give_set` meets its contract. Assumes nothing.
use Rattle.std.proofs.Common.{rules, ap, ◌∙◌}
use Rattle.sets.specs.Set.{union, puts}
use Rattle.lists.specs.laws.Visit.{visiting_none, visiting_wide, visiting_done, visits_edit}
use Rattle.drain.specs.AtOnce.{gives}
use Rattle.drain.proofs.sorted.give_set.Goals as goal

pub loop-q-init : goal.loop-q-init
loop-q-init c = visiting_none (search rules) (search rules)

pub loop-q-preserved : goal.loop-q-preserved
unfolding puts
loop-q-preserved c =
    visiting_wide c.loop-q.invariant c.in-Some.ensures.steps
    (c.union.ensures ∙ ap (union _) c.minus.ensures)

pub returns-clause-pending_after : goal.returns-clause-pending_after
unfolding gives
returns-clause-pending_after c = visiting_done c.loop-q.invariant c.in-None.ensures.steps.0 ∙ visits_edit _ 32 _ _ (search rules)
