-- `floodnet::rows::learn` meets its contract. Assumes nothing.
use Rattle.std.proofs.Common.{rules}
use Rattle.sets.specs.Set.{puts}
use Rattle.floodnet.proofs.CodeVisit.{along_none, along_done}
use Rattle.floodnet.proofs.CodeWalks.{learnt_none, learning}
use Rattle.floodnet.proofs.rows.learn.Goals as goal

pub loop-q-init : goal.loop-q-init
loop-q-init c = along_none _ _ (search rules) (search rules) (learnt_none _ _)

pub loop-q-preserved : goal.loop-q-preserved
unfolding puts
loop-q-preserved c =
    learning _ _ c.loop-q.invariant c.in-Some.ensures.steps (c.in_row.ensures _ (λ w r b k. search rules))

pub returns : goal.returns
returns c = along_done c.loop-q.invariant c.in-None.ensures.steps.0
