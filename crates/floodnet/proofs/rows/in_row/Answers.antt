-- `floodnet::rows::in_row` meets its contract. Assumes nothing.
use Rattle.std.proofs.Common.{rules}
use Rattle.floodnet.proofs.CodeVisit.{along_done}
use Rattle.floodnet.proofs.CodeRows.{topics_none, topics_more}
use Rattle.floodnet.proofs.rows.in_row.Goals as goal

pub loop-t-init : goal.loop-t-init
loop-t-init g c h made = topics_none _ _ _ (search rules) (search rules)

pub loop-t-preserved : goal.loop-t-preserved
loop-t-preserved g c h made =
    topics_more _ _ (c.loop-t.invariant h made) c.in-Some.ensures.steps c.spot-k.ensures (made _ _ (search rules) c.f.ensures)

pub returns : goal.returns
returns g c h made = along_done (c.loop-t.invariant h made) c.in-None.ensures.steps.0
