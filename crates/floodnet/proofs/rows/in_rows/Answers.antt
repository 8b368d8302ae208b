-- `floodnet::rows::in_rows` meets its contract. Assumes nothing.
use Rattle.std.proofs.Common.{rules, sym, ◌∙◌}
use Rattle.floodnet.proofs.CodeVisit.{along_done}
use Rattle.floodnet.proofs.CodeRows.{rows_none, rows_more, both}
use Rattle.floodnet.proofs.rows.in_rows.Goals as goal

pub loop-q-init : goal.loop-q-init
loop-q-init g c h made = rows_none _ _ (search rules) (search rules)

pub loop-q-preserved : goal.loop-q-preserved
loop-q-preserved g c h made =
    rows_more _ (c.loop-q.invariant h made) c.in-Some.ensures.steps (c.in_row.ensures h made ∙ both _ _ _ _)

pub returns : goal.returns
returns g c h made = along_done (c.loop-q.invariant h made) c.in-None.ensures.steps.0 ∙ sym (both _ _ _ _)
