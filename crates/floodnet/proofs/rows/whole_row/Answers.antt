-- `floodnet::rows::whole_row` meets its contract. Assumes nothing.
use Rattle.std.proofs.Common.{rules, arith}
use Rattle.floodnet.proofs.CodeRows.{row_start, row_more, row_all}
use Rattle.floodnet.proofs.rows.whole_row.Goals as goal

pub loop-t-init : goal.loop-t-init
loop-t-init g c = (search rules, λ h made. row_start _ _ _)

pub loop-t-preserved : goal.loop-t-preserved
loop-t-preserved g c =
    (search rules, λ h made. row_more _ _ _ _ (search rules) (c.loop-t.invariant.1 h made) c.spot-k.ensures (made _ _ (search rules) c.f.ensures))

pub returns : goal.returns
returns g c h made = row_all _ _ _ _ (c.loop-t.invariant.1 h made) (omega arith)
