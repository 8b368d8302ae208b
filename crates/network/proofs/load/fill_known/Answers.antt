-- `network::load::fill_known` meets its contract. Assumes nothing.
use Rattle.network.specs.laws.Layout.{row_read}
use Rattle.network.proofs.load.fill_known.Goals as goal

pub loop-p-preserved : goal.loop-p-preserved
loop-p-preserved c = row_read _ c.loop-p.p c.row.ensures c.put_row.ensures c.loop-p.invariant
