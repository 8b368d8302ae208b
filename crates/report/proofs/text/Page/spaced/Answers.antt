-- `report::text::Page::spaced` meets its contract. Assumes nothing.
use Rattle.report.specs.Text.{spaced}
use Rattle.report.proofs.Write.{put_then}
use Rattle.report.proofs.text.Page.spaced.Goals as goal

pub returns : goal.returns
unfolding spaced
returns c = put_then c.put.ensures c.number.ensures
