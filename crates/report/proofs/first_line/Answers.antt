-- `report::first_line` meets its contract: its parts one after the other. Assumes nothing.
use Rattle.report.specs.Report.{first_line, flood}
use Rattle.report.proofs.Write.{put_then}
use Rattle.report.proofs.first_line.Goals as goal

pub returns-clause-line : goal.returns-clause-line
unfolding first_line flood
returns-clause-line c =
    put_then (put_then (put_then (put_then c.put.ensures c.number.ensures) c.spaced.ensures) c.spaced-2.ensures) c.newline.ensures
