-- `report::peer_line` meets its contract: its parts one after the other. Assumes nothing.
use Rattle.report.specs.Report.{peer_line, count_line, peer_word}
use Rattle.report.proofs.Write.{put_then}
use Rattle.report.proofs.peer_line.Goals as goal

pub returns-clause-line : goal.returns-clause-line
unfolding peer_line count_line peer_word
returns-clause-line c =
    rw (← c.size.ensures.size, ← c.size-2.ensures.size, ← c.size-3.ensures.size)
    (put_then (put_then (put_then (put_then (put_then c.put.ensures c.number.ensures) c.spaced.ensures) c.spaced-2.ensures) c.spaced-3.ensures) c.newline.ensures)
