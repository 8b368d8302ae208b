-- `report::peer_lines` meets its contract. Assumes nothing.
use Rattle.std.proofs.Common.{rules}
use Rattle.report.proofs.ReportLaws.{lines_none, lines_room, lines_more, lines_all}
use Rattle.report.proofs.peer_lines.Goals as goal

pub loop-p-init : goal.loop-p-init
loop-p-init c = lines_none (search rules) (search rules)

pub peer_line-requires-clause-room : goal.peer_line-requires-clause-room
peer_line-requires-clause-room c = lines_room c.loop-p.invariant c.in-Some.ensures.steps c.requires

pub loop-p-preserved : goal.loop-p-preserved
loop-p-preserved c =
    lines_more c.loop-p.invariant c.in-Some.ensures.steps c.peer_line.ensures.line c.peer_line.ensures.bound

pub returns-clause-lines : goal.returns-clause-lines
returns-clause-lines c = lines_all c.loop-p.invariant c.in-None.ensures.steps.0
