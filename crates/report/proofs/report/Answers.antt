-- `report::report` meets its contract. Assumes nothing.
use Rattle.std.proofs.Common.{refl, rules}
use Rattle.report.proofs.ReportLaws.{reported_none, reported_first, reported_all}
use Rattle.report.proofs.report.Goals.{then-show, else-show}
use Rattle.report.proofs.report.Goals as goal

pub returns-then-out-lt1024 : goal.returns-then-out-lt1024
returns-then-out-lt1024 c = reported_none _ _ _ _ _ _ c.if-out-lt1024.true

pub returns : goal.returns
returns c =
    let first = c.first_line.ensures in
    elim c.if-show.branch [
      | then-show w ↦ let peers = w.peer_lines.ensures in reported_all _ _ _ _ _ c.if-out-lt1024.false refl w.if-show.true first.line first.bound peers.lines peers.bound w.page-is (search rules)
      | else-show w ↦ reported_first _ _ _ _ _ c.if-out-lt1024.false refl w.if-show.false first.line first.bound w.page-is (search rules)
    ]
