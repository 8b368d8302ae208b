-- The invariants of `report::peer_lines`. Assumes nothing.
use Rattle.report.proofs.ReportLaws.{Lining}
use Rattle.report.proofs.peer_lines.Given as goal

abbrev pub invariant-loop-p : goal.invariant-loop-p
invariant-loop-p l = Lining l.n l.p-iterator.left l.initial.page l.page
