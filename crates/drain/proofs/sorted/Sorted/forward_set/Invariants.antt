-- The invariants of `drain::sorted::Sorted::forward_set`. Assumes nothing.
use Rattle.drain.proofs.AtOnce.{Spreading}
use Rattle.drain.proofs.sorted.Sorted.forward_set.Given as goal

abbrev pub invariant-loop-t : goal.invariant-loop-t
invariant-loop-t l = Spreading l.self.table.now.topics l.i l.todo l.t-iterator.left l.initial.n l.n
