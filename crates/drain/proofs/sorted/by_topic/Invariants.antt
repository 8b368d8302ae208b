-- The invariants of `drain::sorted::by_topic`. Assumes nothing.
use Rattle.drain.proofs.Filing.{Sorting}
use Rattle.drain.proofs.sorted.by_topic.Given as goal

abbrev pub invariant-loop-m : goal.invariant-loop-m
invariant-loop-m l = Sorting l.table.topics l.s l.m-iterator.left l.r
