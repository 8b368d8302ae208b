-- The invariants of `drain::sorted::topics_of`. Assumes nothing.
use Rattle.drain.proofs.Filing.{Using}
use Rattle.drain.proofs.sorted.topics_of.Given as goal

abbrev pub invariant-loop-m : goal.invariant-loop-m
invariant-loop-m l = Using l.table.topics l.s l.m-iterator.left l.r
