-- The invariants of `drain::sorted::Sorted::drain_peer`. Assumes nothing.
use Rattle.std.proofs.Common.{◌-◌, ◌≤◌}
use Rattle.floodnet.specs.View.{fwd}
use Rattle.drain.specs.laws.Pairs.{Walk}
use Rattle.drain.proofs.sorted.Sorted.drain_peer.Given as goal

abbrev pub invariant-loop-m : goal.invariant-loop-m
invariant-loop-m l =
    (l.m-iterator.n ≤ l.left) × Walk (fwd l.self.table.now) l.initial.n l.p.0 l.todo l.left l.n l.m-iterator.iter.left (l.left - l.m-iterator.n)
