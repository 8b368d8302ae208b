-- The invariants of `drain::sorted::Sorted::drain_round`: the peers below p have had their turn. Assumes nothing.
use Rattle.floodnet.specs.View.{fwd}
use Rattle.drain.specs.laws.Turns.{Peers}
use Rattle.drain.proofs.sorted.Sorted.drain_round.Given as goal

abbrev pub invariant-loop-p : goal.invariant-loop-p
invariant-loop-p l = Peers (fwd l.self.table.now) l.initial.n l.initial.n.pending l.left l.p l.n l.made
