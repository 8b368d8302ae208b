-- The invariants of `network::rules::listed_back`. Assumes nothing.
use Rattle.network.proofs.ListingBack.{Common}
use Rattle.network.proofs.rules.listed_back.Given as goal

abbrev pub invariant-loop-q : goal.invariant-loop-q
invariant-loop-q l = Common l.n.neighbours l.listed l.fn.p.0 l.q-iterator.left l.common
