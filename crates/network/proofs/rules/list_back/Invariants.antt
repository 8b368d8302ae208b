-- The invariants of `network::rules::list_back`. Assumes nothing.
use Rattle.network.proofs.ListingBack.{Backs}
use Rattle.network.proofs.rules.list_back.Given as goal

abbrev pub invariant-loop-q : goal.invariant-loop-q
invariant-loop-q l = Backs l.neighbours l.listed l.p.0 l.q-iterator.left
