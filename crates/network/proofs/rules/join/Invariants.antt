-- The invariants of `network::rules::join`. Assumes nothing.
use Rattle.sets.specs.Set.{only, puts}
use Rattle.lists.specs.laws.Visit.{Visiting}
use Rattle.network.proofs.rules.join.Given as goal

abbrev pub invariant-loop-t : goal.invariant-loop-t
invariant-loop-t l = Visiting 32 l.topics l.t-iterator.left (λ t. puts (only l.fn.q.0)) l.initial.to l.to
