-- The invariants of `drain::sorted::give_set`. Assumes nothing.
use Rattle.std.specs.Prelude.{get_or}
use Rattle.sets.specs.Set.{minus, puts}
use Rattle.lists.specs.laws.Visit.{Visiting}
use Rattle.drain.proofs.sorted.give_set.Given as goal

abbrev pub invariant-loop-q : goal.invariant-loop-q
invariant-loop-q l = Visiting 32 l.s l.q-iterator.left (λ q. puts (minus l.w (get_or l.seen q 0))) l.initial.pending l.pending
