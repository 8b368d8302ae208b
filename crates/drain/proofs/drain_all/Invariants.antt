-- The invariants of `drain::drain_all`. Assumes nothing.
use Rattle.std.specs.Prelude.{◌≡◌, ◌-◌, eqb}
use Rattle.drain.specs.Pairs.{waiting_of, empty_words}
use Rattle.drain.specs.laws.LentLaws.{Rounds}
use Rattle.drain.specs.AtOnce.{EachFiled}
use Rattle.drain.proofs.drain_all.Given as goal

abbrev pub invariant-rounds : goal.invariant-rounds
invariant-rounds l =
    Rounds l.sorted.table.now l.budget l.initial.n l.n l.made l.rounds × (l.due ≡ waiting_of l.n.pending) × (eqb l.due 0 ≡ empty_words l.n.pending) × EachFiled l.sorted.table.now.topics l.sorted.words l.sorted.used l.n.pending

abbrev pub decreases-rounds : goal.decreases-rounds
decreases-rounds l = l.budget - l.made
