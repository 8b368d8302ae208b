-- The invariants of `broadcastnet::settled`: the first q sets are those of `without`. Assumes nothing.
use Rattle.std.specs.Prelude.{ℕ, get_or}
use Rattle.sets.specs.Set.{minus}
use Rattle.lists.specs.Tab.{Filled}
use Rattle.broadcastnet.proofs.settled.Given as goal

abbrev pub invariant-loop-q : goal.invariant-loop-q
invariant-loop-q l = Filled 32 (λ (i : ℕ). minus (get_or l.seen i 0) l.w) l.q l.r
