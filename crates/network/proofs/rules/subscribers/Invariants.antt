-- The invariants of `network::rules::subscribers`. Assumes nothing.
use Rattle.std.specs.Prelude.{◌≡◌}
use Rattle.lists.specs.Tab.{tab}
use Rattle.network.proofs.Gathering.{up_to}
use Rattle.network.proofs.rules.subscribers.Given as goal

abbrev pub invariant-loop-q : goal.invariant-loop-q
invariant-loop-q l = (l.r ≡ tab 32 (up_to l.subs l.q))
