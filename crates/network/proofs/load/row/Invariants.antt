-- The invariants of `network::load::row`. Assumes nothing.
use Rattle.std.specs.Prelude.{ℕ, ◌+◌}
use Rattle.lists.specs.Tab.{Filled}
use Rattle.network.specs.State.{word_in}
use Rattle.network.proofs.load.row.Given as goal

abbrev pub invariant-loop-t : goal.invariant-loop-t
invariant-loop-t l = Filled 32 (λ (u : ℕ). word_in l.state l.i (8 + u)) l.t l.w-items
