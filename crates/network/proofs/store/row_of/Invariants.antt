-- The invariants of `network::store::row_of`. Assumes nothing.
use Rattle.std.specs.Prelude.{ℕ, ◌+◌, get_or}
use Rattle.lists.specs.Tab.{Filled}
use Rattle.network.proofs.store.row_of.Given as goal

abbrev pub invariant-loop-t : goal.invariant-loop-t
invariant-loop-t l = Filled 32 (λ (u : ℕ). get_or l.known (l.base + u) 0) l.t l.w-items
