-- The invariants of `network::load::longs`. Assumes nothing.
use Rattle.std.specs.Prelude.{ℕ}
use Rattle.lists.specs.Tab.{Filled}
use Rattle.network.specs.State.{long_in}
use Rattle.network.proofs.load.longs.Given as goal

abbrev pub invariant-loop-p : goal.invariant-loop-p
invariant-loop-p l = Filled 32 (λ (q : ℕ). long_in l.state q l.j) l.p l.w-items
