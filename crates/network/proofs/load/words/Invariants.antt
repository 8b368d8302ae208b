-- The invariants of `network::load::words`. Assumes nothing.
use Rattle.std.specs.Prelude.{ℕ}
use Rattle.lists.specs.Tab.{Filled}
use Rattle.network.specs.State.{word_in}
use Rattle.network.proofs.load.words.Given as goal

abbrev pub invariant-loop-p : goal.invariant-loop-p
invariant-loop-p l = Filled 32 (λ (q : ℕ). word_in l.state q l.j) l.p l.w-items
