-- The invariants of `network::rows::columns`. Assumes nothing.
use Rattle.std.specs.Prelude.{ℕ, ◌/◌, ◌%◌, get_or}
use Rattle.lists.specs.Tab.{Filled}
use Rattle.network.proofs.rows.columns.Given as goal

abbrev pub invariant-loop-r : goal.invariant-loop-r
invariant-loop-r l = Filled 64 (λ (i : ℕ). get_or l.words i 0 % 256) l.r l.topics × Filled 64 (λ (i : ℕ). get_or l.words i 0 / 256 % 256) l.r l.origins
