-- The invariants of `network::rules::row_empty`. Assumes nothing.
use Rattle.std.specs.Prelude.{◌≡◌, ℕ, ◌+◌, eqb, get_or}
use Rattle.sets.specs.Any.{all}
use Rattle.network.proofs.rules.row_empty.Given as goal

abbrev pub invariant-loop-t : goal.invariant-loop-t
invariant-loop-t l = (l.same ≡ all l.t (λ (u : ℕ). eqb (get_or l.known (l.base + u) 0) 0))
