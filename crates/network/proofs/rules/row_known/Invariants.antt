-- The invariants of `network::rules::row_known`. Assumes nothing.
use Rattle.std.specs.Prelude.{◌≡◌, not, ℕ}
use Rattle.sets.specs.Least.{lowest_of}
use Rattle.network.specs.Tests.{same_at}
use Rattle.network.proofs.rules.row_known.Given as goal

abbrev pub invariant-loop-t : goal.invariant-loop-t
invariant-loop-t l = (l.t ≡ lowest_of l.t (λ (u : ℕ). not (same_at l.known l.subscribers l.listed l.p u)))
