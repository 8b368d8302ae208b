-- The invariants of `network::verdict::verdict`. Assumes nothing.
use Rattle.std.specs.Prelude.{◌≡◌, ℕ, ◌<◌, get_or}
use Rattle.network.specs.Network.{peer}
use Rattle.network.specs.Rules.{fault_of}
use Rattle.network.proofs.verdict.verdict.Given as goal

abbrev pub invariant-loop-p : goal.invariant-loop-p
invariant-loop-p l = (q : ℕ) → q < l.p → fault_of (get_or l.heads q 0) l.n (peer q) ≡ 0
