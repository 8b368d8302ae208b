-- The invariants of `floodnet::rows::in_rows`. Assumes nothing.
use Rattle.std.proofs.Common.{ℕ, ◌%◌}
use Rattle.sets.specs.Set.{has, when}
use Rattle.floodnet.specs.Lent.{Makes}
use Rattle.floodnet.proofs.CodeRows.{Rowing}
use Rattle.floodnet.proofs.rows.in_rows.Given as goal

abbrev pub invariant-loop-q : goal.invariant-loop-q
invariant-loop-q g l = (h : ℕ → ℕ) → Makes (goal.F-post g l.f) h → Rowing l.who l.q-iterator.left (λ i. when (has l.topics (i % 32)) h) l.initial.known l.known
