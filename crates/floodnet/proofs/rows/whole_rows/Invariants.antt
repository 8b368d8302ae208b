-- The invariants of `floodnet::rows::whole_rows`. Assumes nothing.
use Rattle.std.proofs.Common.{ℕ}
use Rattle.floodnet.specs.Lent.{Makes}
use Rattle.floodnet.proofs.CodeRows.{Rowing}
use Rattle.floodnet.proofs.rows.whole_rows.Given as goal

abbrev pub invariant-loop-q : goal.invariant-loop-q
invariant-loop-q g l = (h : ℕ → ℕ) → Makes (goal.F-post g l.f) h → Rowing l.who l.q-iterator.left (λ i. h) l.initial.known l.known
