-- The invariants of `floodnet::rows::in_row`. Assumes nothing.
use Rattle.std.proofs.Common.{ℕ}
use Rattle.floodnet.specs.Lent.{Makes}
use Rattle.floodnet.proofs.CodeRows.{Topical}
use Rattle.floodnet.proofs.rows.in_row.Given as goal

abbrev pub invariant-loop-t : goal.invariant-loop-t
invariant-loop-t g l = (h : ℕ → ℕ) → Makes (goal.F-post g l.f) h → Topical l.row.0 l.topics l.t-iterator.left h l.initial.known l.known
