-- The invariants of `floodnet::rows::whole_row`. Assumes nothing.
use Rattle.std.proofs.Common.{◌≡◌, ℕ, ◌≤◌, ltb}
use Rattle.floodnet.specs.Lent.{Makes}
use Rattle.floodnet.proofs.CodeRows.{in_row}
use Rattle.floodnet.proofs.rows.whole_row.Given as goal

abbrev pub invariant-loop-t : goal.invariant-loop-t
invariant-loop-t g l = (l.t ≤ 32) × ((h : ℕ → ℕ) → Makes (goal.F-post g l.f) h → l.known ≡ in_row l.row.0 (λ t. ltb t l.t) h l.initial.known)
