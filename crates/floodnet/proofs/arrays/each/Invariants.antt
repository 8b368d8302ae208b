-- The invariants of `floodnet::arrays::each`. Assumes nothing.
use Rattle.std.proofs.Common.{ℕ}
use Rattle.lists.specs.laws.Visit.{Visiting}
use Rattle.floodnet.specs.Lent.{Makes}
use Rattle.floodnet.proofs.arrays.each.Given as goal

abbrev pub invariant-loop-q : goal.invariant-loop-q
invariant-loop-q g l = (h : ℕ → ℕ) → Makes (goal.F-post g l.f) h → Visiting 32 l.who l.q-iterator.left (λ q. h) l.initial.words l.words
