-- The invariants of `network::store::heads`. Assumes nothing.
use Rattle.std.specs.Prelude.{ℕ}
use Rattle.lists.specs.laws.Visit.{Visiting}
use Rattle.network.proofs.store.heads.Given as goal

-- 1 is put at each place
abbrev pub one : ℕ → ℕ → ℕ
one p x = 1

abbrev pub invariant-loop-p : goal.invariant-loop-p
invariant-loop-p l = Visiting 32 l.present l.p-iterator.left one l.initial.r l.r
