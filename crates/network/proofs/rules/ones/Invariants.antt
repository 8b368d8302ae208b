-- The invariants of `network::rules::ones`. Assumes nothing.
use Rattle.std.specs.Prelude.{◌≡◌, ℕ, ◌%◌, eqb, get_or}
use Rattle.sets.specs.Set.{set_of}
use Rattle.network.proofs.rules.ones.Given as goal

abbrev pub invariant-loop-p : goal.invariant-loop-p
invariant-loop-p l = (l.r ≡ set_of l.p (λ (q : ℕ). eqb (get_or l.heads q 0 % 256) 1))
