-- The invariants of `drain::waiting`. Assumes nothing.
use Rattle.std.specs.Prelude.{◌≡◌, ℕ, ◌*◌, ◌≤◌, eqb, get_or}
use Rattle.sets.specs.Any.{all}
use Rattle.sets.specs.Set.{has, count}
use Rattle.sets.specs.Sums.{sum}
use Rattle.drain.proofs.waiting.Given as goal

abbrev pub invariant-loop-w : goal.invariant-loop-w
invariant-loop-w l = (l.total ≡ sum l.w-index (λ (i : ℕ). count 64 (has (get_or l.pending i 0)))) × (l.total ≤ 64 * l.w-index) × (eqb l.total 0 ≡ all l.w-index (λ (i : ℕ). eqb (get_or l.pending i 0) 0))
