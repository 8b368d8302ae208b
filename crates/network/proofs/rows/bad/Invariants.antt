-- The invariants of `network::rows::bad`. Assumes nothing.
use Rattle.std.specs.Prelude.{◌≡◌, not, ℕ, get_or}
use Rattle.sets.specs.Least.{lowest_of}
use Rattle.network.specs.RowWords.{word_right}
use Rattle.network.proofs.rows.bad.Given as goal

abbrev pub invariant-loop-r : goal.invariant-loop-r
invariant-loop-r l = (l.r ≡ lowest_of l.r (λ (i : ℕ). not (word_right (get_or l.words i 0))))
