-- The invariants of `network::rows::all_right`. Assumes nothing.
use Rattle.std.specs.Prelude.{◌≡◌, ℕ, get_or}
use Rattle.sets.specs.Any.{all}
use Rattle.network.specs.RowWords.{word_right}
use Rattle.network.proofs.rows.all_right.Given as goal

abbrev pub invariant-loop-w : goal.invariant-loop-w
invariant-loop-w l = (l.ok ≡ all l.w-index (λ (i : ℕ). word_right (get_or l.words i 0)))
