-- The invariants of `network::rows::words`. Assumes nothing.
use Rattle.lists.specs.Tab.{Filled}
use Rattle.network.specs.RowWords.{row_word}
use Rattle.network.proofs.rows.words.Given as goal

abbrev pub invariant-loop-r : goal.invariant-loop-r
invariant-loop-r l = Filled 64 (row_word l.table) l.r l.w-items
