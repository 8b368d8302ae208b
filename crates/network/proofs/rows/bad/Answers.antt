-- `network::rows::bad` meets its contract. Assumes nothing.
use Rattle.std.specs.Prelude.{not}
use Rattle.std.proofs.Common.{rules, sym, ap, ◌∙◌}
use Rattle.sets.proofs.laws.Least.{lowest_of_all, lowest_of_found}
use Rattle.network.specs.RowWords.{bad_word}
use Rattle.network.proofs.rows.bad.Goals as goal

pub returns-then-all_right : goal.returns-then-all_right
unfolding bad_word
returns-then-all_right c = lowest_of_all 64 _ (sym c.all_right.ensures ∙ c.if-all_right.true)

pub returns-then-not-right : goal.returns-then-not-right
unfolding bad_word
returns-then-not-right c = (lowest_of_found 64 _ _ c.loop-r.invariant (search rules) (ap not (sym c.right.ensures ∙ c.if-not-right.true)), search rules)
