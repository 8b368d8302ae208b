-- `network::rules::row_known` meets its contract. Assumes nothing.
use Rattle.std.specs.Prelude.{not}
use Rattle.std.proofs.Common.{rules, sym, ap, ◌∙◌, ne_eqb}
use Rattle.sets.proofs.laws.Least.{lowest_of_all, lowest_of_found}
use Rattle.network.specs.Tests.{row_known}
use Rattle.network.proofs.Tests.{known_at_lem}
use Rattle.network.proofs.rules.row_known.Goals as goal

pub returns-then-row_same : goal.returns-then-row_same
unfolding row_known
returns-then-row_same c = lowest_of_all 32 _ (sym c.row_same.ensures ∙ c.if-row_same.true)

pub returns-then-known-spot : goal.returns-then-known-spot
unfolding row_known
returns-then-known-spot c =
    let a = c.args in
    let l = c.loop-t in
    (lowest_of_found 32 l.t _ l.invariant (search rules) (ap not (sym (known_at_lem a.known.now a.subscribers.now a.listed a.p l.t c.spot.ensures c.meet.ensures) ∙ ne_eqb _ _ c.if-known-spot.true)), search rules)
