-- `network::rules::list_back` meets its contract. Assumes nothing.
use Rattle.std.proofs.Common.{rules, sym, ◌∙◌}
use Rattle.network.proofs.ListingBack.{backs_none, backs_more, backs_all, backs_not}
use Rattle.network.proofs.rules.list_back.Goals as goal

pub loop-q-init : goal.loop-q-init
loop-q-init c = backs_none (search rules) (search rules)

pub returns-then-not-has : goal.returns-then-not-has
returns-then-not-has c = backs_not c.loop-q.invariant c.in-Some.ensures.steps (sym c.has.ensures ∙ c.if-not-has.true)

pub loop-q-preserved : goal.loop-q-preserved
loop-q-preserved c = backs_more c.loop-q.invariant c.in-Some.ensures.steps (sym c.has.ensures ∙ c.if-not-has.false)

pub returns : goal.returns
returns c = backs_all c.loop-q.invariant c.in-None.ensures.steps.0
