-- `network::rules::listed_back` meets its contract. Assumes nothing.
use Rattle.std.proofs.Common.{rules, sym, ◌∙◌}
use Rattle.sets.proofs.Words.{has_all}
use Rattle.network.specs.Rules.{back_right}
use Rattle.network.proofs.ListingBack.{common_none, common_more, common_all}
use Rattle.network.proofs.rules.listed_back.Goals as goal

pub loop-q-init : goal.loop-q-init
loop-q-init c = common_none (search rules) (search rules) (has_all 32 _ c.requires)

pub loop-q-preserved : goal.loop-q-preserved
loop-q-preserved c = common_more c.loop-q.invariant c.in-Some.ensures.steps c.meet-common.ensures

pub returns : goal.returns
unfolding back_right
returns c = c.has.ensures ∙ common_all (search rules) c.loop-q.invariant c.in-None.ensures.steps.0
