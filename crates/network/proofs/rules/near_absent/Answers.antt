-- `network::rules::near_absent` meets its contract. Assumes nothing.
use Rattle.std.proofs.Common.{rules, ◌∙◌}
use Rattle.network.proofs.Tests.{near_next}
use Rattle.network.proofs.rules.near_absent.Goals as goal

pub returns : goal.returns
returns c = near_next _ _ _ c.next.result (search rules) (c.members.ensures ∙ c.minus.ensures) c.next.ensures.steps
